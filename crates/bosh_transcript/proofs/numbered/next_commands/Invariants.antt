use Rattle.bosh_transcript.proofs.ReadLemmas.{AreTaken}
use Rattle.bosh_transcript.proofs.numbered.next_commands.Given as goal

-- as many commands were read as turns were made
abbrev pub invariant-loop : goal.invariant-loop
invariant-loop g l =
    AreTaken g.I.Source.left g.I.Source.faults l.counter l.fn.input l.input l.fn.source l.source l.commands.items
