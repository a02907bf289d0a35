use Rattle.bosh_ports.specs.Walk.{GoesOn}
use Rattle.bosh_ports.proofs.folder.meet_entries.Given as goal

abbrev pub invariant-loop-entry : goal.invariant-loop-entry
invariant-loop-entry g l =
    (goal.iterator-loop-entry g).can_next l.entry-iterator
    × (goal.iterator-loop-entry g).is_finite l.entry-iterator
    × GoesOn l.initial.walk l.walk
