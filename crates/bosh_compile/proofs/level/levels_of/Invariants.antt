use Rattle.bosh_compile.specs.Rounds.{IsAfter}
use Rattle.bosh_compile.specs.Table.{IsGraph}
use Rattle.bosh_compile.proofs.level.levels_of.Given as goal

-- so many rounds are done
abbrev pub invariant-loop-round : goal.invariant-loop-round
invariant-loop-round l = (graph : IsGraph l.works l.nodes.items) × IsAfter l.works l.nodes.items graph.number l.round l.progress.items
