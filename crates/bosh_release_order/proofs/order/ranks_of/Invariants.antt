use Rattle.bosh_release_order.specs.Search.{AreRanks}
use Rattle.bosh_release_order.proofs.order.ranks_of.Given as goal

abbrev pub invariant-loop-place : goal.invariant-loop-place
invariant-loop-place l = AreRanks l.graph l.ranks.items l.place
