use Rattle.bosh_release_order.specs.Numbers.{RanksOf}
use Rattle.bosh_release_order.proofs.check.ranks_of.Given as goal

abbrev pub invariant-loop-place : goal.invariant-loop-place
invariant-loop-place l = RanksOf l.graph l.numbers l.ranks.items l.place
