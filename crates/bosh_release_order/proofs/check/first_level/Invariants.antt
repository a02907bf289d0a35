use Rattle.bosh_release_order.specs.Numbers.{AreAbove}
use Rattle.bosh_release_order.proofs.check.first_level.Given as goal

abbrev pub invariant-loop-place : goal.invariant-loop-place
invariant-loop-place l = AreAbove l.graph l.numbers l.place
