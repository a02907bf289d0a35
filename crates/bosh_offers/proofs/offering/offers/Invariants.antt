use Rattle.std.proofs.Common.{◌≡◌, take}
use Rattle.bosh_offers.specs.Offers.{offers}
use Rattle.bosh_offers.proofs.offering.offers.Given as goal

abbrev pub invariant-loop-group : goal.invariant-loop-group
invariant-loop-group l = l.all.items ≡ offers l.choice l.dep (take l.group-index l.groups)
