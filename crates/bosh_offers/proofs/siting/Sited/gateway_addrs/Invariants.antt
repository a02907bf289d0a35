use Rattle.std.proofs.Common.{◌≡◌, map, take}
use Rattle.bosh_offers.specs.Sited.{gateway_addr}
use Rattle.bosh_offers.proofs.siting.Sited.gateway_addrs.Given as goal

abbrev pub invariant-loop-own : goal.invariant-loop-own
invariant-loop-own l = l.addrs.items ≡ map (λ own. gateway_addr l.group own.now) (take l.own-index l.own-items)
