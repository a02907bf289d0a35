use Rattle.std.proofs.Common.{◌≡◌, ◌-◌}
use Rattle.bosh_offers.specs.Sited.{beyond}
use Rattle.bosh_offers.proofs.siting.beyond.Given as goal

abbrev pub invariant-loop : goal.invariant-loop
invariant-loop l = beyond l.fn.count l.width l.addrs ≡ beyond (l.fn.count - l.counter) l.width l.others
