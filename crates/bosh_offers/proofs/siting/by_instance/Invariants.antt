use Rattle.std.proofs.Common.{◌≡◌, ◌-◌, ◌++◌, map}
use Rattle.bosh_offers.specs.Sited.{by_instance}
use Rattle.bosh_offers.proofs.siting.by_instance.Given as goal

-- the instances so far, and those that follow, are all of them
abbrev pub invariant-loop : goal.invariant-loop
invariant-loop l =
    by_instance l.fn.count l.width l.addrs
    ≡ map (λ own. own.now) l.all.items ++ by_instance (l.fn.count - l.counter) l.width l.others
