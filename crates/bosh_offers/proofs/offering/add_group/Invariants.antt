use Rattle.std.proofs.Common.{◌≡◌, ◌++◌, take}
use Rattle.std.specs.List.{flat_map}
use Rattle.bosh_offers.specs.Offers.{job_offers}
use Rattle.bosh_offers.proofs.offering.add_group.Given as goal

abbrev pub invariant-loop-used : goal.invariant-loop-used
invariant-loop-used l =
    l.offers.items ≡ l.initial.offers.items ++ flat_map (job_offers l.choice l.dep l.group) (take l.used-index l.jobs)
