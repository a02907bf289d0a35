use Rattle.std.proofs.Common.{◌≡◌, ◌++◌, filter_map, take}
use Rattle.bosh_offers.specs.Offers.{chosen}
use Rattle.bosh_offers.proofs.offering.add_links.Given as goal

abbrev pub invariant-loop-link : goal.invariant-loop-link
invariant-loop-link l =
    l.offers.items ≡ l.initial.offers.items
    ++ filter_map (chosen l.choice l.dep l.group l.used) (take l.link-index l.links)
