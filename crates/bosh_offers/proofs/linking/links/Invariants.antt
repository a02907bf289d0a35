use Rattle.std.proofs.Common.{◌≡◌, filter_map, take}
use Rattle.bosh_offers.specs.Tied.{link_env}
use Rattle.bosh_offers.proofs.linking.links.Given as goal

abbrev pub invariant-loop-link : goal.invariant-loop-link
invariant-loop-link l =
    l.links.items ≡ filter_map (link_env l.offered l.dep l.group l.used) (take l.link-index l.consumed)
