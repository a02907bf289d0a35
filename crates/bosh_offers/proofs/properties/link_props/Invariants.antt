use Rattle.std.proofs.Common.{◌≡◌, filter_map, take}
use Rattle.bosh_offers.specs.Offers.{prop_of}
use Rattle.bosh_offers.proofs.properties.link_props.Given as goal

abbrev pub invariant-loop-name : goal.invariant-loop-name
invariant-loop-name l = l.props.items ≡ filter_map (prop_of l.job) (take l.name-index l.listed)
