use Rattle.std.proofs.Common.{◌≡◌, take}
use Rattle.std.specs.List.{flat_map}
use Rattle.bosh_cloudcfg.specs.Config.{subnets_of}
use Rattle.bosh_cloudcfg.proofs.assembly.plan_of.Given as goal

abbrev pub invariant-loop-network : goal.invariant-loop-network
invariant-loop-network l = l.subnets.items ≡ flat_map (subnets_of l.azs) (take l.network-index l.networks)
