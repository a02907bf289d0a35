use Rattle.std.proofs.Common.{◌≡◌, ◌++◌, map, take}
use Rattle.bosh_cloudcfg.specs.Config.{subnet_of}
use Rattle.bosh_cloudcfg.proofs.assembly.add_subnets.Given as goal

abbrev pub invariant-loop-fields : goal.invariant-loop-fields
invariant-loop-fields l = l.subnets.items ≡ l.fn.subnets.items ++ map (subnet_of l.azs l.network.name) (take l.fields-index l.network.subnets)
