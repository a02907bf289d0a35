use Rattle.std.proofs.Common.{◌≡◌, drop}
use Rattle.bosh_cloudcfg.specs.Passes.{first_in, unknown_zone}
use Rattle.bosh_cloudcfg.proofs.passes.check_all_zones.Given as goal

-- nothing was found so far
abbrev pub invariant-loop-subnet : goal.invariant-loop-subnet
invariant-loop-subnet l = first_in (unknown_zone l.azs) l.subnets ≡ first_in (unknown_zone l.azs) (drop l.subnet-index l.subnets)
