use Rattle.std.proofs.Common.{◌≡◌, drop}
use Rattle.bosh_cloudcfg.specs.Passes.{first_in, out_of_place}
use Rattle.bosh_cloudcfg.proofs.passes.check_places.Given as goal

-- nothing was found so far
abbrev pub invariant-loop-subnet : goal.invariant-loop-subnet
invariant-loop-subnet l = first_in out_of_place l.subnets ≡ first_in out_of_place (drop l.subnet-index l.subnets)
