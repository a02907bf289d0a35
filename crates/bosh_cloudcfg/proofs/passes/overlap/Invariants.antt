use Rattle.std.proofs.Common.{◌≡◌, drop}
use Rattle.bosh_cloudcfg.specs.Passes.{overlap}
use Rattle.bosh_cloudcfg.proofs.passes.overlap.Given as goal

-- the subnets so far overlap no other
abbrev pub invariant-loop-i : goal.invariant-loop-i
invariant-loop-i l = overlap l.subnets ≡ overlap (drop l.i l.subnets)
