use Rattle.std.proofs.Common.{◌≡◌, map}
use Rattle.bosh_compile.specs.Leveled.{work_of}
use Rattle.bosh_compile.proofs.order.works_of.Given as goal

-- the items so far gave their works
abbrev pub invariant-loop-leveled : goal.invariant-loop-leveled
invariant-loop-leveled l = l.works.items ≡ map work_of l.yielded
