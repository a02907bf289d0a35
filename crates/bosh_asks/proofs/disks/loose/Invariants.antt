use Rattle.std.proofs.Common.{◌≡◌, ◌++◌}
use Rattle.bosh_asks.specs.Recorded.{loose}
use Rattle.bosh_asks.proofs.disks.loose.Given as goal

-- those so far, and those of the others
abbrev pub invariant-loop-disk : goal.invariant-loop-disk
invariant-loop-disk l = l.disks.items ++ loose l.disk-iterator ≡ loose l.fn.orphans
