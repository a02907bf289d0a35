use Rattle.std.proofs.Common.{◌≡◌, take}
use Rattle.bosh_rows.specs.Disks.{active_disks}
use Rattle.bosh_rows.proofs.call_made.active_disks.Given as goal

abbrev pub invariant-loop-disk : goal.invariant-loop-disk
invariant-loop-disk l = l.numbers.items ≡ active_disks (take l.disk-index l.disks)
