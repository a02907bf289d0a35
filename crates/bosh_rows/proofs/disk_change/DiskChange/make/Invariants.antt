use Rattle.std.proofs.Common.{◌≡◌, ◌++◌, take, drop, map}
use Rattle.bosh_rows.specs.DiskChange.{disk_after}
use Rattle.bosh_rows.proofs.disk_change.DiskChange.make.Given as goal

-- the disks so far are changed, and the others as they were
abbrev pub invariant-loop-place : goal.invariant-loop-place
invariant-loop-place l =
    l.disks ≡ map (disk_after l.self) (take l.place l.initial.disks) ++ drop l.place l.initial.disks
