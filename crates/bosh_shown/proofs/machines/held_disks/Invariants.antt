use Rattle.std.proofs.Common.{◌≡◌, map, take}
use Rattle.bosh_shown.specs.Cloud.{held_disk}
use Rattle.bosh_shown.proofs.machines.held_disks.Given as goal

-- those so far
abbrev pub invariant-loop-disk : goal.invariant-loop-disk
invariant-loop-disk l = l.disks.items ≡ map (held_disk l.machine) (take l.disk-index l.disk-items)
