use Rattle.std.proofs.Common.{◌≡◌, ◌++◌, drop}
use Rattle.bosh_shown.specs.Cloud.{AreHolders, disk_lines}
use Rattle.bosh_shown.proofs.disks.disk_lines.Given as goal

-- those so far, and those of the others
abbrev pub invariant-loop-slot : goal.invariant-loop-slot
invariant-loop-slot l =
    AreHolders l.machines l.holders
    × (l.lines.items ++ disk_lines l.machines (drop l.slot-index l.slots) ≡ disk_lines l.machines l.slots)
