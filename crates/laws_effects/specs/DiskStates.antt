-- What one more entry changes in a disk (bosh.io, "CPI API v1" and "Agent API", in this project's profile).
use Rattle.std.specs.Prelude.{ℕ, ◌+◌, Bool, true, false, ◌==◌, if◌then◌else◌, Option, Some, None, List, []}
use Rattle.bosh_base.specs.Cloud.{contents_of, holder_of, is_disk_mounted, is_disk_there}
use Rattle.bosh_base.specs.declared.call.Call.{Call}
use Rattle.bosh_base.specs.declared.call.Call.TheVariants.{DeleteVm, CreateDisk, DeleteDisk, AttachDisk, DetachDisk, MountDisk, UnmountDisk, MigrateDisk}
use Rattle.bosh_base.specs.declared.entry.Entry.{Entry}
use Rattle.bosh_base.specs.declared.entry.Entry.TheVariants.{Effect, Write, Lost}

-- what is to be said of the disk of a number, but for how it was made
pub record DiskState : Type 0 where
  pub there : Bool
  pub holder : Option ℕ
  pub mounted : Bool
  pub contents : List ℕ

abbrev pub disk_state : List Entry → ℕ → DiskState
disk_state entries d = record {
  there = is_disk_there entries d;
  holder = holder_of entries d;
  mounted = is_disk_mounted entries d;
  contents = contents_of entries d;
}

abbrev pub new_disk : DiskState
new_disk = record { there = true; holder = None; mounted = false; contents = [] }

-- a machine that goes lets go of its disks
abbrev pub let_go_by : ℕ → Option ℕ → Option ℕ
let_go_by vm (Some holder) = if vm == holder then None else Some holder
let_go_by vm None = None

-- disk d after a call that had its effect, where so many were created before it; `contents` is of each disk before it
abbrev pub disk_after_call : ℕ → (ℕ → List ℕ) → ℕ → Call → DiskState → DiskState
disk_after_call created contents d (DeleteVm vm) it = record it { holder = let_go_by vm it.holder }
disk_after_call created contents d (CreateDisk want vm) it = if created + 1 == d then new_disk else it
disk_after_call created contents d (DeleteDisk disk) it = if disk == d then record it { there = false } else it
disk_after_call created contents d (AttachDisk vm disk) it =
    if disk == d then record it { holder = Some vm; mounted = false } else it
disk_after_call created contents d (DetachDisk vm disk) it = if disk == d then record it { holder = None } else it
disk_after_call created contents d (MountDisk vm disk) it = if disk == d then record it { mounted = true } else it
disk_after_call created contents d (UnmountDisk vm disk) it = if disk == d then record it { mounted = false } else it
disk_after_call created contents d (MigrateDisk vm from to) it =
    if d == to then record it { contents = contents from } else it
disk_after_call created contents d call it = it

abbrev pub disk_after : ℕ → (ℕ → List ℕ) → ℕ → Entry → DiskState → DiskState
disk_after created contents d (Effect e) it = disk_after_call created contents d e.call it
disk_after created contents d (Write w) it = if d == w.disk then record it { contents = w.text } else it
disk_after created contents d (Lost loss) it =
    if loss.whole then record it { holder = let_go_by loss.vm it.holder } else it
disk_after created contents d entry it = it
