-- What was done to a cloud in its order: what is there was made, and nothing was done to what is not made yet
-- (this project's profile: a call that names what is not there has no effect).
use Rattle.std.specs.Prelude.{◌≡◌, ℕ, ◌≤◌, ◌<◌, true, false, Option, Some, None, is_some, List, []}
use Rattle.bosh_base.specs.Cloud.{by_call, attached, vms_created, is_vm_there, is_silent, spec_of, is_running, is_drained, machine_of, disks_created, is_disk_there, holder_of, contents_of, disk_of}
use Rattle.bosh_base.specs.History.{latest}
use Rattle.bosh_base.specs.declared.entry.Entry.{Entry}

-- nothing was done to machine v
pub record IsUntouched (entries : List Entry) (v : ℕ) : Type 0 where
  pub no_spec : spec_of entries v ≡ None
  pub not_running : is_running entries v ≡ false
  pub not_drained : is_drained entries v ≡ false
  pub not_silent : is_silent entries v ≡ false

-- machine v is there only where it was made, and nothing was done to it before
pub record IsOrderlyVm (entries : List Entry) (v : ℕ) : Type 0 where
  pub made : is_vm_there entries v ≡ is_some (machine_of entries v)
  pub numbered : is_vm_there entries v ≡ true → (1 ≤ v) × (v ≤ vms_created entries)
  pub ahead : vms_created entries < v → IsUntouched entries v

-- the machine of the last attach of disk d, where no detach came later
abbrev pub last_holder : List Entry → ℕ → Option ℕ
last_holder entries d = latest (by_call (attached d)) None entries

-- disk d is there only where it was made, it was attached only to a machine that was made, it is there where a
-- machine has it, and nothing was done to it before it was made
pub record IsOrderlyDisk (entries : List Entry) (d : ℕ) : Type 0 where
  pub made : is_disk_there entries d ≡ is_some (disk_of entries d)
  pub numbered : is_disk_there entries d ≡ true → (1 ≤ d) × (d ≤ disks_created entries)
  pub held : is_some (holder_of entries d) ≡ true → is_disk_there entries d ≡ true
  pub holder_made : (v : ℕ) → last_holder entries d ≡ Some v → v ≤ vms_created entries
  pub not_held : disks_created entries < d → last_holder entries d ≡ None
  pub empty : disks_created entries < d → contents_of entries d ≡ []

pub record IsOrderlyCloud (entries : List Entry) : Type 0 where
  pub vms : (v : ℕ) → IsOrderlyVm entries v
  pub disks : (d : ℕ) → IsOrderlyDisk entries d
