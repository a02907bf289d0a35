-- What was done to a cloud in its order: nothing was done to a machine or a disk that was not created before, and no
-- two calls had one number (this project's profile: a call that names what is not there has no effect).
use Rattle.std.specs.Prelude.{◌≡◌, ℕ, Bool, true, false, nat_le, nat_lt, ◌&&◌, ◌==◌, List, [], ◌∷◌}
use Rattle.std.specs.List.{list_all, list_any}
use Rattle.bosh_base.specs.Cloud.{disks_created, vms_created}
use Rattle.bosh_base.specs.History.{EachAfter}
use Rattle.bosh_base.specs.declared.call.Call.{Call}
use Rattle.bosh_base.specs.declared.call.Call.TheVariants.{DeleteVm, CreateDisk, DeleteDisk, AttachDisk, DetachDisk, Apply, Start, Drain, Stop, MountDisk, UnmountDisk, MigrateDisk}
use Rattle.bosh_base.specs.declared.entry.Entry.{Entry}
use Rattle.bosh_base.specs.declared.entry.Entry.TheVariants.{Effect, Write, Lost}

-- ---- what an entry names

-- the machine that a call that changes the cloud names
abbrev pub vms_named_by : Call → List ℕ
vms_named_by (DeleteVm vm) = vm ∷ []
vms_named_by (CreateDisk want vm) = vm ∷ []
vms_named_by (AttachDisk vm disk) = vm ∷ []
vms_named_by (DetachDisk vm disk) = vm ∷ []
vms_named_by (Apply vm spec) = vm ∷ []
vms_named_by (Start vm) = vm ∷ []
vms_named_by (Drain vm) = vm ∷ []
vms_named_by (Stop vm) = vm ∷ []
vms_named_by (MountDisk vm disk) = vm ∷ []
vms_named_by (UnmountDisk vm disk) = vm ∷ []
vms_named_by (MigrateDisk vm from to) = vm ∷ []
vms_named_by call = []

-- .. and the disks; the hint of a creation names none
abbrev pub disks_named_by : Call → List ℕ
disks_named_by (DeleteDisk disk) = disk ∷ []
disks_named_by (AttachDisk vm disk) = disk ∷ []
disks_named_by (DetachDisk vm disk) = disk ∷ []
disks_named_by (MountDisk vm disk) = disk ∷ []
disks_named_by (UnmountDisk vm disk) = disk ∷ []
disks_named_by (MigrateDisk vm from to) = from ∷ to ∷ []
disks_named_by call = []

abbrev pub vms_named : Entry → List ℕ
vms_named (Effect e) = vms_named_by e.call
vms_named (Lost loss) = loss.vm ∷ []
vms_named entry = []

abbrev pub disks_named : Entry → List ℕ
disks_named (Effect e) = disks_named_by e.call
disks_named (Write w) = w.disk ∷ []
disks_named entry = []

-- ---- the order

-- the numbers from 1 to this one are those of what was created
abbrev pub is_created : ℕ → ℕ → Bool
is_created count number = nat_lt 0 number && nat_le number count

-- an effect of the call of this number
abbrev pub is_of_call : ℕ → Entry → Bool
is_of_call n (Effect e) = e.n == n
is_of_call n entry = false

-- a call of this number had its effect
abbrev pub is_taken : List Entry → ℕ → Bool
is_taken before n = list_any (is_of_call n) before

-- the number of a call is one that no call before had
abbrev pub is_new_call : List Entry → Entry → Type 0
is_new_call before (Effect e) = is_taken before e.n ≡ false
is_new_call before entry = Unit {0}

-- the entry names only what was created, and is of a new call
pub record IsNext (before : List Entry) (entry : Entry) : Type 0 where
  pub vms : list_all (is_created (vms_created before)) (vms_named entry) ≡ true
  pub disks : list_all (is_created (disks_created before)) (disks_named entry) ≡ true
  pub number : is_new_call before entry

abbrev pub AreOrderly : List Entry → Type 0
AreOrderly entries = EachAfter IsNext [] entries
