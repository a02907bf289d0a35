-- What a call on the cloud may answer, and whether it then has its effect
-- (bosh.io, "CPI API v1" and "Agent API", in this project's profile).
use Rattle.std.specs.Prelude.{◌≡◌, ◌⊎◌, ℕ, ◌+◌, Bool, true, false, not, ◌&&◌, ◌||◌, ◌==◌, if◌then◌else◌, Option, Some, None, is_some, List, find, IsTrue}
use Rattle.bosh_base.specs.Call.{method_of}
use Rattle.bosh_base.specs.Method.{is_changing}
use Rattle.bosh_base.specs.Cloud.{numbers_to, vms_created, vm_creation, is_vm_there, is_silent, spec_of, is_running, is_drained, disks_created, disk_creation, is_disk_there, holder_of, is_holder, is_disk_mounted, attached_to, mounted_on}
use Rattle.bosh_base.specs.declared.answer.Answer.{Answer}
use Rattle.bosh_base.specs.declared.answer.Answer.TheVariants as answers
use Rattle.bosh_base.specs.declared.call.Call.{Call}
use Rattle.bosh_base.specs.declared.call.Call.TheVariants.{CreateVm, DeleteVm, HasVm, FindVm, CreateDisk, DeleteDisk, HasDisk, FindDisk, AttachDisk, DetachDisk, GetDisks, Ping, GetState, Apply, Start, Drain, Stop, MountDisk, UnmountDisk, ListDisk, MigrateDisk, CompilePackage}
use Rattle.bosh_base.specs.declared.digest.Digest.{Digest}
use Rattle.bosh_base.specs.declared.entry.Effect as effect
use Rattle.bosh_base.specs.declared.entry.Entry.{Entry}
use Rattle.bosh_base.specs.declared.key.KeyWork.{KeyWork}

abbrev pub yes_or_no : Bool → Answer
yes_or_no true = answers.Yes
yes_or_no false = answers.No

-- the answer where the test holds, and else that something is gone
abbrev pub unless_gone : Bool → Answer → Answer
unless_gone test answer = if test then answer else answers.Gone

abbrev pub is_gone : Answer → Bool
is_gone answers.Gone = true
is_gone answer = false

abbrev pub has_number : ℕ → Option effect.Effect → Bool
has_number n (Some e) = e.n == n
has_number n None = false

-- a machine whose agent answers
abbrev pub has_agent : List Entry → ℕ → Bool
has_agent entries v = is_vm_there entries v && not (is_silent entries v)

-- a disk that is on the machine or on none, and not mounted
abbrev pub is_movable : List Entry → ℕ → ℕ → Bool
is_movable entries v d = is_disk_there entries d && ((not (is_some (holder_of entries d)) || is_holder entries v d) && not (is_mounted entries d))
  where
    is_mounted : List Entry → ℕ → Bool
    is_mounted entries d = is_some (holder_of entries d) && is_disk_mounted entries d

-- a disk that is there and attached to the machine
abbrev pub is_attached : List Entry → ℕ → ℕ → Bool
is_attached entries v d = is_disk_there entries d && is_holder entries v d

abbrev pub is_mounted_on : List Entry → ℕ → ℕ → Bool
is_mounted_on entries v d = is_attached entries v d && is_disk_mounted entries d

-- the least machine there with that agent, and the least disk there with that tag
abbrev pub found_vm : List Entry → ℕ → Option ℕ
found_vm entries agent = find (λ v. is_vm_there entries v && has_number agent (vm_creation entries v)) (numbers_to (vms_created entries))

abbrev pub found_disk : List Entry → ℕ → Option ℕ
found_disk entries tag = find (λ d. is_disk_there entries d && has_number tag (disk_creation entries d)) (numbers_to (disks_created entries))

-- what a call answers where it does not fail; `built` is what a compilation gives
abbrev pub answer_of : (KeyWork → List Digest → Digest) → List Entry → Call → Answer
answer_of built entries (CreateVm make disks) = answers.Cid (vms_created entries + 1)
answer_of built entries (DeleteVm vm) = unless_gone (is_vm_there entries vm) answers.Done
answer_of built entries (HasVm vm) = yes_or_no (is_vm_there entries vm)
answer_of built entries (FindVm agent) = answers.Found (found_vm entries agent)
answer_of built entries (CreateDisk want vm) = unless_gone (is_vm_there entries vm) (answers.Cid (disks_created entries + 1))
answer_of built entries (DeleteDisk disk) = unless_gone (is_disk_there entries disk && not (is_some (holder_of entries disk))) answers.Done
answer_of built entries (HasDisk disk) = yes_or_no (is_disk_there entries disk)
answer_of built entries (FindDisk tag) = answers.Found (found_disk entries tag)
answer_of built entries (AttachDisk vm disk) = unless_gone (is_vm_there entries vm && is_movable entries vm disk) answers.Done
answer_of built entries (DetachDisk vm disk) = unless_gone (is_vm_there entries vm && is_movable entries vm disk) answers.Done
answer_of built entries (GetDisks vm) = unless_gone (is_vm_there entries vm) (answers.Disks (attached_to entries vm))
answer_of built entries (Ping vm) = unless_gone (has_agent entries vm) answers.Done
answer_of built entries (GetState vm) = unless_gone (has_agent entries vm) (answers.Facts (spec_of entries vm) (is_running entries vm) (is_drained entries vm))
answer_of built entries (Apply vm spec) = unless_gone (has_agent entries vm) answers.Done
answer_of built entries (Start vm) = unless_gone (has_agent entries vm) answers.Done
answer_of built entries (Drain vm) = unless_gone (has_agent entries vm) answers.Done
answer_of built entries (Stop vm) = unless_gone (has_agent entries vm) answers.Done
answer_of built entries (MountDisk vm disk) = unless_gone (has_agent entries vm && is_attached entries vm disk) answers.Done
answer_of built entries (UnmountDisk vm disk) = unless_gone (has_agent entries vm && is_attached entries vm disk) answers.Done
answer_of built entries (ListDisk vm) = unless_gone (has_agent entries vm) (answers.Disks (mounted_on entries vm))
answer_of built entries (MigrateDisk vm from to) = unless_gone (has_agent entries vm && (is_mounted_on entries vm from && is_mounted_on entries vm to)) answers.Done
answer_of built entries (CompilePackage vm work deps) = unless_gone (has_agent entries vm) (answers.Built (built work deps))

-- a changing call changes the cloud, unless something is gone
abbrev pub takes_effect : (KeyWork → List Digest → Digest) → List Entry → Call → Bool
takes_effect built entries call = is_changing (method_of call) && not (is_gone (answer_of built entries call))

-- a call answers so, with or without its effect: as the cloud has it; or it fails, and a call that would take
-- effect may have done so
abbrev pub CallStep : (KeyWork → List Digest → Digest) → List Entry → Call → Bool → Answer → Type 0
CallStep built entries call has_effect answer =
    ((answer ≡ answer_of built entries call) × (has_effect ≡ takes_effect built entries call))
    ⊎ ((answer ≡ answers.Failed) × (IsTrue has_effect → IsTrue (takes_effect built entries call)))
