-- What one answer says of a row, for the reader of the step rule: each of these facts is that of the last answer that
-- says it.
use Rattle.std.specs.Prelude.{◌≡◌, ℕ, Bool, true, false, not, ◌||◌, ◌==◌, if◌then◌else◌, Option, Some, None, List}
use Rattle.std.specs.List.{list_any, list_all}
use Rattle.std.specs.Option.{option_and_then, option_map}
use Rattle.bosh_base.specs.declared.answer.Answer.{Answer}
use Rattle.bosh_base.specs.declared.answer.Answer.TheVariants as answers
use Rattle.bosh_base.specs.declared.call.Call.{Call}
use Rattle.bosh_base.specs.declared.call.Call.TheVariants.{CreateVm, DeleteVm, HasVm, FindVm, CreateDisk, FindDisk, GetState, Apply, Start, Stop, MigrateDisk}
use Rattle.bosh_base.specs.declared.row.DiskRow.{DiskRow}
use Rattle.bosh_base.specs.declared.row.Doubt.{Doubt}
use Rattle.bosh_base.specs.declared.row.Row.{Row}
use Rattle.bosh_base.specs.declared.row.Vm.{Vm}
use Rattle.bosh_base.specs.declared.spec.Spec.{Spec}
use Rattle.bosh_rows.specs.Disks.{is_active, active}

-- the answer says that the machine is absent: it was deleted, or is not there
abbrev pub says_absent : Row → Call → Answer → Bool
says_absent row (DeleteVm vm) answers.Done = true
says_absent row (DeleteVm vm) answers.Gone = row.lost
says_absent row (HasVm vm) answers.No = true
says_absent row (FindVm agent) (answers.Found None) = true
says_absent row call answer = false

-- the machine that an answer says is there
abbrev pub machine_told : ℕ → Call → Answer → Option (Option Vm)
machine_told n (CreateVm make disks) (answers.Cid v) = Some (Some (record { vm = v; agent = n }))
machine_told n (FindVm agent) (answers.Found (Some v)) = Some (Some (record { vm = v; agent = agent }))
machine_told n call answer = None

-- .. and its spec: that of an apply, or the one that it tells of itself
abbrev pub spec_told : Call → Answer → Option (Option Spec)
spec_told (Apply vm spec) answers.Done = Some (Some spec)
spec_told (GetState vm) (answers.Facts spec running drained) = Some spec
spec_told call answer = None

-- .. and whether it runs: it was started or stopped, or tells it of itself
abbrev pub running_told : Call → Answer → Option Bool
running_told (Start vm) answers.Done = Some true
running_told (Stop vm) answers.Done = Some false
running_told (GetState vm) (answers.Facts spec running drained) = Some running
running_told call answer = None

-- what is said, or what an absent machine has, or what was there before
abbrev pub or_before : {A : Type 0} → Bool → A → Option A → A → A
or_before absent none (Some told) before = told
or_before absent none None before = if absent then none else before

-- ---- the active disk

abbrev pub active_number : List DiskRow → Option ℕ
active_number disks = option_map (λ d. d.disk) (active disks)

-- the disk that is found, where the call that is looked for asked for one
abbrev pub disk_made : Option ℕ → Call → Option ℕ
disk_made found (CreateDisk wanted vm) = found
disk_made found call = None

-- the disk that an answer says is there, which becomes active where none is
abbrev pub disk_told : Call → Answer → Option Doubt → Option ℕ
disk_told (CreateDisk wanted vm) (answers.Cid d) doubt = Some d
disk_told (FindDisk tag) (answers.Found found) doubt = option_and_then (λ it. disk_made found it.call) doubt
disk_told call answer doubt = None

-- the first, or where there is none the second
abbrev pub first_number : Option ℕ → Option ℕ → Option ℕ
first_number (Some d) other = Some d
first_number None other = other

abbrev pub is_migration : Call → Bool
is_migration (MigrateDisk vm from to) = true
is_migration call = false

-- the disk is the only active one, and the other is one of the row, too
pub record CanMigrate (from to : ℕ) (disks : List DiskRow) : Type 0 where
  pub other : (from == to) ≡ false
  pub only : list_all (λ d. not (is_active d) || d.disk == from) disks ≡ true
  pub is_there : list_any (λ d. d.disk == to) disks ≡ true
