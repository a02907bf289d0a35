-- What a call of an instance changes in what is recorded of it (this project's profile).
use Rattle.std.specs.Prelude.{ℕ, Bool, true, false, not, ◌==◌, if◌then◌else◌, Option, Some, None, List, [], ◌∷◌, ◌++◌, map, filter}
use Rattle.std.specs.List.{list_any}
use Rattle.bosh_base.specs.Call.{method_of}
use Rattle.bosh_base.specs.Method.{is_changing}
use Rattle.bosh_base.specs.declared.answer.Answer.{Answer}
use Rattle.bosh_base.specs.declared.answer.Answer.TheVariants as answers
use Rattle.bosh_base.specs.declared.call.Call.{Call}
use Rattle.bosh_base.specs.declared.call.Call.TheVariants.{CreateVm, DeleteVm, HasVm, FindVm, CreateDisk, FindDisk, AttachDisk, DetachDisk, GetDisks, Ping, GetState, Apply, Start, Drain, Stop, MountDisk, UnmountDisk, ListDisk, MigrateDisk}
use Rattle.bosh_base.specs.declared.disk_want.DiskWant.{DiskWant}
use Rattle.bosh_base.specs.declared.goal.GoalRow.{GoalRow}
use Rattle.bosh_base.specs.declared.inst.Inst.{Inst}
use Rattle.bosh_base.specs.declared.make.Make.{Make}
use Rattle.bosh_base.specs.declared.row.DiskRow.{DiskRow}
use Rattle.bosh_base.specs.declared.row.Doubt as doubt
use Rattle.bosh_base.specs.declared.row.Role.{Role}
use Rattle.bosh_base.specs.declared.row.Role.TheVariants.{Active, New, Old}
use Rattle.bosh_base.specs.declared.row.Row.{Row}
use Rattle.bosh_base.specs.declared.spec.Spec.{Spec}
use Rattle.bosh_rows.specs.Disks.{is_active, stays}

-- nothing is recorded of the instance
abbrev pub bare : Inst → Row
bare i = record {
  inst = i;
  make = None;
  vm = None;
  spec = None;
  running = false;
  drained = false;
  disks = [];
  doubt = None;
  lost = false;
}

-- ---- a call begins

-- Until it is answered, nobody knows whether a changing call had its effect. The contents of a new disk are not
-- relied on before a migration to it was answered, so that one leaves no doubt.
abbrev pub leaves_doubt : Call → Bool
leaves_doubt (MigrateDisk vm from to) = false
leaves_doubt call = is_changing (method_of call)

abbrev pub make_asked : Call → Option Make → Option Make
make_asked (CreateVm make disks) old = Some make
make_asked call old = old

-- the row, once the call n began
abbrev pub begun_row : ℕ → Call → Row → Row
begun_row n call row = record row {
  make = make_asked call row.make;
  doubt = if leaves_doubt call then Some (record { n = n; call = call }) else row.doubt;
}

-- ---- a call is answered

abbrev pub let_go : DiskRow → DiskRow
let_go d = record d { attached = false; mounted = false }

abbrev pub attach : DiskRow → DiskRow
attach d = record d { attached = true }

abbrev pub mount : DiskRow → DiskRow
mount d = record d { mounted = true }

abbrev pub unmount : DiskRow → DiskRow
unmount d = record d { mounted = false }

-- one disk of several changes
abbrev pub changing : ℕ → (DiskRow → DiskRow) → List DiskRow → List DiskRow
changing d change disks = map (λ it. if it.disk == d then change it else it) disks

abbrev pub attached_by : List ℕ → DiskRow → DiskRow
attached_by numbers d = record d { attached = list_any (λ n. n == d.disk) numbers }

abbrev pub mounted_by : List ℕ → DiskRow → DiskRow
mounted_by numbers d = record d { mounted = list_any (λ n. n == d.disk) numbers }

-- the row with these disks, and no call in doubt
abbrev pub with_disks : List DiskRow → Row → Row
with_disks disks row = record row { disks = disks; doubt = None }

-- the row with what its machine tells of itself
abbrev pub with_facts : Option Spec → Bool → Bool → Row → Row
with_facts spec running drained row = record row { spec = spec; running = running; drained = drained; doubt = None }

-- the machine is absent, and with it what it had
abbrev pub without_machine : Row → Row
without_machine row = record row {
  vm = None;
  spec = None;
  running = false;
  drained = false;
  disks = map let_go row.disks;
  doubt = None;
  lost = false;
}

-- the machine that was made by a call, or that there is none
abbrev pub with_machine : ℕ → Option ℕ → Row → Row
with_machine agent (Some v) row = record row { vm = Some (record { vm = v; agent = agent }); doubt = None }
with_machine agent None row = without_machine row

-- what a new disk is to its instance: the contents are to be moved to it, where there is a disk that has them
abbrev pub new_role : List DiskRow → Role
new_role disks = if list_any is_active disks then New else Active

-- the disk that was made by a call, or that there is none
abbrev pub with_disk : ℕ → DiskWant → Option ℕ → Row → Row
with_disk tag wanted (Some d) row = record row {
  disks =
      row.disks
      ++ record { disk = d; tag = tag; want = wanted; role = new_role row.disks; attached = false; mounted = false }
      ∷ [];
  doubt = None;
}
with_disk tag wanted None row = record row { doubt = None }

-- the disk that the call in doubt asked for
abbrev pub with_found : ℕ → Option ℕ → Option doubt.Doubt → Row → Row
with_found tag found (Some d) row = by_call d.call
  where
    by_call : Call → Row
    by_call (CreateDisk wanted vm) = with_disk tag wanted found row
    by_call call = row
with_found tag found None row = row

-- the contents were moved
abbrev pub migrated_disks : ℕ → ℕ → List DiskRow → List DiskRow
migrated_disks from to disks =
    changing to (λ d. record d { role = Active }) (changing from (λ d. record d { role = Old }) disks)

-- an answer that tells what there is; one that is not of the call's kind tells nothing
abbrev pub row_by_answer : ℕ → Call → Answer → Row → Row
row_by_answer n (CreateVm make disks) (answers.Cid v) row = with_machine n (Some v) row
row_by_answer n (FindVm agent) (answers.Found found) row = with_machine agent found row
row_by_answer n (DeleteVm vm) answers.Done row = without_machine row
row_by_answer n (HasVm vm) answers.No row = without_machine row
row_by_answer n (HasVm vm) answers.Yes row = record row { doubt = None }
row_by_answer n (CreateDisk wanted vm) (answers.Cid d) row = with_disk n wanted (Some d) row
row_by_answer n (FindDisk tag) (answers.Found found) row = with_found tag found row.doubt row
row_by_answer n (AttachDisk vm d) answers.Done row = with_disks (changing d attach row.disks) row
row_by_answer n (DetachDisk vm d) answers.Done row = with_disks (changing d let_go row.disks) row
row_by_answer n (GetDisks vm) (answers.Disks numbers) row = with_disks (map (attached_by numbers) row.disks) row
row_by_answer n (MountDisk vm d) answers.Done row = with_disks (changing d mount row.disks) row
row_by_answer n (UnmountDisk vm d) answers.Done row = with_disks (changing d unmount row.disks) row
row_by_answer n (ListDisk vm) (answers.Disks numbers) row = with_disks (map (mounted_by numbers) row.disks) row
row_by_answer n (MigrateDisk vm from to) answers.Done row = record row { disks = migrated_disks from to row.disks }
row_by_answer n (Apply vm spec) answers.Done row = record row { spec = Some spec; doubt = None }
row_by_answer n (Start vm) answers.Done row = record row { running = true; drained = false; doubt = None }
row_by_answer n (Drain vm) answers.Done row = record row { drained = true; doubt = None }
row_by_answer n (Stop vm) answers.Done row = record row { running = false; doubt = None }
row_by_answer n (GetState vm) (answers.Facts spec running drained) row = with_facts spec running drained row
row_by_answer n call answer row = row

-- What a call names is not there. A ping then finds the machine lost; the deletion of a lost machine is as good as
-- done; any other call had no effect.
abbrev pub row_at_gone : Call → Row → Row
row_at_gone (Ping vm) row = record row { lost = true }
row_at_gone (DeleteVm vm) row = if row.lost then without_machine row else record row { doubt = None }
row_at_gone call row = record row { doubt = None }

-- the row, once the call n was answered; a failure tells nothing
abbrev pub after : ℕ → Call → Answer → Row → Row
after n call answers.Failed row = row
after n call answers.Gone row = row_at_gone call row
after n call answer row = row_by_answer n call answer row

-- Only what is new in a row asks for memory: a disk, a spec, and the facts of a machine.
abbrev pub asks_for_memory : Call → Answer → Bool
asks_for_memory (CreateDisk wanted vm) (answers.Cid d) = true
asks_for_memory (FindDisk tag) (answers.Found (Some d)) = true
asks_for_memory (Apply vm spec) answers.Done = true
asks_for_memory (GetState vm) (answers.Facts spec running drained) = true
asks_for_memory call answer = false

-- ---- an update is done

-- the disks that stay with the instance
abbrev pub updated_row : GoalRow → Row → Row
updated_row want row = record row { disks = filter (stays want) row.disks }

-- those that are orphaned
abbrev pub left_behind : GoalRow → Row → List DiskRow
left_behind want row = filter (λ d. not (stays want d)) row.disks
