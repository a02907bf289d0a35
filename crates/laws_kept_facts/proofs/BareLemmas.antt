-- A row in doubt of a deletion, that is not lost, has no disk attached, after each call.
use Rattle.std.proofs.Common.{◌≡◌, ℕ, Bool, true, false, Option, Some, None, refl, ◌∙◌}
use Rattle.std.specs.Prelude.{◌||◌, if◌then◌else◌, not}
use Rattle.std.specs.List.{list_all}
use Rattle.bosh_base.specs.declared.answer.Answer.{Answer}
use Rattle.bosh_base.specs.declared.answer.Answer.TheVariants as answers
use Rattle.bosh_base.specs.declared.call.Call.{Call}
use Rattle.bosh_base.specs.declared.call.Call.TheVariants as calls
use Rattle.bosh_base.specs.declared.row.Doubt.{Doubt}
use Rattle.bosh_base.specs.declared.row.Row.{Row}
use Rattle.bosh_rows.specs.After.{after, begun_row, row_at_gone, row_by_answer, with_found, with_machine, without_machine}
use Rattle.laws_row_facts.specs.Rows.{is_deleted_bare}

or_true : (b : Bool) → (b || true) ≡ true
or_true true = refl
or_true false = refl

-- what a call is to find
abbrev pub LeavesBare : ℕ → Call → Row → Type 0
LeavesBare n (calls.CreateDisk wanted v) row = Unit {0}
LeavesBare n (calls.MigrateDisk v from to) row = row.doubt ≡ None
LeavesBare n (calls.CreateVm make hint) row = Unit {0}
LeavesBare n (calls.DeleteVm v) row = (row.lost || list_all (λ d. not d.attached) row.disks) ≡ true
LeavesBare n (calls.DeleteDisk d) row = Unit {0}
LeavesBare n (calls.AttachDisk v d) row = Unit {0}
LeavesBare n (calls.DetachDisk v d) row = Unit {0}
LeavesBare n (calls.Apply v spec) row = Unit {0}
LeavesBare n (calls.Start v) row = Unit {0}
LeavesBare n (calls.Drain v) row = Unit {0}
LeavesBare n (calls.Stop v) row = Unit {0}
LeavesBare n (calls.MountDisk v d) row = Unit {0}
LeavesBare n (calls.UnmountDisk v d) row = Unit {0}
LeavesBare n call row = is_deleted_bare row ≡ true

no_doubt : (row : Row) → row.doubt ≡ None → is_deleted_bare row ≡ true
no_doubt row none = (λ i. is_deleted_bare (record row { doubt = none i })) ∙ or_true row.lost

found_bare : (row : Row) (tag : ℕ) (found : Option ℕ) (doubt : Option Doubt) →
    row.doubt ≡ doubt → is_deleted_bare row ≡ true → is_deleted_bare (with_found tag found doubt row) ≡ true
found_bare row tag found None is last = last
found_bare row tag found (Some d) is last = by_call d.n d.call
  where
    by_found : (m : ℕ) (wanted : _) (v : ℕ) (o : Option ℕ) →
        is_deleted_bare (with_found tag o (Some (record { n = m; call = calls.CreateDisk wanted v })) row) ≡ true
    by_found m wanted v None = or_true row.lost
    by_found m wanted v (Some it) = or_true row.lost

    by_call : (m : ℕ) (c : Call) →
        is_deleted_bare (with_found tag found (Some (record { n = m; call = c })) row) ≡ true
    by_call m (calls.CreateDisk wanted v) = by_found m wanted v found
    by_call m c = last

machine_bare : (row : Row) (agent : ℕ) (found : Option ℕ) →
    is_deleted_bare (with_machine agent found row) ≡ true
machine_bare row agent (Some v) = or_true row.lost
machine_bare row agent None = refl

told_bare : (n : ℕ) (call : Call) (answer : Answer) (row : Row) → LeavesBare n call row →
    is_deleted_bare (row_by_answer n call answer (begun_row n call row)) ≡ true
told_bare n (calls.CreateVm make hint) (answers.Cid v) row leaves = or_true row.lost
told_bare n (calls.FindVm agent) (answers.Found found) row leaves = machine_bare row agent found
told_bare n (calls.DeleteVm v) answers.Done row leaves = refl
told_bare n (calls.HasVm v) answers.No row leaves = refl
told_bare n (calls.HasVm v) answers.Yes row leaves = or_true row.lost
told_bare n (calls.CreateDisk wanted v) (answers.Cid d) row leaves = or_true row.lost
told_bare n (calls.FindDisk tag) (answers.Found found) row leaves =
    found_bare row tag found row.doubt refl leaves
told_bare n (calls.AttachDisk v d) answers.Done row leaves = or_true row.lost
told_bare n (calls.DetachDisk v d) answers.Done row leaves = or_true row.lost
told_bare n (calls.GetDisks v) (answers.Disks ks) row leaves = or_true row.lost
told_bare n (calls.MountDisk v d) answers.Done row leaves = or_true row.lost
told_bare n (calls.UnmountDisk v d) answers.Done row leaves = or_true row.lost
told_bare n (calls.ListDisk v) (answers.Disks ks) row leaves = or_true row.lost
told_bare n (calls.MigrateDisk v from to) answers.Done row leaves =
    no_doubt (row_by_answer n (calls.MigrateDisk v from to) answers.Done row) leaves
told_bare n (calls.MigrateDisk v from to) answer row leaves =
    no_doubt (row_by_answer n (calls.MigrateDisk v from to) answer row) (stays answer)
  where
    stays : (answer : Answer) → (row_by_answer n (calls.MigrateDisk v from to) answer row).doubt ≡ None
    stays answers.Done = leaves
    stays answer = leaves
told_bare n (calls.Apply v spec) answers.Done row leaves = or_true row.lost
told_bare n (calls.Start v) answers.Done row leaves = or_true row.lost
told_bare n (calls.Drain v) answers.Done row leaves = or_true row.lost
told_bare n (calls.Stop v) answers.Done row leaves = or_true row.lost
told_bare n (calls.GetState v) (answers.Facts spec running drained) row leaves = or_true row.lost
told_bare n (calls.CreateDisk wanted v) answer row leaves = still answer
  where
    still : (answer : Answer) →
        is_deleted_bare (row_by_answer n (calls.CreateDisk wanted v) answer
        (begun_row n (calls.CreateDisk wanted v) row)) ≡ true
    still (answers.Cid d) = or_true row.lost
    still answer = or_true row.lost
told_bare n (calls.CreateVm make hint) answer row leaves = still answer
  where
    still : (answer : Answer) →
        is_deleted_bare (row_by_answer n (calls.CreateVm make hint) answer
        (begun_row n (calls.CreateVm make hint) row)) ≡ true
    still (answers.Cid v) = or_true row.lost
    still answer = or_true row.lost
told_bare n (calls.DeleteVm v) answer row leaves = still answer
  where
    still : (answer : Answer) →
        is_deleted_bare (row_by_answer n (calls.DeleteVm v) answer (begun_row n (calls.DeleteVm v) row)) ≡ true
    still answers.Done = refl
    still answer = leaves
told_bare n (calls.DeleteDisk d) answer row leaves = or_true row.lost
told_bare n (calls.AttachDisk v d) answer row leaves = still answer
  where
    still : (answer : Answer) →
        is_deleted_bare (row_by_answer n (calls.AttachDisk v d) answer (begun_row n (calls.AttachDisk v d) row))
        ≡ true
    still answers.Done = or_true row.lost
    still answer = or_true row.lost
told_bare n (calls.DetachDisk v d) answer row leaves = still answer
  where
    still : (answer : Answer) →
        is_deleted_bare (row_by_answer n (calls.DetachDisk v d) answer (begun_row n (calls.DetachDisk v d) row))
        ≡ true
    still answers.Done = or_true row.lost
    still answer = or_true row.lost
told_bare n (calls.MountDisk v d) answer row leaves = still answer
  where
    still : (answer : Answer) →
        is_deleted_bare (row_by_answer n (calls.MountDisk v d) answer (begun_row n (calls.MountDisk v d) row))
        ≡ true
    still answers.Done = or_true row.lost
    still answer = or_true row.lost
told_bare n (calls.UnmountDisk v d) answer row leaves = still answer
  where
    still : (answer : Answer) →
        is_deleted_bare (row_by_answer n (calls.UnmountDisk v d) answer (begun_row n (calls.UnmountDisk v d) row))
        ≡ true
    still answers.Done = or_true row.lost
    still answer = or_true row.lost
told_bare n (calls.Apply v spec) answer row leaves = still answer
  where
    still : (answer : Answer) →
        is_deleted_bare (row_by_answer n (calls.Apply v spec) answer (begun_row n (calls.Apply v spec) row)) ≡ true
    still answers.Done = or_true row.lost
    still answer = or_true row.lost
told_bare n (calls.Start v) answer row leaves = still answer
  where
    still : (answer : Answer) →
        is_deleted_bare (row_by_answer n (calls.Start v) answer (begun_row n (calls.Start v) row)) ≡ true
    still answers.Done = or_true row.lost
    still answer = or_true row.lost
told_bare n (calls.Drain v) answer row leaves = still answer
  where
    still : (answer : Answer) →
        is_deleted_bare (row_by_answer n (calls.Drain v) answer (begun_row n (calls.Drain v) row)) ≡ true
    still answers.Done = or_true row.lost
    still answer = or_true row.lost
told_bare n (calls.Stop v) answer row leaves = still answer
  where
    still : (answer : Answer) →
        is_deleted_bare (row_by_answer n (calls.Stop v) answer (begun_row n (calls.Stop v) row)) ≡ true
    still answers.Done = or_true row.lost
    still answer = or_true row.lost
told_bare n call answer row leaves = leaves

failed_bare : (n : ℕ) (call : Call) (row : Row) → LeavesBare n call row →
    is_deleted_bare (begun_row n call row) ≡ true
failed_bare n (calls.CreateDisk wanted v) row leaves = or_true row.lost
failed_bare n (calls.MigrateDisk v from to) row leaves = no_doubt row leaves
failed_bare n (calls.CreateVm make hint) row leaves = or_true row.lost
failed_bare n (calls.DeleteVm v) row leaves = leaves
failed_bare n (calls.DeleteDisk d) row leaves = or_true row.lost
failed_bare n (calls.AttachDisk v d) row leaves = or_true row.lost
failed_bare n (calls.DetachDisk v d) row leaves = or_true row.lost
failed_bare n (calls.Apply v spec) row leaves = or_true row.lost
failed_bare n (calls.Start v) row leaves = or_true row.lost
failed_bare n (calls.Drain v) row leaves = or_true row.lost
failed_bare n (calls.Stop v) row leaves = or_true row.lost
failed_bare n (calls.MountDisk v d) row leaves = or_true row.lost
failed_bare n (calls.UnmountDisk v d) row leaves = or_true row.lost
failed_bare n call row leaves = leaves

gone_bare : (n : ℕ) (call : Call) (row : Row) → LeavesBare n call row →
    is_deleted_bare (row_at_gone call (begun_row n call row)) ≡ true
gone_bare n (calls.Ping v) row leaves = refl
gone_bare n (calls.DeleteVm v) row leaves = by_loss row.lost
  where
    by_loss : (b : Bool) → is_deleted_bare
        (if b then without_machine (begun_row n (calls.DeleteVm v) row)
        else record (begun_row n (calls.DeleteVm v) row) { doubt = None }) ≡ true
    by_loss true = refl
    by_loss false = or_true row.lost
gone_bare n call row leaves = or_true row.lost

-- each answer
pub after_bare : (n : ℕ) (call : Call) (answer : Answer) (row : Row) → LeavesBare n call row →
    is_deleted_bare (after n call answer (begun_row n call row)) ≡ true
after_bare n call answers.Failed row leaves = failed_bare n call row leaves
after_bare n call answers.Gone row leaves = gone_bare n call row leaves
after_bare n call answer row leaves = told_bare n call answer row leaves
