-- The disk that a call in doubt made is above those that are recorded, after each call.
use Rattle.std.proofs.Common.{◌≡◌, ℕ, Bool, true, false, Option, Some, None, List, refl}
use Rattle.std.specs.Prelude.{if◌then◌else◌}
use Rattle.bosh_base.specs.CallStep.{found_disk}
use Rattle.bosh_base.specs.declared.answer.Answer.{Answer}
use Rattle.bosh_base.specs.declared.answer.Answer.TheVariants as answers
use Rattle.bosh_base.specs.declared.call.Call.{Call}
use Rattle.bosh_base.specs.declared.call.Call.TheVariants as calls
use Rattle.bosh_base.specs.declared.entry.Entry.{Entry}
use Rattle.bosh_base.specs.declared.row.Doubt.{Doubt}
use Rattle.bosh_base.specs.declared.row.Row.{Row}
use Rattle.laws_row_facts.specs.Rows.{are_below, is_found_last}
use Rattle.bosh_rows.specs.After.{after, begun_row, row_at_gone, row_by_answer, with_found, with_machine, without_machine}
use Rattle.laws_kept_facts.proofs.NumberedLemmas.{numbers}

-- what a call is to leave above the disks, over what was done then
abbrev pub LeavesLast : List Entry → ℕ → Call → Row → Type 0
LeavesLast ys n (calls.CreateDisk wanted v) row = are_below (numbers row.disks) (found_disk ys n) ≡ true
LeavesLast ys n (calls.MigrateDisk v from to) row = row.doubt ≡ None
LeavesLast ys n (calls.CreateVm make hint) row = Unit {0}
LeavesLast ys n (calls.DeleteVm v) row = Unit {0}
LeavesLast ys n (calls.DeleteDisk d) row = Unit {0}
LeavesLast ys n (calls.AttachDisk v d) row = Unit {0}
LeavesLast ys n (calls.DetachDisk v d) row = Unit {0}
LeavesLast ys n (calls.Apply v spec) row = Unit {0}
LeavesLast ys n (calls.Start v) row = Unit {0}
LeavesLast ys n (calls.Drain v) row = Unit {0}
LeavesLast ys n (calls.Stop v) row = Unit {0}
LeavesLast ys n (calls.MountDisk v d) row = Unit {0}
LeavesLast ys n (calls.UnmountDisk v d) row = Unit {0}
LeavesLast ys n call row = is_found_last ys row ≡ true

no_doubt : (ys : List Entry) (row : Row) → row.doubt ≡ None → is_found_last ys row ≡ true
no_doubt ys row none = λ i. is_found_last ys (record row { doubt = none i })

found_last : (ys : List Entry) (row : Row) (tag : ℕ) (found : Option ℕ) (doubt : Option Doubt) →
    row.doubt ≡ doubt → is_found_last ys row ≡ true → is_found_last ys (with_found tag found doubt row) ≡ true
found_last ys row tag found None is last = last
found_last ys row tag found (Some d) is last = by_call d.n d.call
  where
    by_found : (m : ℕ) (wanted : _) (v : ℕ) (o : Option ℕ) →
        is_found_last ys (with_found tag o (Some (record { n = m; call = calls.CreateDisk wanted v })) row) ≡ true
    by_found m wanted v None = refl
    by_found m wanted v (Some it) = refl

    by_call : (m : ℕ) (c : Call) →
        is_found_last ys (with_found tag found (Some (record { n = m; call = c })) row) ≡ true
    by_call m (calls.CreateDisk wanted v) = by_found m wanted v found
    by_call m c = last

machine_last : (ys : List Entry) (row : Row) (agent : ℕ) (found : Option ℕ) →
    is_found_last ys (with_machine agent found row) ≡ true
machine_last ys row agent (Some v) = refl
machine_last ys row agent None = refl

told_last : (ys : List Entry) (n : ℕ) (call : Call) (answer : Answer) (row : Row) → LeavesLast ys n call row →
    is_found_last ys (row_by_answer n call answer (begun_row n call row)) ≡ true
told_last ys n (calls.CreateVm make hint) (answers.Cid v) row leaves = refl
told_last ys n (calls.FindVm agent) (answers.Found found) row leaves = machine_last ys row agent found
told_last ys n (calls.DeleteVm v) answers.Done row leaves = refl
told_last ys n (calls.HasVm v) answers.No row leaves = refl
told_last ys n (calls.HasVm v) answers.Yes row leaves = refl
told_last ys n (calls.CreateDisk wanted v) (answers.Cid d) row leaves = refl
told_last ys n (calls.FindDisk tag) (answers.Found found) row leaves =
    found_last ys row tag found row.doubt refl leaves
told_last ys n (calls.AttachDisk v d) answers.Done row leaves = refl
told_last ys n (calls.DetachDisk v d) answers.Done row leaves = refl
told_last ys n (calls.GetDisks v) (answers.Disks ks) row leaves = refl
told_last ys n (calls.MountDisk v d) answers.Done row leaves = refl
told_last ys n (calls.UnmountDisk v d) answers.Done row leaves = refl
told_last ys n (calls.ListDisk v) (answers.Disks ks) row leaves = refl
told_last ys n (calls.MigrateDisk v from to) answers.Done row leaves =
    no_doubt ys (row_by_answer n (calls.MigrateDisk v from to) answers.Done row) leaves
told_last ys n (calls.MigrateDisk v from to) answer row leaves =
    no_doubt ys (row_by_answer n (calls.MigrateDisk v from to) answer row) (stays answer)
  where
    stays : (answer : Answer) → (row_by_answer n (calls.MigrateDisk v from to) answer row).doubt ≡ None
    stays answers.Done = leaves
    stays answer = leaves
told_last ys n (calls.Apply v spec) answers.Done row leaves = refl
told_last ys n (calls.Start v) answers.Done row leaves = refl
told_last ys n (calls.Drain v) answers.Done row leaves = refl
told_last ys n (calls.Stop v) answers.Done row leaves = refl
told_last ys n (calls.GetState v) (answers.Facts spec running drained) row leaves = refl
told_last ys n (calls.CreateDisk wanted v) answer row leaves = still answer
  where
    still : (answer : Answer) →
        is_found_last ys (row_by_answer n (calls.CreateDisk wanted v) answer
        (begun_row n (calls.CreateDisk wanted v) row)) ≡ true
    still (answers.Cid d) = refl
    still answer = leaves
told_last ys n (calls.CreateVm make hint) answer row leaves = still answer
  where
    still : (answer : Answer) →
        is_found_last ys (row_by_answer n (calls.CreateVm make hint) answer
        (begun_row n (calls.CreateVm make hint) row)) ≡ true
    still (answers.Cid v) = refl
    still answer = refl
told_last ys n (calls.DeleteVm v) answer row leaves = still answer
  where
    still : (answer : Answer) →
        is_found_last ys (row_by_answer n (calls.DeleteVm v) answer (begun_row n (calls.DeleteVm v) row)) ≡ true
    still answers.Done = refl
    still answer = refl
told_last ys n (calls.DeleteDisk d) answer row leaves = refl
told_last ys n (calls.AttachDisk v d) answer row leaves = still answer
  where
    still : (answer : Answer) →
        is_found_last ys (row_by_answer n (calls.AttachDisk v d) answer (begun_row n (calls.AttachDisk v d) row))
        ≡ true
    still answers.Done = refl
    still answer = refl
told_last ys n (calls.DetachDisk v d) answer row leaves = still answer
  where
    still : (answer : Answer) →
        is_found_last ys (row_by_answer n (calls.DetachDisk v d) answer (begun_row n (calls.DetachDisk v d) row))
        ≡ true
    still answers.Done = refl
    still answer = refl
told_last ys n (calls.MountDisk v d) answer row leaves = still answer
  where
    still : (answer : Answer) →
        is_found_last ys (row_by_answer n (calls.MountDisk v d) answer (begun_row n (calls.MountDisk v d) row))
        ≡ true
    still answers.Done = refl
    still answer = refl
told_last ys n (calls.UnmountDisk v d) answer row leaves = still answer
  where
    still : (answer : Answer) →
        is_found_last ys (row_by_answer n (calls.UnmountDisk v d) answer (begun_row n (calls.UnmountDisk v d) row))
        ≡ true
    still answers.Done = refl
    still answer = refl
told_last ys n (calls.Apply v spec) answer row leaves = still answer
  where
    still : (answer : Answer) →
        is_found_last ys (row_by_answer n (calls.Apply v spec) answer (begun_row n (calls.Apply v spec) row)) ≡ true
    still answers.Done = refl
    still answer = refl
told_last ys n (calls.Start v) answer row leaves = still answer
  where
    still : (answer : Answer) →
        is_found_last ys (row_by_answer n (calls.Start v) answer (begun_row n (calls.Start v) row)) ≡ true
    still answers.Done = refl
    still answer = refl
told_last ys n (calls.Drain v) answer row leaves = still answer
  where
    still : (answer : Answer) →
        is_found_last ys (row_by_answer n (calls.Drain v) answer (begun_row n (calls.Drain v) row)) ≡ true
    still answers.Done = refl
    still answer = refl
told_last ys n (calls.Stop v) answer row leaves = still answer
  where
    still : (answer : Answer) →
        is_found_last ys (row_by_answer n (calls.Stop v) answer (begun_row n (calls.Stop v) row)) ≡ true
    still answers.Done = refl
    still answer = refl
told_last ys n call answer row leaves = leaves

failed_last : (ys : List Entry) (n : ℕ) (call : Call) (row : Row) → LeavesLast ys n call row →
    is_found_last ys (begun_row n call row) ≡ true
failed_last ys n (calls.CreateDisk wanted v) row leaves = leaves
failed_last ys n (calls.MigrateDisk v from to) row leaves = no_doubt ys row leaves
failed_last ys n (calls.CreateVm make hint) row leaves = refl
failed_last ys n (calls.DeleteVm v) row leaves = refl
failed_last ys n (calls.DeleteDisk d) row leaves = refl
failed_last ys n (calls.AttachDisk v d) row leaves = refl
failed_last ys n (calls.DetachDisk v d) row leaves = refl
failed_last ys n (calls.Apply v spec) row leaves = refl
failed_last ys n (calls.Start v) row leaves = refl
failed_last ys n (calls.Drain v) row leaves = refl
failed_last ys n (calls.Stop v) row leaves = refl
failed_last ys n (calls.MountDisk v d) row leaves = refl
failed_last ys n (calls.UnmountDisk v d) row leaves = refl
failed_last ys n call row leaves = leaves

gone_last : (ys : List Entry) (n : ℕ) (call : Call) (row : Row) → LeavesLast ys n call row →
    is_found_last ys (row_at_gone call (begun_row n call row)) ≡ true
gone_last ys n (calls.Ping v) row leaves = leaves
gone_last ys n (calls.DeleteVm v) row leaves = by_loss row.lost
  where
    by_loss : (b : Bool) → is_found_last ys
        (if b then without_machine (begun_row n (calls.DeleteVm v) row)
        else record (begun_row n (calls.DeleteVm v) row) { doubt = None }) ≡ true
    by_loss true = refl
    by_loss false = refl
gone_last ys n call row leaves = refl

-- each answer
pub after_last : (ys : List Entry) (n : ℕ) (call : Call) (answer : Answer) (row : Row) → LeavesLast ys n call row →
    is_found_last ys (after n call answer (begun_row n call row)) ≡ true
after_last ys n call answers.Failed row leaves = failed_last ys n call row leaves
after_last ys n call answers.Gone row leaves = gone_last ys n call row leaves
after_last ys n call answer row leaves = told_last ys n call answer row leaves
