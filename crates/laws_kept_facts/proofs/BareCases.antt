-- That a row in doubt of a deletion is bare is kept by the next call of a row, however it is answered.
use Rattle.std.proofs.Common.{◌≡◌, ℕ, true, Option, Some, None}
use Rattle.std.specs.Prelude.{not}
use Rattle.std.specs.List.{list_all}
use Rattle.std.proofs.lemmas.Bool.{or_left, or_right}
use Rattle.bosh_base.specs.declared.answer.Answer.{Answer}
use Rattle.bosh_base.specs.declared.call.Call.{Call}
use Rattle.bosh_base.specs.declared.goal.GoalRow.{GoalRow}
use Rattle.bosh_base.specs.declared.row.Row.{Row}
use Rattle.laws_rows.proofs.ListLemmas.{least_none}
use Rattle.laws_rows.proofs.StepCases.{Cases, is_tending, telling_cases}
use Rattle.bosh_rows.specs.After.{after, begun_row}
use Rattle.bosh_rows.specs.CallOf.{next_call}
use Rattle.laws_kept_facts.proofs.BareLemmas.{LeavesBare, after_bare}
use Rattle.laws_kept_facts.proofs.CallCases.{AllCases, by_all}
use Rattle.laws_row_facts.specs.Rows.{is_deleted_bare}
use Rattle.bosh_base.specs.declared.call.Call.TheVariants as calls

-- each call of a known row
known_bare : (want : Option GoalRow) (row : Row) (n : ℕ) → row.doubt ≡ None →
    Cases (λ call. LeavesBare n call row) want row
known_bare want row n known =
    telling_cases (λ call. LeavesBare n call row) want row tends
    (λ it has off. or_right row.lost (list_all (λ d. not d.attached) row.disks) (least_none (λ d. d.attached) row.disks off))
    (λ w wants none. tt) (λ v old new. known)
  where
    tends : (call : Call) → is_tending call ≡ true → LeavesBare n call row
    tends (calls.CreateDisk wanted v) is = tt
    tends (calls.AttachDisk v d) is = tt
    tends (calls.DetachDisk v d) is = tt
    tends (calls.Apply v spec) is = tt
    tends (calls.Start v) is = tt
    tends (calls.Drain v) is = tt
    tends (calls.Stop v) is = tt
    tends (calls.MountDisk v d) is = tt
    tends (calls.UnmountDisk v d) is = tt
    tends call is = absurd cc

-- each call of a row
all_bare : (want : Option GoalRow) (row : Row) (n : ℕ) → is_deleted_bare row ≡ true →
    AllCases (λ call. LeavesBare n call row) want row
all_bare want row n bare = record {
  known = λ found known. known_bare want row n known;
  deletes = λ it lost has. or_left row.lost (list_all (λ d. not d.attached) row.disks) lost;
  there = λ it m v has doubts. bare;
  finds_vm = λ m make hint found doubts. bare;
  finds_disk = λ m wanted v doubts. bare;
  lists = λ it m v x found has doubts. bare;
  shows = λ it m v x found has doubts. bare;
  tells = λ it m c found has doubts state. bare;
}

-- it is kept
pub bare_kept : (want : Option GoalRow) (row : Row) (n : ℕ) (call : Call) (answer : Answer) →
    is_deleted_bare row ≡ true → next_call want row ≡ Some call →
    is_deleted_bare (after n call answer (begun_row n call row)) ≡ true
bare_kept want row n call answer bare next =
    after_bare n call answer row
    (by_all (λ call. LeavesBare n call row) want row (all_bare want row n bare) call next)
