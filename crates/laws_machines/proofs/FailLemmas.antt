-- A task of which a call failed stays so.
use Rattle.std.proofs.Common.{◌≡◌, ℕ, Bool, true, false, Option, Some, None, refl, sym, subst}
use Rattle.std.specs.Prelude.{eqb, if◌then◌else◌, is_some, nat_lt}
use Rattle.std.proofs.lemmas.Bool.{false≢true}
use Rattle.bosh_base.specs.declared.answer.Answer.{Answer}
use Rattle.bosh_base.specs.declared.entry.Begin.{Begin}
use Rattle.bosh_base.specs.declared.entry.Entry.{Entry}
use Rattle.bosh_base.specs.declared.entry.Entry.TheVariants as entries
use Rattle.bosh_base.specs.declared.failure.Failure.{Failure}
use Rattle.bosh_base.specs.declared.task.TaskEnd.TheVariants as ends
use Rattle.bosh_history.specs.Calls.{call_ended, failure_of, least_failure, number_of, task_told, task_with_call}
use Rattle.bosh_history.specs.Known.{Known, Task, dep_of_task, want_in}
use Rattle.bosh_history.specs.Learn.{learn}
use Rattle.bosh_history.specs.Moments.{Moment}
use Rattle.bosh_history.specs.Notes.{MayNote, Outside}
use Rattle.bosh_history.specs.Tasks.{end_by}
use Rattle.bosh_history.specs.Updates.{update_at}
use Rattle.bosh_history.specs.Words.{at}
use Rattle.bosh_roll.specs.declared.upd.Upd.TheVariants.{Busy, Finished}
use Rattle.bosh_rows.specs.Same.{same_inst}
use Rattle.laws_facts.proofs.DepLemmas.{dep_settled, dep_updated}
use Rattle.laws_facts.proofs.LockLemmas.{is_opening}
use Rattle.laws_tasks.proofs.TaskFrames.{changed_at}

-- where no call of it failed now, none had
abbrev pub Unfailed : Task → Task → Type 0
Unfailed a b = is_some b.failed ≡ false → is_some a.failed ≡ false

still : (a : Task) → Unfailed a a
still a none = none

least_old : (old new : Option Failure) → is_some (least_failure old new) ≡ false → is_some old ≡ false
least_old (Some old) (Some new) none = by (nat_lt (number_of new) (number_of old)) none
  where
    by : (b : Bool) → is_some (if b then Some new else Some old) ≡ false → true ≡ false
    by true none = none
    by false none = none
least_old (Some old) None none = none
least_old None new none = refl

pub least_new : (old new : Option Failure) → is_some (least_failure old new) ≡ false → is_some new ≡ false
least_new (Some old) (Some new) none = by (nat_lt (number_of new) (number_of old)) none
  where
    by : (b : Bool) → is_some (if b then Some new else Some old) ≡ false → true ≡ false
    by true none = none
    by false none = none
least_new (Some old) None none = refl
least_new None new none = none

ended : (answer : Answer) (b : Option Begin) (k : Known) (t : ℕ) → Unfailed (k.task t) ((call_ended answer b k).task t)
ended answer (Some b) k t =
    changed_at Unfailed still b.task t (task_told k b answer (k.task b.task)) k.task
    (least_old (k.task b.task).failed (failure_of k b answer))
ended answer None k t = still (k.task t)

pub failed_note : (outside : Outside) (m : Moment) (e : Entry) (t : ℕ) → MayNote outside m e → is_opening e ≡ false
    → Unfailed (m.known.task t) ((learn m.known e).task t)
failed_note outside m (entries.TaskOpen o) t may none = absurd (false≢true (sym none))
failed_note outside m (entries.Begin b) t may none =
    changed_at Unfailed still b.task t (task_with_call (m.known.task b.task)) m.known.task (λ is. is)
failed_note outside m (entries.End e) t may none = ended e.answer (m.known.begun e.n) m.known t
failed_note outside m (entries.UpdBegin u) t may none =
    changed_at Unfailed still u.task t (update_at Busy u.inst (m.known.task u.task)) m.known.task (λ is. is)
failed_note outside m (entries.UpdDone u) t may none =
    subst (λ (f : ℕ → Task). Unfailed (m.known.task t) (at eqb u.task (update_at Finished u.inst (f u.task)) f t))
    (sym (dep_updated (want_in (m.known.task u.task).goal u.inst) u.inst m.known))
    (changed_at Unfailed still u.task t (update_at Finished u.inst (m.known.task u.task)) m.known.task (λ is. is))
failed_note outside m (entries.Gone u) t may none =
    changed_at Unfailed still u.task t
    (record (m.known.task u.task) { gone = at same_inst u.inst true (m.known.task u.task).gone }) m.known.task
    (λ is. is)
failed_note outside m (entries.TaskDone n) t may none =
    subst (λ (f : ℕ → Task). Unfailed (m.known.task t) (at eqb n (record (f n) { end = Some ends.Finished }) f t))
    (sym (dep_settled (m.known.task n).kind (m.known.task n).goal (dep_of_task m.known n) m.known))
    (changed_at Unfailed still n t (record (m.known.task n) { end = Some ends.Finished }) m.known.task (λ is. is))
failed_note outside m (entries.TaskError e) t may none =
    changed_at Unfailed still e.task t
    (record (m.known.task e.task) { end = Some (end_by e.cause (m.known.begun (number_of e.cause))) }) m.known.task
    (λ is. is)
failed_note outside m (entries.Snapshot s) t may none = absurd may
failed_note outside m entry t may none = still (m.known.task t)
