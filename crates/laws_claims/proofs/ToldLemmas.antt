-- No entry tells that an update failed, or that a task failed by a stop before its end.
use Rattle.std.proofs.Common.{◌≡◌, ◌∙◌, ℕ, Bool, true, false, List, [], ◌∷◌, Option, Some, None, refl, sym, subst, arith}
use Rattle.std.specs.Prelude.{◌≢◌, ◌==◌, eqb, find, fold, nat_lt, if◌then◌else◌}
use Rattle.bosh_base.specs.declared.answer.Answer.{Answer}
use Rattle.bosh_base.specs.declared.answer.Answer.TheVariants as answers
use Rattle.bosh_base.specs.declared.call.Call.{Call}
use Rattle.bosh_base.specs.declared.entry.Begin.{Begin}
use Rattle.bosh_base.specs.declared.entry.Entry.{Entry}
use Rattle.bosh_base.specs.declared.entry.Entry.TheVariants as entries
use Rattle.bosh_base.specs.declared.entry.TaskOpen.{TaskOpen}
use Rattle.bosh_base.specs.declared.failure.Failure.{Failure}
use Rattle.bosh_base.specs.declared.failure.Failure.TheVariants as failures
use Rattle.bosh_base.specs.declared.inst.Inst.{Inst}
use Rattle.bosh_base.specs.declared.moves.Move.{Move}
use Rattle.bosh_base.specs.declared.owner.Owner.{Owner}
use Rattle.bosh_base.specs.declared.task.TaskEnd.TheVariants as ends
use Rattle.bosh_history.proofs.KnownLemmas.{known_by_entries}
use Rattle.bosh_history.specs.Calls.{call_ended, failure_of, fails_gone, least_failure, number_of, task_after_ping}
use Rattle.bosh_history.specs.Calls.{task_told}
use Rattle.bosh_history.specs.Known.{Known, Task, dep_of_task, no_task, nothing_known, want_in}
use Rattle.bosh_history.specs.Learn.{learn}
use Rattle.bosh_history.specs.Moments.{Opening, durable, moment}
use Rattle.bosh_history.specs.Snapshots.{task, task_of}
use Rattle.bosh_base.specs.declared.task.TaskRow.{TaskRow}
use Rattle.bosh_base.specs.declared.snapshot.Snapshot.{Snapshot}
use Rattle.laws_facts.proofs.DepLemmas.{dep_settled, dep_updated}
use Rattle.bosh_history.specs.Tasks.{task_opened}
use Rattle.bosh_history.specs.Updates.{update_at}
use Rattle.bosh_history.specs.Words.{at}
use Rattle.bosh_roll.specs.declared.upd.Upd.{Upd}
use Rattle.bosh_roll.specs.declared.upd.Upd.TheVariants.{Busy, Failed, Finished}
use Rattle.bosh_rows.specs.Same.{same_inst}
use Rattle.laws_claims.specs.Told.{IsToldWell}

-- ---- one task

told_on : (a b : Task) → b.upd ≡ a.upd → b.failed ≢ Some failures.Interrupted → IsToldWell a → IsToldWell b
told_on a b same good told = record {
  updates_go_on = λ i is. told.updates_go_on i (sym (λ j. same j i) ∙ is);
  failures_are_calls = good;
}

moved : (t : Task) (upd : Upd) (i : Inst) → (upd ≡ Failed → ⊥) → IsToldWell t → IsToldWell (update_at upd i t)
moved t upd i good told = record {
  updates_go_on = λ j. goes j (same_inst i j);
  failures_are_calls = told.failures_are_calls;
}
  where
    goes : (j : Inst) (b : Bool) → (if b then upd else t.upd j) ≡ Failed → ⊥
    goes j true is = good is
    goes j false is = told.updates_go_on j is

-- ---- the calls that fail

failure_is_call : (k : Known) (b : Begin) (answer : Answer) → failure_of k b answer ≢ Some failures.Interrupted
failure_is_call k b answers.Failed is = cc
failure_is_call k b answers.Gone is = by (fails_gone k b b.call) is
  where
    by : (fails : Bool) → (if fails then Some (failures.Gone b.n) else None) ≡ Some failures.Interrupted → ⊥
    by true is = cc
    by false is = cc
failure_is_call k b answer is = cc

least_is_call : (old new : Option Failure) → old ≢ Some failures.Interrupted → new ≢ Some failures.Interrupted
    → least_failure old new ≢ Some failures.Interrupted
least_is_call (Some old) (Some new) good also is = by (nat_lt (number_of new) (number_of old)) is
  where
    by : (b : Bool) → (if b then Some new else Some old) ≡ Some failures.Interrupted → ⊥
    by true is = also is
    by false is = good is
least_is_call None new good also is = also is
least_is_call (Some old) None good also is = good is

pinged : (call : Call) (answer : Answer) (owner : Owner) (t : Task) → (task_after_ping call answer owner t).upd ≡ t.upd
pinged call answer owner t = grind (arith)

ended : (k : Known) (b : Begin) (answer : Answer) (t : Task) → IsToldWell t → IsToldWell (task_told k b answer t)
ended k b answer t told =
    told_on t (task_told k b answer t) (pinged b.call answer b.owner t)
    (least_is_call t.failed (failure_of k b answer) told.failures_are_calls (failure_is_call k b answer)) told

-- ---- entries

-- each task is told well
abbrev AreToldWell : (ℕ → Task) → Type 0
AreToldWell tasks = (t : ℕ) → IsToldWell (tasks t)

-- .. where one changes
at_one : (n : ℕ) (x : Task) (tasks : ℕ → Task) → IsToldWell x → AreToldWell tasks → AreToldWell (at eqb n x tasks)
at_one n x tasks new told t = by (eqb n t)
  where
    by : (b : Bool) → IsToldWell (if b then x else tasks t)
    by true = new
    by false = told t

untold : (k : Known) (o : TaskOpen) → IsToldWell (task_opened k o)
untold k o = record { updates_go_on = λ i is. cc; failures_are_calls = λ is. cc }

-- a task as a snapshot tells it, by its row
abbrev pub by_row : Snapshot → Option TaskRow → Task
by_row s (Some it) = task s it
by_row s None = no_task

pub task_found : (s : Snapshot) (t : ℕ) (found : Option TaskRow)
    → find (λ (it : TaskRow). it.task == t) s.tasks ≡ found → task_of s t ≡ by_row s found
task_found s t (Some it) is = grind (arith, is)
task_found s t None is = grind (arith, is)

row_told : (s : Snapshot) (found : Option TaskRow) → IsToldWell (by_row s found)
row_told s (Some it) = record { updates_go_on = λ i is. cc; failures_are_calls = λ is. cc }
row_told s None = record { updates_go_on = λ i is. cc; failures_are_calls = λ is. cc }

snapshot_told : (s : Snapshot) → AreToldWell (task_of s)
snapshot_told s t =
    subst (λ (it : Task). IsToldWell it)
    (sym (task_found s t (find (λ (it : TaskRow). it.task == t) s.tasks) refl))
    (row_told s (find (λ (it : TaskRow). it.task == t) s.tasks))

entry_told : (k : Known) (e : Entry) → AreToldWell k.task → AreToldWell (learn k e).task
entry_told k (entries.TaskOpen o) told = at_one o.task (task_opened k o) k.task (untold k o) told
entry_told k (entries.Begin b) told =
    at_one b.task _ k.task (told_on (k.task b.task) _ refl (told b.task).failures_are_calls (told b.task)) told
entry_told k (entries.End e) told = by (k.begun e.n)
  where
    by : (b : Option Begin) → AreToldWell (call_ended e.answer b k).task
    by (Some b) =
        at_one b.task (task_told k b e.answer (k.task b.task)) k.task (ended k b e.answer (k.task b.task) (told b.task))
        told
    by None = told
entry_told k (entries.UpdBegin u) told =
    at_one u.task (update_at Busy u.inst (k.task u.task)) k.task (moved (k.task u.task) Busy u.inst (λ is. cc)
    (told u.task)) told
entry_told k (entries.UpdDone u) told =
    subst (λ (f : ℕ → Task). AreToldWell (at eqb u.task (update_at Finished u.inst (f u.task)) f))
    (sym (dep_updated (want_in (k.task u.task).goal u.inst) u.inst k))
    (at_one u.task (update_at Finished u.inst (k.task u.task)) k.task (moved (k.task u.task) Finished u.inst (λ is. cc)
    (told u.task)) told)
entry_told k (entries.Gone u) told =
    at_one u.task _ k.task (told_on (k.task u.task) _ refl (told u.task).failures_are_calls (told u.task)) told
entry_told k (entries.TaskDone n) told =
    subst (λ (f : ℕ → Task). AreToldWell (at eqb n (record (f n) { end = Some ends.Finished }) f))
    (sym (dep_settled (k.task n).kind (k.task n).goal (dep_of_task k n) k))
    (at_one n _ k.task (told_on (k.task n) _ refl (told n).failures_are_calls (told n)) told)
entry_told k (entries.TaskError e) told =
    at_one e.task _ k.task (told_on (k.task e.task) _ refl (told e.task).failures_are_calls (told e.task)) told
entry_told k (entries.Snapshot s) told = snapshot_told s
entry_told k entry told = told

entries_told : (k : Known) (more : List Entry) → AreToldWell k.task → AreToldWell (fold learn k more).task
entries_told k [] told = told
entries_told k (e ∷ more) told = entries_told (learn k e) more (entry_told k e told)

-- at each moment, whatever it began on
pub told_well : (o : Opening) (moves : List Move) (t : ℕ) → IsToldWell ((moment o moves).known.task t)
told_well o moves t =
    subst (λ (k : Known). IsToldWell (k.task t)) (sym (known_by_entries o moves))
    (entries_told nothing_known (durable o moves)
    (λ n. record { updates_go_on = λ i is. cc; failures_are_calls = λ is. cc }) t)
