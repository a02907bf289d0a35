-- What a task was opened with stays: its kind, deployment, goal and lists.
use Rattle.std.proofs.Common.{◌≡◌, ℕ, true, false, Option, Some, None, refl, ◌∙◌, inl, inr, arith}
use Rattle.std.specs.Prelude.{eqb, if◌then◌else◌}
use Rattle.std.proofs.lemmas.Bool.Decides.{eqb_tells}
use Rattle.bosh_base.specs.declared.answer.Answer.{Answer}
use Rattle.bosh_base.specs.declared.call.Call.{Call}
use Rattle.bosh_base.specs.declared.entry.Begin.{Begin}
use Rattle.bosh_base.specs.declared.entry.Entry.{Entry}
use Rattle.bosh_base.specs.declared.entry.Entry.TheVariants as entries
use Rattle.bosh_base.specs.declared.owner.Owner.{Owner}
use Rattle.bosh_base.specs.declared.task.TaskEnd.TheVariants as ends
use Rattle.laws_facts.proofs.DepLemmas.{dep_settled, dep_updated}
use Rattle.laws_facts.proofs.ListLemmas.{Tells}
use Rattle.laws_facts.proofs.LockLemmas.{is_opening}
use Rattle.bosh_history.specs.Calls.{call_ended, number_of, task_after_ping, task_told, task_with_call}
use Rattle.bosh_history.specs.Known.{Known, Task, dep_of_task, no_task, want_in}
use Rattle.bosh_history.specs.Learn.{learn}
use Rattle.bosh_history.specs.Moments.{Moment}
use Rattle.bosh_history.specs.Notes.{MayNote, Outside}
use Rattle.bosh_history.specs.Tasks.{end_by, settles}
use Rattle.bosh_history.specs.Updates.{update_at, update_done}
use Rattle.bosh_history.specs.Words.{at}
use Rattle.bosh_roll.specs.declared.upd.Upd.TheVariants.{Busy, Finished}
use Rattle.bosh_rows.specs.Same.{same_inst}

-- what it was opened with, as far as addresses ask for it
abbrev pub shape : Task → Task
shape t = record no_task {
  kind = t.kind;
  dep = t.dep;
  goal = t.goal;
  changed = t.changed;
  obsolete = t.obsolete;
}

-- a change of one task leaves what is asked of tasks, where it leaves that of the task
pub kept_at : {X : Type 0} (ask : Task → X) (t : ℕ) (change : Task → Task)
    → ((task : Task) → ask (change task) ≡ ask task) → (tasks : ℕ → Task) (other : ℕ)
    → ask (at eqb t (change (tasks t)) tasks other) ≡ ask (tasks other)
kept_at ask t change leaves tasks other = by (eqb_tells t other)
  where
    by : Tells eqb t other → ask (at eqb t (change (tasks t)) tasks other) ≡ ask (tasks other)
    by (inl same) = (λ i. ask (if same.0 i then change (tasks (same.1 i)) else tasks other)) ∙ leaves (tasks other)
    by (inr apart) = (λ i. ask (if apart.0 i then change (tasks t) else tasks other))

pinged_shape : (call : Call) (answer : Answer) (owner : Owner) (t : Task)
    → shape (task_after_ping call answer owner t) ≡ shape t
pinged_shape call answer owner t = grind (arith)

ended_shape : (answer : Answer) (b : Option Begin) (k : Known) (t : ℕ)
    → shape ((call_ended answer b k).task t) ≡ shape (k.task t)
ended_shape answer (Some b) k t =
    kept_at shape b.task (task_told k b answer) (λ task. pinged_shape b.call answer b.owner task) k.task t
ended_shape answer None k t = refl

-- an entry that opens no task leaves it
pub shape_note : (outside : Outside) (m : Moment) (e : Entry) → MayNote outside m e → is_opening e ≡ false → (t : ℕ)
    → shape ((learn m.known e).task t) ≡ shape (m.known.task t)
shape_note outside m (entries.Begin b) may none t =
    kept_at shape b.task task_with_call (λ task. refl) m.known.task t
shape_note outside m (entries.End e) may none t = ended_shape e.answer (m.known.begun e.n) m.known t
shape_note outside m (entries.TaskOpen o) may none t = absurd cc
shape_note outside m (entries.UpdBegin u) may none t =
    kept_at shape u.task (update_at Busy u.inst) (λ task. refl) m.known.task t
shape_note outside m (entries.UpdDone u) may none t =
    kept_at shape u.task (update_at Finished u.inst) (λ task. refl)
    (update_done (want_in (m.known.task u.task).goal u.inst) u.inst m.known).task t
    ∙ (λ i. shape (dep_updated (want_in (m.known.task u.task).goal u.inst) u.inst m.known i t))
shape_note outside m (entries.Gone u) may none t =
    kept_at shape u.task (λ task. record task { gone = at same_inst u.inst true task.gone })
    (λ task. refl) m.known.task t
shape_note outside m (entries.TaskDone task) may none t =
    kept_at shape task (λ it. record it { end = Some ends.Finished }) (λ task. refl)
    (settles (m.known.task task).kind (m.known.task task).goal (dep_of_task m.known task) m.known).task t
    ∙ (λ i. shape
    (dep_settled (m.known.task task).kind (m.known.task task).goal (dep_of_task m.known task) m.known i t))
shape_note outside m (entries.TaskError e) may none t =
    kept_at shape e.task
    (λ it. record it { end = Some (end_by e.cause (m.known.begun (number_of e.cause))) }) (λ task. refl) m.known.task t
shape_note outside m (entries.Snapshot s) may none t = absurd may
shape_note outside m entry may none t = refl
