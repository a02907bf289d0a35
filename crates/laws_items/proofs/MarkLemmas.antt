-- The marks of tasks only grow, and an entry leaves those of an instance with an open call.
use Rattle.std.proofs.Common.{◌≡◌, ◌∙◌, ℕ, Bool, true, false, Option, Some, None, ap, refl, sym, subst}
use Rattle.std.specs.Prelude.{◌≢◌, eqb, if◌then◌else◌}
use Rattle.std.proofs.lemmas.Bool.{false≢true}
use Rattle.bosh_base.specs.declared.answer.Answer.{Answer}
use Rattle.bosh_base.specs.declared.answer.Answer.TheVariants as answers
use Rattle.bosh_base.specs.declared.call.Call.{Call}
use Rattle.bosh_base.specs.declared.call.Call.TheVariants.{Ping}
use Rattle.bosh_base.specs.declared.entry.Begin.{Begin}
use Rattle.bosh_base.specs.declared.entry.Entry.{Entry}
use Rattle.bosh_base.specs.declared.entry.Entry.TheVariants as entries
use Rattle.bosh_base.specs.declared.inst.Inst.{Inst}
use Rattle.bosh_base.specs.declared.owner.Owner.{Owner}
use Rattle.bosh_base.specs.declared.owner.Owner.TheVariants.{Instance, Compile, Disk}
use Rattle.bosh_base.specs.declared.task.TaskEnd.TheVariants as ends
use Rattle.bosh_history.specs.Calls.{call_ended, number_of, task_after_ping, task_told, task_with_call}
use Rattle.bosh_history.specs.Goals.{is_waiting}
use Rattle.bosh_history.specs.Items.{is_finished}
use Rattle.bosh_history.specs.Known.{Known, Task, dep_of_task, want_in}
use Rattle.bosh_history.specs.Learn.{learn}
use Rattle.bosh_history.specs.Moments.{Moment}
use Rattle.bosh_history.specs.Notes.{MayNote, Outside}
use Rattle.bosh_history.specs.Tasks.{end_by}
use Rattle.bosh_history.specs.Updates.{update_at}
use Rattle.bosh_history.specs.Words.{at}
use Rattle.bosh_roll.specs.declared.upd.Upd.{Upd}
use Rattle.bosh_roll.specs.declared.upd.Upd.TheVariants.{Busy, Failed, Finished, Todo}
use Rattle.bosh_rows.proofs.SameLemmas.{same_inst_decides}
use Rattle.bosh_rows.specs.Same.{same_inst}
use Rattle.laws_facts.proofs.DepLemmas.{dep_settled, dep_updated}
use Rattle.laws_facts.proofs.LockLemmas.{is_opening}
use Rattle.laws_items.proofs.OnwardLemmas.{Marks, TaskOnward}
use Rattle.laws_tasks.proofs.TaskFrames.{changed_at, opened_stays}

pub marks_itself : (a : Task) → Marks a a
marks_itself a = record { pinged = λ i is. is; gone = λ i is. is; finished = λ i is. is }

-- one mark more
one_more : (i j : Inst) (old : Inst → Bool) → old j ≡ true → (if same_inst i j then true else old j) ≡ true
one_more i j old is = by (same_inst i j)
  where
    by : (b : Bool) → (if b then true else old j) ≡ true
    by true = refl
    by false = is

marks_pinged : (call : Call) (answer : Answer) (owner : Owner) (t : Task)
    → Marks t (task_after_ping call answer owner t)
marks_pinged (Ping vm) answers.Failed owner t = marks_itself t
marks_pinged (Ping vm) answer (Instance i) t = record {
  pinged = λ j is. one_more i j t.pinged is;
  gone = λ j is. is;
  finished = λ j is. is;
}
marks_pinged call answer owner t = marks_itself t

marks_told : (k : Known) (b : Begin) (answer : Answer) (t : Task) → Marks t (task_told k b answer t)
marks_told k b answer t =
    let more : Marks t (task_after_ping b.call answer b.owner t) = marks_pinged b.call answer b.owner t in
    record { pinged = more.pinged; gone = more.gone; finished = more.finished }

marks_ended : (answer : Answer) (b : Option Begin) (k : Known) (t : ℕ)
    → Marks (k.task t) ((call_ended answer b k).task t)
marks_ended answer (Some b) k t =
    changed_at Marks marks_itself b.task t (task_told k b answer (k.task b.task)) k.task
    (marks_told k b answer (k.task b.task))
marks_ended answer None k t = marks_itself (k.task t)

not_waiting : (upd : Upd) → is_waiting upd ≡ true → is_finished upd ≡ false
not_waiting Todo is = refl
not_waiting Busy is = refl
not_waiting Finished is = absurd (false≢true is)
not_waiting Failed is = absurd (false≢true is)

-- an update that begins was not done
marks_busy : (i : Inst) (t : Task) → is_waiting (t.upd i) ≡ true → Marks t (update_at Busy i t)
marks_busy i t waits = record {
  pinged = λ j is. is;
  gone = λ j is. is;
  finished = λ j is. by j (same_inst i j) refl is;
}
  where
    by : (j : Inst) (b : Bool) → same_inst i j ≡ b → is_finished (t.upd j) ≡ true
        → is_finished (if same_inst i j then Busy else t.upd j) ≡ true
    by j true same is =
        absurd
        (false≢true
        (sym (not_waiting (t.upd i) waits)
        ∙ (ap (λ (x : Inst). is_finished (t.upd x)) ((same_inst_decides i j).0 same) ∙ is)))
    by j false other is = (λ l. is_finished (if other l then Busy else t.upd j)) ∙ is

marks_finished : (i : Inst) (t : Task) → Marks t (update_at Finished i t)
marks_finished i t = record { pinged = λ j is. is; gone = λ j is. is; finished = λ j is. by j (same_inst i j) is }
  where
    by : (j : Inst) (b : Bool) → is_finished (t.upd j) ≡ true → is_finished (if b then Finished else t.upd j) ≡ true
    by j true is = refl
    by j false is = is

marks_gone : (i : Inst) (t : Task) → Marks t (record t { gone = at same_inst i true t.gone })
marks_gone i t = record { pinged = λ j is. is; gone = λ j is. one_more i j t.gone is; finished = λ j is. is }

-- what else is told of a task
marks_as : (a : Task) (b : Task) → b.pinged ≡ a.pinged → b.gone ≡ a.gone → b.upd ≡ a.upd → Marks a b
marks_as a b pinged gone upd = record {
  pinged = λ j is. ap (λ (f : Inst → Bool). f j) pinged ∙ is;
  gone = λ j is. ap (λ (f : Inst → Bool). f j) gone ∙ is;
  finished = λ j is. ap (λ (f : Inst → Upd). is_finished (f j)) upd ∙ is;
}

-- an entry that opens no task takes no mark away
pub marks_note : (outside : Outside) (m : Moment) (e : Entry) (t : ℕ) → MayNote outside m e → is_opening e ≡ false
    → Marks (m.known.task t) ((learn m.known e).task t)
marks_note outside m (entries.TaskOpen o) t may none = absurd (false≢true (sym none))
marks_note outside m (entries.Begin b) t may none =
    changed_at Marks marks_itself b.task t (task_with_call (m.known.task b.task)) m.known.task
    (marks_as (m.known.task b.task) (task_with_call (m.known.task b.task)) refl refl refl)
marks_note outside m (entries.End e) t may none = marks_ended e.answer (m.known.begun e.n) m.known t
marks_note outside m (entries.UpdBegin u) t may none =
    changed_at Marks marks_itself u.task t (update_at Busy u.inst (m.known.task u.task)) m.known.task
    (marks_busy u.inst (m.known.task u.task) may.waits)
marks_note outside m (entries.UpdDone u) t may none =
    subst (λ (f : ℕ → Task). Marks (m.known.task t) (at eqb u.task (update_at Finished u.inst (f u.task)) f t))
    (sym (dep_updated (want_in (m.known.task u.task).goal u.inst) u.inst m.known))
    (changed_at Marks marks_itself u.task t (update_at Finished u.inst (m.known.task u.task)) m.known.task
    (marks_finished u.inst (m.known.task u.task)))
marks_note outside m (entries.Gone u) t may none =
    changed_at Marks marks_itself u.task t
    (record (m.known.task u.task) { gone = at same_inst u.inst true (m.known.task u.task).gone }) m.known.task
    (marks_gone u.inst (m.known.task u.task))
marks_note outside m (entries.TaskDone n) t may none =
    subst (λ (f : ℕ → Task). Marks (m.known.task t) (at eqb n (record (f n) { end = Some ends.Finished }) f t))
    (sym (dep_settled (m.known.task n).kind (m.known.task n).goal (dep_of_task m.known n) m.known))
    (changed_at Marks marks_itself n t (record (m.known.task n) { end = Some ends.Finished }) m.known.task
    (marks_as (m.known.task n) (record (m.known.task n) { end = Some ends.Finished }) refl refl refl))
marks_note outside m (entries.TaskError e) t may none =
    changed_at Marks marks_itself e.task t
    (record (m.known.task e.task) { end = Some (end_by e.cause (m.known.begun (number_of e.cause))) }) m.known.task
    (marks_as (m.known.task e.task)
    (record (m.known.task e.task) { end = Some (end_by e.cause (m.known.begun (number_of e.cause))) }) refl refl refl)
marks_note outside m (entries.Snapshot s) t may none = absurd may
marks_note outside m entry t may none = marks_itself (m.known.task t)

pub onward_note : (outside : Outside) (m : Moment) (e : Entry) (t : ℕ) → MayNote outside m e → is_opening e ≡ false
    → TaskOnward (m.known.task t) ((learn m.known e).task t)
onward_note outside m e t may none = record {
  alike = opened_stays outside m e t may none;
  marks = marks_note outside m e t may none;
}

-- ---- the marks of one instance

pub record IsMarked (a b : Task) (i : Inst) : Type 0 where
  pub pinged : b.pinged i ≡ a.pinged i
  pub gone : b.gone i ≡ a.gone i
  pub finished : is_finished (b.upd i) ≡ is_finished (a.upd i)

-- the marks of an owner are the same
abbrev pub SameMark : Owner → Task → Task → Type 0
SameMark (Instance i) a b = IsMarked a b i
SameMark owner a b = Unit {0}

pub mark_itself : (owner : Owner) (a : Task) → SameMark owner a a
mark_itself (Instance i) a = record { pinged = refl; gone = refl; finished = refl }
mark_itself (Compile t s) a = tt
mark_itself (Disk d) a = tt

mark_as : (owner : Owner) (a b : Task) → b.pinged ≡ a.pinged → b.gone ≡ a.gone → b.upd ≡ a.upd → SameMark owner a b
mark_as (Instance i) a b pinged gone upd = record {
  pinged = λ j. pinged j i;
  gone = λ j. gone j i;
  finished = λ j. is_finished (upd j i);
}
mark_as (Compile t s) a b pinged gone upd = tt
mark_as (Disk d) a b pinged gone upd = tt

-- a mark on another instance
mark_apart : {X : Type 0} (i j : Inst) (x : X) (f : Inst → X) → i ≢ j → (if same_inst i j then x else f j) ≡ f j
mark_apart i j x f apart = by (same_inst i j) refl
  where
    by : (b : Bool) → same_inst i j ≡ b → (if same_inst i j then x else f j) ≡ f j
    by true same = absurd (apart ((same_inst_decides i j).0 same))
    by false other = λ l. if other l then x else f j

mark_pinged : (call : Call) (answer : Answer) (other : Owner) (owner : Owner) (t : Task) → other ≢ owner
    → SameMark owner t (task_after_ping call answer other t)
mark_pinged (Ping vm) answers.Failed other owner t apart = mark_itself owner t
mark_pinged (Ping vm) answer (Instance i) (Instance j) t apart = record {
  pinged = mark_apart i j true t.pinged (λ same. apart (ap Instance same));
  gone = refl;
  finished = refl;
}
mark_pinged (Ping vm) answer (Instance i) (Compile u s) t apart = tt
mark_pinged (Ping vm) answer (Instance i) (Disk d) t apart = tt
mark_pinged call answer other owner t apart = mark_itself owner t

mark_told : (k : Known) (b : Begin) (answer : Answer) (owner : Owner) (t : Task) → b.owner ≢ owner
    → SameMark owner t (task_told k b answer t)
mark_told k b answer (Instance i) t apart =
    let more : IsMarked t (task_after_ping b.call answer b.owner t) i =
    mark_pinged b.call answer b.owner (Instance i) t apart in
    record { pinged = more.pinged; gone = more.gone; finished = more.finished }
mark_told k b answer (Compile u s) t apart = tt
mark_told k b answer (Disk d) t apart = tt

mark_busy : (i : Inst) (owner : Owner) (t : Task) → is_waiting (t.upd i) ≡ true → SameMark owner t (update_at Busy i t)
mark_busy i (Instance j) t waits = record { pinged = refl; gone = refl; finished = by (same_inst i j) refl }
  where
    by : (b : Bool) → same_inst i j ≡ b → is_finished (if same_inst i j then Busy else t.upd j) ≡ is_finished (t.upd j)
    by true same =
        (λ l. is_finished (if same l then Busy else t.upd j))
        ∙ sym (ap (λ (x : Inst). is_finished (t.upd x)) (sym ((same_inst_decides i j).0 same)) ∙ not_waiting
        (t.upd i) waits)
    by false other = λ l. is_finished (if other l then Busy else t.upd j)
mark_busy i (Compile u s) t waits = tt
mark_busy i (Disk d) t waits = tt

mark_finished : (i : Inst) (owner : Owner) (t : Task) → Instance i ≢ owner → SameMark owner t (update_at Finished i t)
mark_finished i (Instance j) t apart = record {
  pinged = refl;
  gone = refl;
  finished = ap is_finished (mark_apart i j Finished t.upd (λ same. apart (ap Instance same)));
}
mark_finished i (Compile u s) t apart = tt
mark_finished i (Disk d) t apart = tt

mark_gone : (i : Inst) (owner : Owner) (t : Task) → Instance i ≢ owner
    → SameMark owner t (record t { gone = at same_inst i true t.gone })
mark_gone i (Instance j) t apart = record {
  pinged = refl;
  gone = mark_apart i j true t.gone (λ same. apart (ap Instance same));
  finished = refl;
}
mark_gone i (Compile u s) t apart = tt
mark_gone i (Disk d) t apart = tt

-- the entry is no word on the owner: no answer to a call of it, and it is not done and does not go
abbrev pub Spares : Moment → Entry → Owner → Type 0
Spares m (entries.End e) owner = (b : Begin) → m.known.begun e.n ≡ Some b → b.owner ≢ owner
Spares m (entries.UpdDone u) owner = Instance u.inst ≢ owner
Spares m (entries.Gone u) owner = Instance u.inst ≢ owner
Spares m entry owner = Unit {0}

mark_ended : (answer : Answer) (b : Option Begin) (owner : Owner) (k : Known) (t : ℕ)
    → ((it : Begin) → b ≡ Some it → it.owner ≢ owner) → SameMark owner (k.task t) ((call_ended answer b k).task t)
mark_ended answer (Some b) owner k t apart =
    changed_at (SameMark owner) (mark_itself owner) b.task t (task_told k b answer (k.task b.task)) k.task
    (mark_told k b answer owner (k.task b.task) (apart b refl))
mark_ended answer None owner k t apart = mark_itself owner (k.task t)

-- it leaves the marks of the owner
pub mark_note : (outside : Outside) (m : Moment) (e : Entry) (owner : Owner) (t : ℕ) → MayNote outside m e
    → is_opening e ≡ false → Spares m e owner → SameMark owner (m.known.task t) ((learn m.known e).task t)
mark_note outside m (entries.TaskOpen o) owner t may none spares = absurd (false≢true (sym none))
mark_note outside m (entries.Begin b) owner t may none spares =
    changed_at (SameMark owner) (mark_itself owner) b.task t (task_with_call (m.known.task b.task)) m.known.task
    (mark_as owner (m.known.task b.task) (task_with_call (m.known.task b.task)) refl refl refl)
mark_note outside m (entries.End e) owner t may none spares =
    mark_ended e.answer (m.known.begun e.n) owner m.known t spares
mark_note outside m (entries.UpdBegin u) owner t may none spares =
    changed_at (SameMark owner) (mark_itself owner) u.task t (update_at Busy u.inst (m.known.task u.task)) m.known.task
    (mark_busy u.inst owner (m.known.task u.task) may.waits)
mark_note outside m (entries.UpdDone u) owner t may none spares =
    subst
    (λ (f : ℕ → Task). SameMark owner (m.known.task t) (at eqb u.task (update_at Finished u.inst (f u.task)) f t))
    (sym (dep_updated (want_in (m.known.task u.task).goal u.inst) u.inst m.known))
    (changed_at (SameMark owner) (mark_itself owner) u.task t (update_at Finished u.inst (m.known.task u.task))
    m.known.task (mark_finished u.inst owner (m.known.task u.task) spares))
mark_note outside m (entries.Gone u) owner t may none spares =
    changed_at (SameMark owner) (mark_itself owner) u.task t
    (record (m.known.task u.task) { gone = at same_inst u.inst true (m.known.task u.task).gone }) m.known.task
    (mark_gone u.inst owner (m.known.task u.task) spares)
mark_note outside m (entries.TaskDone n) owner t may none spares =
    subst
    (λ (f : ℕ → Task). SameMark owner (m.known.task t) (at eqb n (record (f n) { end = Some ends.Finished }) f t))
    (sym (dep_settled (m.known.task n).kind (m.known.task n).goal (dep_of_task m.known n) m.known))
    (changed_at (SameMark owner) (mark_itself owner) n t (record (m.known.task n) { end = Some ends.Finished })
    m.known.task
    (mark_as owner (m.known.task n) (record (m.known.task n) { end = Some ends.Finished }) refl refl refl))
mark_note outside m (entries.TaskError e) owner t may none spares =
    changed_at (SameMark owner) (mark_itself owner) e.task t
    (record (m.known.task e.task) { end = Some (end_by e.cause (m.known.begun (number_of e.cause))) }) m.known.task
    (mark_as owner (m.known.task e.task)
    (record (m.known.task e.task) { end = Some (end_by e.cause (m.known.begun (number_of e.cause))) }) refl refl refl)
mark_note outside m (entries.Snapshot s) owner t may none spares = absurd may
mark_note outside m entry owner t may none spares = mark_itself owner (m.known.task t)
