-- What entries leave of a task: what it opened with, and its updates, but where one begins or is done.
use Rattle.std.proofs.Common.{◌≡◌, ℕ, Bool, true, false, Option, Some, None, refl, sym, subst, arith}
use Rattle.std.specs.Prelude.{eqb, if◌then◌else◌}
use Rattle.std.proofs.lemmas.Bool.{eqb-true, false≢true}
use Rattle.bosh_base.specs.declared.answer.Answer.{Answer}
use Rattle.bosh_base.specs.declared.call.Call.{Call}
use Rattle.bosh_base.specs.declared.entry.Begin.{Begin}
use Rattle.bosh_base.specs.declared.entry.Entry.{Entry}
use Rattle.bosh_base.specs.declared.entry.Entry.TheVariants as entries
use Rattle.bosh_base.specs.declared.failure.Failure.{Failure}
use Rattle.bosh_base.specs.declared.inst.Inst.{Inst}
use Rattle.bosh_base.specs.declared.owner.Owner.{Owner}
use Rattle.bosh_base.specs.declared.task.TaskEnd.{TaskEnd}
use Rattle.bosh_base.specs.declared.task.TaskEnd.TheVariants as ends
use Rattle.bosh_history.specs.Calls.{call_ended, number_of, task_after_ping, task_told, task_with_call}
use Rattle.bosh_history.specs.Known.{Known, Task, dep_of_task, want_in}
use Rattle.bosh_history.specs.Learn.{learn}
use Rattle.bosh_history.specs.Moments.{Moment}
use Rattle.bosh_history.specs.Notes.{MayNote, Outside}
use Rattle.bosh_history.specs.Tasks.{end_by}
use Rattle.bosh_history.specs.Updates.{update_at}
use Rattle.bosh_history.specs.Words.{at}
use Rattle.bosh_roll.specs.declared.upd.Upd.{Upd}
use Rattle.bosh_roll.specs.declared.upd.Upd.TheVariants.{Busy, Finished}
use Rattle.bosh_rows.specs.Same.{same_inst}
use Rattle.laws_facts.proofs.DepLemmas.{dep_settled, dep_updated}
use Rattle.laws_facts.proofs.LockLemmas.{is_opening}

-- the second task has the updates of the first
pub record SameUpdates (a b : Task) : Type 0 where
  pub kind : b.kind ≡ a.kind
  pub goal : b.goal ≡ a.goal
  pub changed : b.changed ≡ a.changed
  pub upd : b.upd ≡ a.upd

pub still : (a : Task) → SameUpdates a a
still a = record { kind = refl; goal = refl; changed = refl; upd = refl }

-- where one task changes, what is said of it before and after the change is so of each
module _ (P : Task → Task → Type 0) (itself : (a : Task) → P a a) where
  pub changed_at : (n t : ℕ) (x : Task) (f : ℕ → Task) → P (f n) x → P (f t) (at eqb n x f t)
  changed_at n t x f same = by (eqb n t) refl
    where
      by : (b : Bool) → eqb n t ≡ b → P (f t) (if b then x else f t)
      by true equal = subst (λ (m : ℕ). P (f m) x) (eqb-true n t equal) same
      by false other = itself (f t)

pinged : (call : Call) (answer : Answer) (owner : Owner) (t : Task)
    → SameUpdates t (task_after_ping call answer owner t)
pinged call answer owner t = record {
  kind = grind (arith);
  goal = grind (arith);
  changed = grind (arith);
  upd = grind (arith);
}

told : (k : Known) (b : Begin) (answer : Answer) (t : Task) → SameUpdates t (task_told k b answer t)
told k b answer t =
    let same : SameUpdates t (task_after_ping b.call answer b.owner t) = pinged b.call answer b.owner t in
    record { kind = same.kind; goal = same.goal; changed = same.changed; upd = same.upd }

ended : (answer : Answer) (b : Option Begin) (k : Known) (t : ℕ)
    → SameUpdates (k.task t) ((call_ended answer b k).task t)
ended answer (Some b) k t =
    changed_at SameUpdates still b.task t (task_told k b answer (k.task b.task)) k.task (told k b answer (k.task b.task))
ended answer None k t = still (k.task t)

-- the entry opens a task, or an update begins or is done
abbrev pub is_update : Entry → Bool
is_update (entries.TaskOpen o) = true
is_update (entries.UpdBegin u) = true
is_update (entries.UpdDone u) = true
is_update entry = false

-- each other entry leaves the updates of each task
pub same_updates : (outside : Outside) (m : Moment) (e : Entry) (t : ℕ) → MayNote outside m e → is_update e ≡ false
    → SameUpdates (m.known.task t) ((learn m.known e).task t)
same_updates outside m (entries.TaskOpen o) t may none = absurd (false≢true (sym none))
same_updates outside m (entries.UpdBegin u) t may none = absurd (false≢true (sym none))
same_updates outside m (entries.UpdDone u) t may none = absurd (false≢true (sym none))
same_updates outside m (entries.Begin b) t may none =
    changed_at SameUpdates still b.task t (task_with_call (m.known.task b.task)) m.known.task
    (record { kind = refl; goal = refl; changed = refl; upd = refl })
same_updates outside m (entries.End e) t may none = ended e.answer (m.known.begun e.n) m.known t
same_updates outside m (entries.Gone u) t may none =
    changed_at SameUpdates still u.task t
    (record (m.known.task u.task) { gone = at same_inst u.inst true (m.known.task u.task).gone }) m.known.task
    (record { kind = refl; goal = refl; changed = refl; upd = refl })
same_updates outside m (entries.TaskDone n) t may none =
    subst
    (λ (f : ℕ → Task). SameUpdates (m.known.task t) (at eqb n (record (f n) { end = Some ends.Finished }) f t))
    (sym (dep_settled (m.known.task n).kind (m.known.task n).goal (dep_of_task m.known n) m.known))
    (changed_at SameUpdates still n t (record (m.known.task n) { end = Some ends.Finished }) m.known.task
    (record { kind = refl; goal = refl; changed = refl; upd = refl }))
same_updates outside m (entries.TaskError e) t may none =
    changed_at SameUpdates still e.task t
    (record (m.known.task e.task) { end = Some (end_by e.cause (m.known.begun (number_of e.cause))) }) m.known.task
    (record { kind = refl; goal = refl; changed = refl; upd = refl })
same_updates outside m (entries.Snapshot s) t may none = absurd may
same_updates outside m entry t may none = still (m.known.task t)

-- ---- what a task opened with

-- the second task opened as the first
pub record OpenedAlike (a b : Task) : Type 0 where
  pub kind : b.kind ≡ a.kind
  pub dep : b.dep ≡ a.dep
  pub goal : b.goal ≡ a.goal
  pub changed : b.changed ≡ a.changed
  pub obsolete : b.obsolete ≡ a.obsolete
  pub disks : b.disks ≡ a.disks
  pub to_ping : b.to_ping ≡ a.to_ping
  pub orphans : b.orphans ≡ a.orphans

-- what is told of a task later leaves what it opened with
opened_as : (a : Task) (pinged gone : Inst → Bool) (upd : Inst → Upd) (failed : Option Failure) (calls : Option ℕ)
    (end : Option TaskEnd)
    → OpenedAlike a
    (record a { pinged = pinged; upd = upd; gone = gone; failed = failed; calls = calls; end = end })
opened_as a pinged gone upd failed calls end = record {
  kind = refl;
  dep = refl;
  goal = refl;
  changed = refl;
  obsolete = refl;
  disks = refl;
  to_ping = refl;
  orphans = refl;
}

-- .. and so does nothing
pub opened_itself : (a : Task) → OpenedAlike a a
opened_itself a = opened_as a a.pinged a.gone a.upd a.failed a.calls a.end

opened_pinged : (call : Call) (answer : Answer) (owner : Owner) (t : Task)
    → OpenedAlike t (task_after_ping call answer owner t)
opened_pinged call answer owner t = record {
  kind = grind (arith);
  dep = grind (arith);
  goal = grind (arith);
  changed = grind (arith);
  obsolete = grind (arith);
  disks = grind (arith);
  to_ping = grind (arith);
  orphans = grind (arith);
}

opened_told : (k : Known) (b : Begin) (answer : Answer) (t : Task) → OpenedAlike t (task_told k b answer t)
opened_told k b answer t =
    let same : OpenedAlike t (task_after_ping b.call answer b.owner t) = opened_pinged b.call answer b.owner t in
    record {
      kind = same.kind;
      dep = same.dep;
      goal = same.goal;
      changed = same.changed;
      obsolete = same.obsolete;
      disks = same.disks;
      to_ping = same.to_ping;
      orphans = same.orphans;
    }

opened_ended : (answer : Answer) (b : Option Begin) (k : Known) (t : ℕ)
    → OpenedAlike (k.task t) ((call_ended answer b k).task t)
opened_ended answer (Some b) k t =
    changed_at OpenedAlike opened_itself b.task t (task_told k b answer (k.task b.task)) k.task
    (opened_told k b answer (k.task b.task))
opened_ended answer None k t = opened_itself (k.task t)

-- .. where it is told of one
opened_at : (n t : ℕ) (x : Task) (f : ℕ → Task) → OpenedAlike (f n) x → OpenedAlike (f t) (at eqb n x f t)
opened_at = changed_at OpenedAlike opened_itself

-- an entry leaves what a task opened with, unless it opens the task
pub opened_stays : (outside : Outside) (m : Moment) (e : Entry) (t : ℕ) → MayNote outside m e → is_opening e ≡ false
    → OpenedAlike (m.known.task t) ((learn m.known e).task t)
opened_stays outside m (entries.TaskOpen o) t may none = absurd (false≢true (sym none))
opened_stays outside m (entries.Begin b) t may none =
    let it : Task = m.known.task b.task in
    opened_at b.task t (task_with_call it) m.known.task
    (opened_as it it.pinged it.gone it.upd it.failed (task_with_call it).calls it.end)
opened_stays outside m (entries.End e) t may none = opened_ended e.answer (m.known.begun e.n) m.known t
opened_stays outside m (entries.UpdBegin u) t may none =
    let it : Task = m.known.task u.task in
    opened_at u.task t (update_at Busy u.inst it) m.known.task
    (opened_as it it.pinged it.gone (update_at Busy u.inst it).upd it.failed it.calls it.end)
opened_stays outside m (entries.UpdDone u) t may none =
    let it : Task = m.known.task u.task in
    subst (λ (f : ℕ → Task). OpenedAlike (m.known.task t) (at eqb u.task (update_at Finished u.inst (f u.task)) f t))
    (sym (dep_updated (want_in (m.known.task u.task).goal u.inst) u.inst m.known))
    (opened_at u.task t (update_at Finished u.inst it) m.known.task
    (opened_as it it.pinged it.gone (update_at Finished u.inst it).upd it.failed it.calls it.end))
opened_stays outside m (entries.Gone u) t may none =
    let it : Task = m.known.task u.task in
    opened_at u.task t (record it { gone = at same_inst u.inst true it.gone }) m.known.task
    (opened_as it it.pinged (at same_inst u.inst true it.gone) it.upd it.failed it.calls it.end)
opened_stays outside m (entries.TaskDone n) t may none =
    let it : Task = m.known.task n in
    subst
    (λ (f : ℕ → Task). OpenedAlike (m.known.task t) (at eqb n (record (f n) { end = Some ends.Finished }) f t))
    (sym (dep_settled (m.known.task n).kind (m.known.task n).goal (dep_of_task m.known n) m.known))
    (opened_at n t (record it { end = Some ends.Finished }) m.known.task
    (opened_as it it.pinged it.gone it.upd it.failed it.calls (Some ends.Finished)))
opened_stays outside m (entries.TaskError e) t may none =
    let it : Task = m.known.task e.task in
    let end : Option TaskEnd = Some (end_by e.cause (m.known.begun (number_of e.cause))) in
    opened_at e.task t (record it { end = end }) m.known.task
    (opened_as it it.pinged it.gone it.upd it.failed it.calls end)
opened_stays outside m (entries.Snapshot s) t may none = absurd may
opened_stays outside m entry t may none = opened_itself (m.known.task t)
