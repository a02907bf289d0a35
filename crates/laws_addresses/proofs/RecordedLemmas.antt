-- Which instances are recorded, and which have gone, after an entry that opens no task.
use Rattle.std.proofs.Common.{◌≡◌, ℕ, true, false, Option, Some, None, refl, sym, ◌∙◌, inl, inr, arith}
use Rattle.std.specs.Prelude.{if◌then◌else◌}
use Rattle.bosh_base.specs.declared.answer.Answer.{Answer}
use Rattle.bosh_base.specs.declared.entry.Begin.{Begin}
use Rattle.bosh_base.specs.declared.entry.Entry.{Entry}
use Rattle.bosh_base.specs.declared.entry.Entry.TheVariants as entries
use Rattle.bosh_base.specs.declared.inst.Inst.{Inst}
use Rattle.bosh_base.specs.declared.owner.Owner.{Owner}
use Rattle.bosh_base.specs.declared.owner.Owner.TheVariants.{Instance, Compile, Disk}
use Rattle.bosh_base.specs.declared.task.TaskEnd.TheVariants as ends
use Rattle.laws_facts.proofs.DepLemmas.{dep_settled, dep_updated}
use Rattle.laws_facts.proofs.FrameLemmas.{compiled_instances, slot_instances}
use Rattle.laws_facts.proofs.ListLemmas.{Tells, among_without}
use Rattle.laws_facts.proofs.LockLemmas.{is_opening}
use Rattle.laws_facts.specs.Tasks.{is_recorded}
use Rattle.bosh_history.specs.Calls.{call_ended, ends_of, number_of, task_told, task_with_call}
use Rattle.bosh_history.specs.Known.{Known, Task, dep_of_task, want_in}
use Rattle.bosh_history.specs.Learn.{learn}
use Rattle.bosh_history.specs.Moments.{Moment}
use Rattle.bosh_history.specs.Notes.{MayNote, Outside}
use Rattle.bosh_history.specs.Slots.{slot_after}
use Rattle.bosh_history.specs.Tasks.{end_by, settles}
use Rattle.bosh_history.specs.Updates.{update_at, update_done}
use Rattle.bosh_history.specs.Words.{at, is_among}
use Rattle.bosh_roll.specs.declared.upd.Upd.TheVariants.{Busy, Finished}
use Rattle.bosh_rows.proofs.SameLemmas.{same_inst_tells}
use Rattle.bosh_rows.specs.Same.{same_inst}
use Rattle.laws_addresses.proofs.ShapeLemmas.{kept_at}
use Rattle.laws_addresses.proofs.EndLemmas.{is_beginning}

-- ---- what goes

told_gone : (k : Known) (b : Begin) (answer : Answer) (i : Inst) (t : Task) → (task_told k b answer t).gone i ≡ t.gone i
told_gone k b answer i t = grind (arith)

ended_gone : (answer : Answer) (b : Option Begin) (k : Known) (t : ℕ) (i : Inst)
    → ((call_ended answer b k).task t).gone i ≡ (k.task t).gone i
ended_gone answer (Some b) k t i =
    kept_at (λ task. task.gone i) b.task (task_told k b answer) (λ task. told_gone k b answer i task) k.task t
ended_gone answer None k t i = refl

-- an instance that is recorded still has not gone
pub gone_note : (outside : Outside) (m : Moment) (e : Entry) → MayNote outside m e → is_opening e ≡ false → (t : ℕ)
    → (i : Inst) → is_recorded (learn m.known e) i ≡ true
    → ((learn m.known e).task t).gone i ≡ (m.known.task t).gone i
gone_note outside m (entries.Begin b) may none t i there =
    kept_at (λ task. task.gone i) b.task task_with_call (λ task. refl) m.known.task t
gone_note outside m (entries.End e) may none t i there = ended_gone e.answer (m.known.begun e.n) m.known t i
gone_note outside m (entries.TaskOpen o) may none t i there = absurd cc
gone_note outside m (entries.UpdBegin u) may none t i there =
    kept_at (λ task. task.gone i) u.task (update_at Busy u.inst) (λ task. refl) m.known.task t
gone_note outside m (entries.UpdDone u) may none t i there =
    kept_at (λ task. task.gone i) u.task (update_at Finished u.inst) (λ task. refl)
    (update_done (want_in (m.known.task u.task).goal u.inst) u.inst m.known).task t
    ∙ (λ l. (dep_updated (want_in (m.known.task u.task).goal u.inst) u.inst m.known l t).gone i)
gone_note outside m (entries.Gone u) may none t i there = by (same_inst_tells u.inst i)
  where
    by : Tells same_inst u.inst i
        → ((learn m.known (entries.Gone u)).task t).gone i ≡ (m.known.task t).gone i
    by (inl same) =
        absurd (grind (
          arith,
          there,
          among_without same_inst same_inst_tells i u.inst m.known.instances,
          same,
        ))
    by (inr apart) =
        kept_at (λ task. task.gone i) u.task (λ task. record task { gone = at same_inst u.inst true task.gone })
        (λ task l. if apart.0 l then true else task.gone i) m.known.task t
gone_note outside m (entries.TaskDone task) may none t i there =
    kept_at (λ task. task.gone i) task (λ it. record it { end = Some ends.Finished }) (λ task. refl)
    (settles (m.known.task task).kind (m.known.task task).goal (dep_of_task m.known task) m.known).task t
    ∙ (λ l.
    (dep_settled (m.known.task task).kind (m.known.task task).goal (dep_of_task m.known task) m.known l t).gone i)
gone_note outside m (entries.TaskError e) may none t i there =
    kept_at (λ task. task.gone i) e.task
    (λ it. record it { end = Some (end_by e.cause (m.known.begun (number_of e.cause))) }) (λ task. refl) m.known.task t
gone_note outside m (entries.Snapshot s) may none t i there = absurd may
gone_note outside m entry may none t i there = refl

-- ---- what is recorded

answered_recorded : (b : Begin) (answer : Answer) (owner : Owner) (k : Known)
    → (ends_of b answer owner k).instances ≡ k.instances
answered_recorded b answer (Instance j) k = refl
answered_recorded b answer (Compile t s) k = slot_instances t s (slot_after b.n b.call answer (k.slot t s)) k
answered_recorded b answer (Disk d) k = grind (arith)

ended_recorded : (answer : Answer) (b : Option Begin) (k : Known) → (call_ended answer b k).instances ≡ k.instances
ended_recorded answer (Some b) k =
    compiled_instances b.call answer (ends_of b answer b.owner k) ∙ answered_recorded b answer b.owner k
ended_recorded answer None k = refl

recorded_as : (old new : Known) (i : Inst) → new.instances ≡ old.instances → is_recorded new i ≡ true
    → is_recorded old i ≡ true
recorded_as old new i same is = sym (λ l. is_among same_inst i (same l)) ∙ is

updated_recorded : (m : Moment) (t : ℕ) (i : Inst)
    → (update_done (want_in (m.known.task t).goal i) i m.known).instances ≡ m.known.instances
updated_recorded m t i = grind (arith)

settled_recorded : (m : Moment) (t : ℕ)
    → (settles (m.known.task t).kind (m.known.task t).goal (dep_of_task m.known t) m.known).instances ≡
    m.known.instances
settled_recorded m t = grind (arith)

pub recorded_note : (outside : Outside) (m : Moment) (e : Entry) → MayNote outside m e → is_opening e ≡ false
    → is_beginning e ≡ false → (i : Inst) → is_recorded (learn m.known e) i ≡ true → is_recorded m.known i ≡ true
recorded_note outside m (entries.Begin b) may none too i is = absurd cc
recorded_note outside m (entries.End e) may none too i is =
    recorded_as m.known (learn m.known (entries.End e)) i (ended_recorded e.answer (m.known.begun e.n) m.known) is
recorded_note outside m (entries.TaskOpen o) may none too i is = absurd cc
recorded_note outside m (entries.UpdDone u) may none too i is =
    recorded_as m.known (learn m.known (entries.UpdDone u)) i (updated_recorded m u.task u.inst) is
recorded_note outside m (entries.Gone u) may none too i is =
    grind (arith, is, among_without same_inst same_inst_tells i u.inst m.known.instances)
recorded_note outside m (entries.TaskDone t) may none too i is =
    recorded_as m.known (learn m.known (entries.TaskDone t)) i (settled_recorded m t) is
recorded_note outside m (entries.Snapshot s) may none too i is = absurd may
recorded_note outside m entry may none too i is = is
