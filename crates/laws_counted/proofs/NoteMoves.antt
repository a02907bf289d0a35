-- The calls of a clean task stay few, when an entry is noted that opens no task and is of no call.
use Rattle.std.proofs.Common.{◌≡◌, ◌∙◌, ℕ, ◌+◌, ◌≤◌, Bool, true, false, Option, Some, None}
use Rattle.std.proofs.Common.{arith, refl, subst, sym}
use Rattle.std.specs.Prelude.{◌&&◌, eqb, if◌then◌else◌, is_some, nat_le, nat_lt, not}
use Rattle.std.proofs.lemmas.Bool.{and_parts, eq-eqb, eqb-true, false≢true, leb-true}
use Rattle.bosh_base.specs.declared.answer.Answer.{Answer}
use Rattle.bosh_base.specs.declared.call.Call.{Call}
use Rattle.bosh_base.specs.declared.entry.Begin.{Begin}
use Rattle.bosh_base.specs.declared.entry.Entry.{Entry}
use Rattle.bosh_base.specs.declared.entry.Entry.TheVariants as entries
use Rattle.bosh_base.specs.declared.entry.Update.{Update}
use Rattle.bosh_base.specs.declared.inst.Inst.{Inst}
use Rattle.bosh_base.specs.declared.owner.Owner.{Owner}
use Rattle.bosh_base.specs.declared.owner.Owner.TheVariants.{Instance}
use Rattle.bosh_base.specs.declared.task.TaskEnd.TheVariants as ends
use Rattle.bosh_history.specs.Calls.{call_ended, number_of, task_after_ping, task_told}
use Rattle.bosh_history.specs.Items.{is_finished, is_item, is_to_change, is_to_go, is_to_ping, stage_of}
use Rattle.bosh_history.specs.Known.{Known, Task, dep_of_task, plan_in, want_in}
use Rattle.bosh_history.specs.Learn.{learn}
use Rattle.bosh_history.specs.Moments.{Moment, noting}
use Rattle.bosh_history.specs.Notes.{EndsUpdate, Leaves, MayNote, Outside}
use Rattle.bosh_history.specs.Recovered.{may_follow}
use Rattle.bosh_history.specs.Steps.{is_idle}
use Rattle.bosh_history.specs.Tasks.{end_by}
use Rattle.bosh_history.specs.Updates.{update_at, update_done}
use Rattle.bosh_history.specs.Words.{at, is_among}
use Rattle.bosh_roll.specs.declared.upd.Upd.TheVariants.{Busy, Finished}
use Rattle.bosh_rows.proofs.SameLemmas.{same_inst_decides}
use Rattle.bosh_rows.specs.Same.{same_inst}
use Rattle.laws_clean.proofs.NoteLemmas.{is_ending, so_far_note}
use Rattle.laws_compiling.proofs.GrowthLemmas.{compiled_stays}
use Rattle.laws_counted.proofs.CallFrames.{still_same}
use Rattle.laws_counted.proofs.CountLemmas.{budgeted_dep}
use Rattle.laws_counted.proofs.OwnLemmas.{own_instance}
use Rattle.laws_counted.proofs.SlotEnds.{and_no}
use Rattle.laws_counted.proofs.StepFrames.{kept_itself, steps_same}
use Rattle.laws_counted.proofs.StillLemmas.{Still, budgeted_as, clean_still, goes_on_as, same_for, steps_settled}
use Rattle.laws_counts.specs.Counts.{CleanFacts}
use Rattle.laws_counts.specs.Courses.{Account}
use Rattle.laws_counts.specs.RowSteps.{StepFacts, is_budgeted}
use Rattle.laws_facts.proofs.CurrentLemmas.{done_works}
use Rattle.laws_facts.proofs.DepLemmas.{dep_settled, dep_updated}
use Rattle.laws_facts.proofs.LockLemmas.{is_opening}
use Rattle.laws_facts.proofs.MadeLemmas.{same_tasks}
use Rattle.laws_facts.specs.Facts.{Holds}
use Rattle.laws_facts.specs.Owners.{works}
use Rattle.laws_items.proofs.MarkLemmas.{Spares, mark_note}
use Rattle.laws_items.proofs.OnwardLemmas.{phase_by}
use Rattle.laws_items.proofs.RowFrames.{is_beginning, row_note}
use Rattle.laws_items.proofs.SlotFrames.{is_of_call, slots_note}
use Rattle.laws_kept_rows.proofs.NotedLemmas.{Tells, is_other, is_owner, tells}
use Rattle.laws_standing.proofs.ThroughLemmas.{changed_in, gone_out}
use Rattle.laws_tasks.proofs.TaskFrames.{OpenedAlike, changed_at, opened_stays}

pub low_of : (m : Moment) (t : ℕ) → works m t ≡ true → t ≤ m.known.tasks
low_of m t working =
    leb-true t m.known.tasks
    (and_parts (nat_le t m.known.tasks) _ (and_parts (nat_lt m.stopped t) _ working).1).0

-- ---- what such an entry leaves

abbrev SameCount : Task → Task → Type 0
SameCount a b = b.calls ≡ a.calls

same_count : (a : Task) → SameCount a a
same_count a = refl

-- an answer begins no call
after_ping : (call : Call) (answer : Answer) (owner : Owner) (task : Task)
    → (task_after_ping call answer owner task).calls ≡ task.calls
after_ping call answer owner task = grind (arith)

pub ended_count : (answer : Answer) (b : Option Begin) (k : Known) (t : ℕ)
    → ((call_ended answer b k).task t).calls ≡ (k.task t).calls
ended_count answer None k t = refl
ended_count answer (Some b) k t = by (eqb b.task t) refl
  where
    by : (same : Bool) → eqb b.task t ≡ same
        → (if same then task_told k b answer (k.task b.task) else k.task t).calls ≡ (k.task t).calls
    by true same = after_ping b.call answer b.owner (k.task b.task) ∙ (λ j. (k.task (eqb-true b.task t same j)).calls)
    by false other = refl

pub count_note : (outside : Outside) (m : Moment) (e : Entry) (t : ℕ) → MayNote outside m e → is_opening e ≡ false
    → is_of_call e ≡ false → SameCount (m.known.task t) ((learn m.known e).task t)
count_note outside m (entries.TaskOpen o) t may none plain = absurd (false≢true (sym none))
count_note outside m (entries.Begin b) t may none plain = absurd (false≢true (sym plain))
count_note outside m (entries.End e) t may none plain = absurd (false≢true (sym plain))
count_note outside m (entries.UpdBegin u) t may none plain =
    changed_at SameCount same_count u.task t (update_at Busy u.inst (m.known.task u.task)) m.known.task refl
count_note outside m (entries.UpdDone u) t may none plain =
    subst (λ (f : ℕ → Task). SameCount (m.known.task t) (at eqb u.task (update_at Finished u.inst (f u.task)) f t))
    (sym (dep_updated (want_in (m.known.task u.task).goal u.inst) u.inst m.known))
    (changed_at SameCount same_count u.task t (update_at Finished u.inst (m.known.task u.task)) m.known.task refl)
count_note outside m (entries.Gone u) t may none plain =
    changed_at SameCount same_count u.task t
    (record (m.known.task u.task) { gone = at same_inst u.inst true (m.known.task u.task).gone }) m.known.task refl
count_note outside m (entries.TaskDone n) t may none plain =
    subst (λ (f : ℕ → Task). SameCount (m.known.task t) (at eqb n (record (f n) { end = Some ends.Finished }) f t))
    (sym (dep_settled (m.known.task n).kind (m.known.task n).goal (dep_of_task m.known n) m.known))
    (changed_at SameCount same_count n t (record (m.known.task n) { end = Some ends.Finished }) m.known.task refl)
count_note outside m (entries.TaskError e) t may none plain =
    changed_at SameCount same_count e.task t
    (record (m.known.task e.task) { end = Some (end_by e.cause (m.known.begun (number_of e.cause))) }) m.known.task refl
count_note outside m (entries.Snapshot s) t may none plain = absurd may
count_note outside m entry t may none plain = refl

calls_note : (m : Moment) (e : Entry) → is_of_call e ≡ false → (noting m e).calls ≡ m.calls
calls_note m (entries.Begin b) plain = absurd (false≢true (sym plain))
calls_note m (entries.End e) plain = absurd (false≢true (sym plain))
calls_note m entry plain = refl

none_begins : (e : Entry) → is_of_call e ≡ false → is_beginning e ≡ false
none_begins (entries.Begin b) plain = plain
none_begins entry plain = refl

none_ends : (e : Entry) → is_of_call e ≡ false → is_ending e ≡ false
none_ends (entries.End e) plain = plain
none_ends entry plain = refl

module _ (outside : Outside) (m : Moment) (h : Holds m) (e : Entry) (may : MayNote outside m e)
    (none : is_opening e ≡ false) (plain : is_of_call e ≡ false) (later : Holds (noting m e)) (t : ℕ)
    (working : works m t ≡ true) (a : Account) (f : CleanFacts outside.built m t a) where
  abbrev n : Moment
  n = noting m e

  abbrev old : Task
  old = m.known.task t

  abbrev new : Task
  new = n.known.task t

  alike : OpenedAlike old new
  alike = opened_stays outside m e t may none

  still : Still m n t
  still = record {
    calls = calls_note m e plain;
    slot = slots_note outside m e may plain;
    alike = alike;
    count = count_note outside m e t may none plain;
    grows = λ key. compiled_stays outside m e key may;
    tasks = same_tasks outside m e may;
  }

  module _ (i : Inst) (budgeted : is_budgeted old i ≡ true) where
    -- an instance that the entry spares
    spared : Spares m e (Instance i) → StepFacts outside.built n new a i
    spared spares =
        steps_same outside.built m n old new a a i later.known.numbers.past (still_same m n (Instance i) still.calls)
        (row_note outside m e i may (none_begins e plain) spares)
        (same_for old new i alike (mark_note outside m e (Instance i) t may none spares))
        (λ going. sym (goes_on_as old new i alike (mark_note outside m e (Instance i) t may none spares)) ∙ going)
        (kept_itself a i) (f.steps i budgeted)

    same_asks : is_to_ping new i ≡ is_to_ping old i
    same_asks =
        λ j. is_among same_inst i (alike.to_ping j)
        && not ((so_far_note outside m e t may none (none_ends e plain)).pinged j i)

    -- one of which nothing is left to do
    settled : is_idle m (Instance i) ≡ true → is_to_ping old i ≡ false → is_to_go new i ≡ false
        → is_to_change new i ≡ false → StepFacts outside.built n new a i
    settled idle asks goes changes =
        steps_settled outside.built m n old new a i h.known still.calls idle
        (λ j. is_some
        (phase_by ((same_asks ∙ asks) j) (goes j) (changes j) (4 + stage_of (plan_in new.goal i))))
        (record { want = λ j. want_in (alike.goal j) i; asks = same_asks }) (f.steps i budgeted)

  pub plain_from : ((i : Inst) → is_budgeted old i ≡ true → StepFacts outside.built n new a i)
      → CleanFacts outside.built n t a
  plain_from steps =
      clean_still outside.built m n t a later.known (low_of m t working) still
      (λ i is. steps i (sym (budgeted_as old new i alike) ∙ is)) f

-- ---- an update is done, and an instance is gone

pub not_among : (b : Bool) → (b ≡ true → ⊥) → b ≡ false
not_among true none = absurd (none refl)
not_among false none = refl

module _ (m : Moment) (h : Holds m) (u : Update) (t : ℕ) (working : works m t ≡ true) (i : Inst)
    (one : u.inst ≡ i) (mine : u.task ≡ t) where
  abbrev task : Task
  task = m.known.task t

  no_obsolete : is_among same_inst i task.changed ≡ true → is_among same_inst i task.obsolete ≡ false
  no_obsolete changes =
      not_among (is_among same_inst i task.obsolete)
      (λ goes. gone_out m h.known t working i goes (changed_in m h.known t working i changes))

  done_now : is_finished (((learn m.known (entries.UpdDone u)).task t).upd i) ≡ true
  done_now =
      (λ j. is_finished
      ((if eq-eqb u.task t mine j then update_at Finished u.inst (base.task u.task) else base.task t).upd i))
      ∙ (λ j. is_finished (if (same_inst_decides u.inst i).1 one j then Finished else (base.task u.task).upd i))
    where
      base : Known
      base = update_done (want_in (m.known.task u.task).goal u.inst) u.inst m.known

  gone_now : ((learn m.known (entries.Gone u)).task t).gone i ≡ true
  gone_now =
      (λ j. (if eq-eqb u.task t mine j
      then record (m.known.task u.task) { gone = at same_inst u.inst true (m.known.task u.task).gone }
      else m.known.task t).gone i)
      ∙ (λ j. if (same_inst_decides u.inst i).1 one j then true else (m.known.task u.task).gone i)

-- ---- all of them

module _ (outside : Outside) (m : Moment) (h : Holds m) (t : ℕ) (working : works m t ≡ true) (a : Account)
    (f : CleanFacts outside.built m t a) where
  -- the instance of an update of the task
  of_task : (u : Update) (i : Inst) → is_budgeted (m.known.task t) i ≡ true → u.inst ≡ i → works m u.task ≡ true
      → is_item m.known u.task (Instance u.inst) ≡ true → u.task ≡ t
  of_task u i budgeted one works_too item =
      own_instance m h.known t working i (budgeted_dep m h.known t working i budgeted) u.task works_too
      (sym (λ j. is_item m.known u.task (Instance (one j))) ∙ item)

  done_steps : (u : Update) (may : EndsUpdate m u) → may_follow m (entries.UpdDone u) ≡ true
      → (later : Holds (noting m (entries.UpdDone u))) → (i : Inst) (budgeted : is_budgeted (m.known.task t) i ≡ true)
      → Tells (Instance u.inst) (Instance i)
      → StepFacts outside.built (noting m (entries.UpdDone u)) ((noting m (entries.UpdDone u)).known.task t) a i
  done_steps u may follows later i budgeted (is_other other) =
      spared outside m h (entries.UpdDone u) may refl refl later t working a f i budgeted other
  done_steps u may follows later i budgeted (is_owner own) =
      let one : u.inst ≡ i = cc in
      let mine : u.task ≡ t =
      of_task u i budgeted one (done_works m u.task follows may.is_open) may.is_item in
      let changes : is_among same_inst i (m.known.task t).changed ≡ true =
      (and_parts (is_among same_inst i (m.known.task t).changed) _
      (sym (λ j. is_to_change (m.known.task (mine j)) (one j)) ∙ may.is_changed)).0 in
      let alike : OpenedAlike (m.known.task t) ((learn m.known (entries.UpdDone u)).task t) =
      opened_stays outside m (entries.UpdDone u) t may refl in
      settled outside m h (entries.UpdDone u) may refl refl later t working a f i budgeted
      (sym (λ j. is_idle m (Instance (one j))) ∙ may.is_idle)
      (sym (λ j. is_to_ping (m.known.task (mine j)) (one j)) ∙ may.is_asked)
      (λ j. (((λ l. is_among same_inst i (alike.obsolete l))
      ∙ no_obsolete m h u t working i one mine changes) j)
      && not (((learn m.known (entries.UpdDone u)).task t).gone i))
      (and_no (is_among same_inst i ((learn m.known (entries.UpdDone u)).task t).changed) _
      (λ j. not (done_now m h u t working i one mine j)))

  gone_steps : (u : Update) (may : Leaves m u) → may_follow m (entries.Gone u) ≡ true
      → (later : Holds (noting m (entries.Gone u))) → (i : Inst) (budgeted : is_budgeted (m.known.task t) i ≡ true)
      → Tells (Instance u.inst) (Instance i)
      → StepFacts outside.built (noting m (entries.Gone u)) ((noting m (entries.Gone u)).known.task t) a i
  gone_steps u may follows later i budgeted (is_other other) =
      spared outside m h (entries.Gone u) may refl refl later t working a f i budgeted other
  gone_steps u may follows later i budgeted (is_owner own) =
      let one : u.inst ≡ i = cc in
      let mine : u.task ≡ t =
      of_task u i budgeted one (done_works m u.task follows may.is_open) may.is_item in
      let goes : is_among same_inst i (m.known.task t).obsolete ≡ true =
      (and_parts (is_among same_inst i (m.known.task t).obsolete) _
      (sym (λ j. is_to_go (m.known.task (mine j)) (one j)) ∙ may.is_obsolete)).0 in
      let alike : OpenedAlike (m.known.task t) ((learn m.known (entries.Gone u)).task t) =
      opened_stays outside m (entries.Gone u) t may refl in
      let unchanged : is_among same_inst i (m.known.task t).changed ≡ false =
      not_among (is_among same_inst i (m.known.task t).changed)
      (λ changes. gone_out m h.known t working i goes (changed_in m h.known t working i changes)) in
      settled outside m h (entries.Gone u) may refl refl later t working a f i budgeted
      (sym (λ j. is_idle m (Instance (one j))) ∙ may.is_idle)
      (sym (λ j. is_to_ping (m.known.task (mine j)) (one j)) ∙ may.is_asked)
      (and_no (is_among same_inst i ((learn m.known (entries.Gone u)).task t).obsolete) _
      (λ j. not (gone_now m h u t working i one mine j)))
      (λ j. (((λ l. is_among same_inst i (alike.changed l)) ∙ unchanged) j)
      && not (is_finished (((learn m.known (entries.Gone u)).task t).upd i)))

  pub clean_plain : (e : Entry) → may_follow m e ≡ true → MayNote outside m e → is_opening e ≡ false
      → is_of_call e ≡ false → Holds (noting m e) → CleanFacts outside.built (noting m e) t a
  clean_plain (entries.TaskOpen o) follows may none plain later = absurd (false≢true (sym none))
  clean_plain (entries.Begin b) follows may none plain later = absurd (false≢true (sym plain))
  clean_plain (entries.End e) follows may none plain later = absurd (false≢true (sym plain))
  clean_plain (entries.UpdDone u) follows may none plain later =
      plain_from outside m h (entries.UpdDone u) may refl refl later t working a f
      (λ i budgeted. done_steps u may follows later i budgeted (tells (Instance u.inst) (Instance i)))
  clean_plain (entries.Gone u) follows may none plain later =
      plain_from outside m h (entries.Gone u) may refl refl later t working a f
      (λ i budgeted. gone_steps u may follows later i budgeted (tells (Instance u.inst) (Instance i)))
  clean_plain (entries.Snapshot s) follows may none plain later = absurd may
  clean_plain e follows may none plain later =
      plain_from outside m h e may none plain later t working a f
      (λ i budgeted. spared outside m h e may none plain later t working a f i budgeted tt)
