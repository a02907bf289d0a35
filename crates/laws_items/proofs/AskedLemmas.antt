-- A row that is to be asked has a machine and is not lost, and its instance is not through.
use Rattle.std.proofs.Common.{◌≡◌, ◌∙◌, ℕ, ◌+◌, Bool, true, false, ◌&&◌, ◌||◌, not, Option, Some, None, List, [], ◌∷◌}
use Rattle.std.proofs.Common.{ap, refl, sym, inl, inr, arith, filter, map}
use Rattle.std.specs.Prelude.{◌⊎◌, ◌≢◌, ◌==◌, eqb, find, if◌then◌else◌, is_some}
use Rattle.std.proofs.lemmas.Bool.{and_from, and_parts, eq-eqb, false≢true}
use Rattle.std.proofs.lemmas.Bool.Decides.{eqb_tells}
use Rattle.bosh_base.specs.declared.answer.Answer.{Answer}
use Rattle.bosh_base.specs.declared.answer.Answer.TheVariants as answers
use Rattle.bosh_base.specs.declared.call.Call.{Call}
use Rattle.bosh_base.specs.declared.call.Call.TheVariants.{Ping}
use Rattle.bosh_base.specs.declared.entry.Begin.{Begin}
use Rattle.bosh_base.specs.declared.entry.End.{End}
use Rattle.bosh_base.specs.declared.entry.Entry.{Entry}
use Rattle.bosh_base.specs.declared.entry.Entry.TheVariants as entries
use Rattle.bosh_base.specs.declared.entry.TaskOpen.{TaskOpen}
use Rattle.bosh_base.specs.declared.entry.Update.{Update}
use Rattle.bosh_base.specs.declared.goal.Goal.{Goal}
use Rattle.bosh_base.specs.declared.goal.GoalRow.{GoalRow}
use Rattle.bosh_base.specs.declared.inst.Inst.{Inst}
use Rattle.bosh_base.specs.declared.moves.Move.{Move}
use Rattle.bosh_base.specs.declared.moves.Move.TheVariants as moves
use Rattle.bosh_base.specs.declared.owner.Owner.{Owner}
use Rattle.bosh_base.specs.declared.owner.Owner.TheVariants.{Instance, Compile, Disk}
use Rattle.bosh_base.specs.declared.task.TaskKind.{TaskKind}
use Rattle.bosh_base.specs.declared.task.TaskKind.TheVariants as kinds
use Rattle.bosh_history.specs.Calls.{call_ended, task_after_ping, task_told}
use Rattle.bosh_history.specs.Goals.{inst_of, instances_of, is_in, named_instance, to_change}
use Rattle.bosh_history.specs.Items.{instance_phase, is_finished, is_item, is_to_change, is_to_go, is_to_ping, stage_of}
use Rattle.bosh_history.specs.Known.{Known, plan_in}
use Rattle.bosh_history.specs.Learn.{learn}
use Rattle.bosh_history.specs.Moments.{Moment, OpenCall, later, noting}
use Rattle.bosh_history.specs.Notes.{EndsCall, MayNote, Outside}
use Rattle.bosh_history.specs.Openings.{MayOpen, OpensBy, OpensFor}
use Rattle.bosh_history.specs.Permitted.{IsPermitted}
use Rattle.bosh_history.specs.Recovered.{may_follow}
use Rattle.bosh_history.specs.Tasks.{asks_of, has_machine, task_opened, to_ping}
use Rattle.bosh_history.specs.Words.{at, is_among}
use Rattle.bosh_lawful.specs.Clean.{is_failed}
use Rattle.bosh_rows.proofs.SameLemmas.{same_inst_decides}
use Rattle.bosh_rows.specs.After.{after}
use Rattle.bosh_rows.specs.Same.{same_inst}
use Rattle.bosh_rows.specs.Standing.{same_truth}
use Rattle.laws_facts.proofs.CurrentLemmas.{done_works, none_works, worked}
use Rattle.laws_facts.proofs.LockLemmas.{is_opening, note_stays}
use Rattle.laws_facts.proofs.WorkLemmas.{opens_next}
use Rattle.laws_facts.specs.KnownFacts.{KnownFacts}
use Rattle.laws_facts.specs.OpenCalls.{is_asked}
use Rattle.laws_facts.specs.Owners.{works}
use Rattle.laws_facts.specs.Tasks.{can_be_asked, is_through}
use Rattle.laws_items.proofs.ItemFrames.{truth_from}
use Rattle.laws_items.proofs.ListLemmas.{is_among_in, in_mapped, find_in}
use Rattle.laws_items.proofs.ListedLemmas.{NamesItsOwn, names_its_own, one_lock}
use Rattle.laws_items.proofs.MarkLemmas.{IsMarked, Spares, mark_note, onward_note}
use Rattle.laws_items.proofs.OnwardLemmas.{TaskOnward, was_to_ping}
use Rattle.laws_items.proofs.PhaseLemmas.{IsLeft, of_item}
use Rattle.laws_items.proofs.RowFrames.{SameMachine, ended_own, machine_note}
use Rattle.laws_items.specs.Items.{CanBeAsked}
use Rattle.laws_items.specs.Lists.{IsIn}
use Rattle.laws_row_facts.specs.Calls.{is_ping}
use Rattle.laws_row_facts.specs.Words.{implies}
use Rattle.laws_tasks.proofs.TaskFrames.{OpenedAlike, same_updates}

-- ---- one instance of one task

-- where it is to be asked now, it was, its machine is the same, and its update is as far
asked_from : (old new : Known) (t : ℕ) (i : Inst) → TaskOnward (old.task t) (new.task t)
    → (is_to_ping (new.task t) i ≡ true → SameMachine (old.row i) (new.row i))
    → (is_to_ping (new.task t) i ≡ true
    → is_finished ((new.task t).upd i) ≡ is_finished ((old.task t).upd i))
    → can_be_asked old (old.task t) i ≡ true → can_be_asked new (new.task t) i ≡ true
asked_from old new t i on machine finished was = by (is_to_ping (new.task t) i) refl
  where
    by : (b : Bool) → is_to_ping (new.task t) i ≡ b → can_be_asked new (new.task t) i ≡ true
    by false asks =
        λ j. implies (asks j) (is_some (new.row i).vm && (not (new.row i).lost && not (is_through (new.task t) i)))
    by true asks =
        let same : SameMachine (old.row i) (new.row i) = machine asks in
        let alike : OpenedAlike (old.task t) (new.task t) = on.alike in
        (λ j. implies (asks j) (is_some (same.vm j) && (not (same.lost j) && not (finished asks j
        || (not (is_some (named_instance (alike.kind j)))
        && (is_in (alike.goal j) i && not (is_among same_inst i (alike.changed j))))))))
        ∙ sym (λ j. implies (was_to_ping (old.task t) (new.task t) on i asks j)
        (is_some (old.row i).vm && (not (old.row i).lost && not (is_through (old.task t) i)))) ∙ was

-- ---- one task alone has a word on an instance that it is to ask

module _ (m : Moment) (h : KnownFacts m) (t : ℕ) (working : works m t ≡ true) where
  -- an instance that a task lists is of its deployment
  listed_dep : (i : Inst) → is_to_ping (m.known.task t) i ≡ true → (m.known.task t).dep ≡ Some i.dep
  listed_dep i asks =
      (names_its_own m t h working).asked i
      (and_parts (is_among same_inst i (m.known.task t).to_ping) (not ((m.known.task t).pinged i)) asks).0

  left_dep : (i : Inst) (p : ℕ) → instance_phase (m.known.task t) i ≡ Some p → (m.known.task t).dep ≡ Some i.dep
  left_dep i p left =
      by (is_to_ping (m.known.task t) i) (is_to_go (m.known.task t) i) (is_to_change (m.known.task t) i) refl refl refl
      left
    where
      names : NamesItsOwn (m.known.task t)
      names = names_its_own m t h working

      by : (ping go change : Bool) → is_to_ping (m.known.task t) i ≡ ping → is_to_go (m.known.task t) i ≡ go
          → is_to_change (m.known.task t) i ≡ change
          → (if ping then Some 0 else (if go then Some 3
          else (if change then Some (4 + stage_of (plan_in (m.known.task t).goal i)) else None))) ≡ Some p
          → (m.known.task t).dep ≡ Some i.dep
      by true go change one two three left = listed_dep i one
      by false true change one two three left =
          names.leaving i
          (and_parts (is_among same_inst i (m.known.task t).obsolete) (not ((m.known.task t).gone i)) two).0
      by false false true one two three left =
          names.changing i
          (and_parts (is_among same_inst i (m.known.task t).changed)
          (not (is_finished ((m.known.task t).upd i))) three).0
      by false false false one two three left = absurd cc

  -- .. and so is an item
  pub item_dep : (i : Inst) → is_item m.known t (Instance i) ≡ true → (m.known.task t).dep ≡ Some i.dep
  item_dep i item =
      let it : (p : ℕ) × IsLeft m.known t (Instance i) p = of_item m.known t (Instance i) item in
      left_dep i it.0 it.1.phase

same_task : (m : Moment) → KnownFacts m → (t u : ℕ) → works m t ≡ true → works m u ≡ true → (i : Inst)
    → is_to_ping (m.known.task t) i ≡ true → is_item m.known u (Instance i) ≡ true → u ≡ t
same_task m h t u one other i asks item =
    one_lock m u t h other one (item_dep m h u other i item ∙ sym (listed_dep m h t one i asks))

-- ---- an answer to its own call

ping_of : (call : Call) → is_ping call ≡ true → (vm : ℕ) × (call ≡ Ping vm)
ping_of (Ping vm) is = (vm, refl)
ping_of call is = absurd (false≢true is)

-- but for a failure, the instance is asked no more
pinged_at : (k : Known) (b : Begin) (answer : Answer) (i : Inst) (vm t : ℕ) → b.task ≡ t → b.owner ≡ Instance i
    → b.call ≡ Ping vm → is_failed answer ≡ false → ((call_ended answer (Some b) k).task t).pinged i ≡ true
pinged_at k b answer i vm t task own call told =
    (λ j. (at eqb (task j) (task_told k b answer (k.task (task j))) k.task t).pinged i)
    ∙ (λ j. (if eq-eqb t t refl j then task_told k b answer (k.task t) else k.task t).pinged i)
    ∙ (λ j. (task_after_ping (call j) answer (own j) (k.task t)).pinged i)
    ∙ by answer told
  where
    by : (answer : Answer) → is_failed answer ≡ false
        → (task_after_ping (Ping vm) answer (Instance i) (k.task t)).pinged i ≡ true
    by answers.Failed told = absurd (false≢true (sym told))
    by answer told = λ j. if (same_inst_decides i i).1 refl j then true else (k.task t).pinged i

module _ (outside : Outside) (m : Moment) (h : KnownFacts m) (t : ℕ) (working : works m t ≡ true) (i : Inst) where
  was : can_be_asked m.known (m.known.task t) i ≡ true
  was = ((h.tasks t).working working).can_be_asked i

  -- an entry that spares the instance
  asked_spared : (e : Entry) → MayNote outside m e → is_opening e ≡ false → Spares m e (Instance i)
      → can_be_asked (learn m.known e) ((learn m.known e).task t) i ≡ true
  asked_spared e may none apart =
      asked_from m.known (learn m.known e) t i (onward_note outside m e t may none)
      (λ asks. machine_note outside m e i may apart) (λ asks. marks.finished) was
    where
      marks : IsMarked (m.known.task t) ((learn m.known e).task t) i
      marks = mark_note outside m e (Instance i) t may none apart

  -- the answer to a call of the instance itself
  module _ (e : End) (may : EndsCall e (m.calls e.n)) (that : OpenCall) (open_now : m.calls e.n ≡ Some that)
      (own : that.begin.owner ≡ Instance i) where
    begun : m.known.begun e.n ≡ Some that.begin
    begun = (h.calls e.n that open_now).begun

    abbrev new : Known
    new = learn m.known (entries.End e)

    on : TaskOnward (m.known.task t) (new.task t)
    on = onward_note outside m (entries.End e) t may refl

    own_machine : is_to_ping (new.task t) i ≡ true → SameMachine (m.known.row i) (new.row i)
    own_machine asks = by e.answer refl
      where
        before : is_to_ping (m.known.task t) i ≡ true
        before = was_to_ping (m.known.task t) (new.task t) on i asks

        item : (is_item m.known that.begin.task that.begin.owner ≡ true)
            × (same_truth (is_ping that.begin.call) (is_asked (m.known.task that.begin.task) that.begin.owner) ≡ true)
        item = and_parts (is_item m.known that.begin.task that.begin.owner) _ (h.calls e.n that open_now).of_item

        task : that.begin.task ≡ t
        task =
            same_task m h t that.begin.task working (h.calls e.n that open_now).works i before
            (sym (λ j. is_item m.known that.begin.task (own j)) ∙ item.0)

        pings : is_ping that.begin.call ≡ true
        pings =
            truth_from (is_ping that.begin.call) (is_to_ping (m.known.task t) i)
            (sym (λ j. same_truth (is_ping that.begin.call) (is_asked (m.known.task (task j)) (own j))) ∙ item.1) before

        row_now : new.row i ≡ after that.begin.n that.begin.call e.answer (m.known.row i)
        row_now =
            (λ j. (call_ended e.answer (begun j) m.known).row i) ∙ ended_own e.answer that.begin m.known i own

        pinged_now : is_failed e.answer ≡ false → (new.task t).pinged i ≡ true
        pinged_now told =
            let ping : (vm : ℕ) × (that.begin.call ≡ Ping vm) = ping_of that.begin.call pings in
            (λ j. ((call_ended e.answer (begun j) m.known).task t).pinged i)
            ∙ pinged_at m.known that.begin e.answer i ping.0 t task own ping.1 told

        asked_no_more : is_failed e.answer ≡ false → ⊥
        asked_no_more told =
            false≢true
            (sym (ap not (pinged_now told))
            ∙ (and_parts (is_among same_inst i (new.task t).to_ping) (not ((new.task t).pinged i)) asks).1)

        by : (answer : Answer) → e.answer ≡ answer → SameMachine (m.known.row i) (new.row i)
        by answers.Failed is =
            let same : new.row i ≡ m.known.row i =
            row_now ∙ (λ j. after that.begin.n that.begin.call (is j) (m.known.row i)) in
            record { vm = λ j. (same j).vm; lost = λ j. (same j).lost }
        by answer is = absurd (asked_no_more (ap is_failed is))

    asked_own : can_be_asked new (new.task t) i ≡ true
    asked_own =
        asked_from m.known new t i on own_machine
        (λ asks. λ j. is_finished ((same_updates outside m (entries.End e) t may refl).upd j i)) was

  asked_ended : (e : End) → EndsCall e (m.calls e.n)
      → can_be_asked (learn m.known (entries.End e)) ((learn m.known (entries.End e)).task t) i ≡ true
  asked_ended e may = by (m.calls e.n) refl may
    where
      none_other : (that : OpenCall) → m.calls e.n ≡ Some that → that.begin.owner ≢ Instance i
          → Spares m (entries.End e) (Instance i)
      none_other that open_now apart b known same =
          let begun : m.known.begun e.n ≡ Some that.begin = (h.calls e.n that open_now).begun in
          let one : that.begin ≡ b = cc in
          apart (ap (λ (it : Begin). it.owner) one ∙ same)

      of_owner : (that : OpenCall) → m.calls e.n ≡ Some that → (owner : Owner) → that.begin.owner ≡ owner
          → can_be_asked (learn m.known (entries.End e)) ((learn m.known (entries.End e)).task t) i ≡ true
      of_owner that open_now (Instance j) own = tell (same_inst j i) refl
        where
          tell : (b : Bool) → same_inst j i ≡ b
              → can_be_asked (learn m.known (entries.End e)) ((learn m.known (entries.End e)).task t) i ≡ true
          tell true same = asked_own e may that open_now (own ∙ ap Instance ((same_inst_decides j i).0 same))
          tell false other =
              asked_spared (entries.End e) may refl
              (none_other that open_now
              (λ same. let one : j ≡ i = cc in false≢true (sym other ∙ (same_inst_decides j i).1 one)))
      of_owner that open_now (Compile task s) own =
          asked_spared (entries.End e) may refl (none_other that open_now (λ same. absurd cc))
      of_owner that open_now (Disk d) own =
          asked_spared (entries.End e) may refl (none_other that open_now (λ same. absurd cc))

      by : (that : Option OpenCall) → m.calls e.n ≡ that → EndsCall e that
          → can_be_asked (learn m.known (entries.End e)) ((learn m.known (entries.End e)).task t) i ≡ true
      by (Some that) open_now ends = of_owner that open_now that.begin.owner refl
      by None open_now ends = absurd ends

  -- a word on the instance itself, which no task has while it is to be asked
  asked_marked : (e : Entry) (u : Update) → MayNote outside m e → is_opening e ≡ false
      → (Instance u.inst ≢ Instance i → Spares m e (Instance i)) → works m u.task ≡ true
      → is_item m.known u.task (Instance u.inst) ≡ true → is_to_ping (m.known.task u.task) u.inst ≡ false
      → can_be_asked (learn m.known e) ((learn m.known e).task t) i ≡ true
  asked_marked e u may none apart other item unasked = by (same_inst u.inst i) refl
    where
      by : (b : Bool) → same_inst u.inst i ≡ b → can_be_asked (learn m.known e) ((learn m.known e).task t) i ≡ true
      by false differs =
          asked_spared e may none
          (apart
          (λ same. let one : u.inst ≡ i = cc in false≢true (sym differs ∙ (same_inst_decides u.inst i).1 one)))
      by true same = asks_not (is_to_ping ((learn m.known e).task t) i) refl
        where
          one : u.inst ≡ i
          one = (same_inst_decides u.inst i).0 same

          asks_not : (asks : Bool) → is_to_ping ((learn m.known e).task t) i ≡ asks
              → can_be_asked (learn m.known e) ((learn m.known e).task t) i ≡ true
          asks_not false asks =
              λ j. implies (asks j) (is_some ((learn m.known e).row i).vm && (not ((learn m.known e).row i).lost
              && not (is_through ((learn m.known e).task t) i)))
          asks_not true asks =
              let before : is_to_ping (m.known.task t) i ≡ true =
              was_to_ping (m.known.task t) ((learn m.known e).task t) (onward_note outside m e t may none) i asks in
              let task : u.task ≡ t =
              same_task m h t u.task working other i before (sym (λ j. is_item m.known u.task (Instance
              (one j))) ∙ item) in
              absurd
              (false≢true (sym unasked ∙ (λ j. is_to_ping (m.known.task (task j)) (one j)) ∙ before))

-- ---- a task opens

meets : (p : Inst → Bool) (i : Inst) (xs : List Inst) → is_among same_inst i (filter p xs) ≡ true → p i ≡ true
meets p i [] there = absurd (false≢true there)
meets p i (x ∷ xs) there = by (p x) refl there (meets p i xs)
  where
    here : (b : Bool) → same_inst i x ≡ b → p x ≡ true → (is_among same_inst i (filter p xs) ≡ true → p i ≡ true)
        → (b || is_among same_inst i (filter p xs)) ≡ true → p i ≡ true
    here true same is rest any = ap p ((same_inst_decides i x).0 same) ∙ is
    here false other is rest any = rest any

    by : (b : Bool) → p x ≡ b → is_among same_inst i (if b then x ∷ filter p xs else filter p xs) ≡ true
        → (is_among same_inst i (filter p xs) ≡ true → p i ≡ true) → p i ≡ true
    by true is there rest = here (same_inst i x) refl is rest there
    by false is there rest = rest there

-- an instance of a goal is among those of its rows
pub in_goal : (goal : Option Goal) (i : Inst) → is_in goal i ≡ true → is_among same_inst i (instances_of goal) ≡ true
in_goal (Some goal) i is = by (find (λ want. same_inst i want.inst) goal.rows) refl is
  where
    by : (want : Option GoalRow) → find (λ want. same_inst i want.inst) goal.rows ≡ want → is_some want ≡ true
        → is_among same_inst i (map inst_of goal.rows) ≡ true
    by (Some want) found is =
        let it : IsIn want goal.rows × (same_inst i want.inst ≡ true) =
        find_in (λ want. same_inst i want.inst) want goal.rows found in
        (λ j. is_among same_inst ((same_inst_decides i want.inst).0 it.1 j) (map inst_of goal.rows))
        ∙ is_among_in same_inst want.inst (map inst_of goal.rows) ((same_inst_decides want.inst want.inst).1 refl)
        (in_mapped inst_of want goal.rows it.0)
    by None found is = absurd (false≢true is)
in_goal None i is = absurd (false≢true is)

not_through : (k : Known) (o : TaskOpen) (i : Inst) (kind : TaskKind) → o.kind ≡ kind → OpensBy k o kind
    → asks_of kind o.dep i ≡ true → is_through (task_opened k o) i ≡ false
not_through k o i kinds.Fix is may asks = by o.goal refl may
  where
    changed : (goal : Option Goal) → o.goal ≡ goal → OpensFor k o goal → o.changed ≡ instances_of o.goal
    changed (Some goal) goal_is may = may.changes ∙ (λ j. to_change k (is j) o.goal)
    changed None goal_is may = absurd may

    by : (goal : Option Goal) → o.goal ≡ goal → OpensFor k o goal → is_through (task_opened k o) i ≡ false
    by goal goal_is may =
        (λ j. not (is_some (named_instance (is j)))
        && (is_in o.goal i && not (is_among same_inst i (changed goal goal_is may j))))
        ∙ there (is_in o.goal i) refl
      where
        there : (b : Bool) → is_in o.goal i ≡ b → (b && not (is_among same_inst i (instances_of o.goal))) ≡ false
        there true in_it = ap not (in_goal o.goal i in_it)
        there false out = refl
not_through k o i (kinds.Resolve named) is may asks =
    λ j. not (is_some (named_instance (is j))) && (is_in o.goal i && not (is_among same_inst i o.changed))
not_through k o i kind is may asks = absurd (false≢true asks)

asked_new : (k : Known) (o : TaskOpen) (i : Inst) → MayOpen k o → can_be_asked k (task_opened k o) i ≡ true
asked_new k o i may = by (is_to_ping (task_opened k o) i) refl
  where
    by : (b : Bool) → is_to_ping (task_opened k o) i ≡ b → can_be_asked k (task_opened k o) i ≡ true
    by false asks =
        λ j. implies (asks j) (is_some (k.row i).vm && (not (k.row i).lost && not (is_through (task_opened k o) i)))
    by true asks =
        let kept : (asks_of o.kind o.dep i && has_machine k i) ≡ true =
        meets (λ i. asks_of o.kind o.dep i && has_machine k i) i k.instances
        (and_parts (is_among same_inst i (to_ping k o)) true asks).0 in
        let parts : (asks_of o.kind o.dep i ≡ true) × (has_machine k i ≡ true) =
        and_parts (asks_of o.kind o.dep i) (has_machine k i) kept in
        let machine : (is_some (k.row i).vm ≡ true) × (not (k.row i).lost ≡ true) =
        and_parts (is_some (k.row i).vm) (not (k.row i).lost) parts.1 in
        (λ j. implies (asks j) (is_some (k.row i).vm && (not (k.row i).lost && not (is_through (task_opened k o) i))))
        ∙ and_from (is_some (k.row i).vm) _ machine.0
        (and_from (not (k.row i).lost) _ machine.1 (ap not (not_through k o i o.kind refl may parts.0)))

asked_opened : (m : Moment) (o : TaskOpen) → KnownFacts m → MayOpen m.known o → (t : ℕ) (i : Inst)
    → works (noting m (entries.TaskOpen o)) t ≡ true
    → can_be_asked (learn m.known (entries.TaskOpen o)) ((learn m.known (entries.TaskOpen o)).task t) i ≡ true
asked_opened m o h may t i working = by (eqb_tells o.task t)
  where
    by : ((o.task == t) ≡ true) × (o.task ≡ t) ⊎ ((o.task == t) ≡ false) × (o.task ≢ t)
        → can_be_asked (learn m.known (entries.TaskOpen o)) ((learn m.known (entries.TaskOpen o)).task t) i ≡ true
    by (inl same) =
        (λ j. can_be_asked m.known (if same.0 j then task_opened m.known o else m.known.task t) i)
        ∙ asked_new m.known o i may
    by (inr apart) =
        (λ j. can_be_asked m.known (if apart.0 j then task_opened m.known o else m.known.task t) i)
        ∙ ((h.tasks t).working (grind (arith, apart, working, opens_next m.known o may))).can_be_asked i

-- ---- moves

asked_note : (outside : Outside) (m : Moment) (e : Entry) → KnownFacts m → may_follow m e ≡ true → MayNote outside m e
    → CanBeAsked (noting m e)
asked_note outside m (entries.TaskOpen o) h follows may t i working = asked_opened m o h may.0 t i working
asked_note outside m (entries.End e) h follows may t i working =
    asked_ended outside m h t (worked m (entries.End e) t (note_stays outside m (entries.End e) may refl t) working) i e
    may
asked_note outside m (entries.UpdDone u) h follows may t i working =
    asked_marked outside m h t
    (worked m (entries.UpdDone u) t (note_stays outside m (entries.UpdDone u) may refl t) working) i
    (entries.UpdDone u) u may refl (λ apart. apart) (done_works m u.task follows may.is_open) may.is_item may.is_asked
asked_note outside m (entries.Gone u) h follows may t i working =
    asked_marked outside m h t
    (worked m (entries.Gone u) t (note_stays outside m (entries.Gone u) may refl t) working) i
    (entries.Gone u) u may refl (λ apart. apart) (done_works m u.task follows may.is_open) may.is_item may.is_asked
asked_note outside m (entries.Snapshot s) h follows may t i working = absurd may
asked_note outside m entry h follows may t i working =
    asked_spared outside m h t (worked m entry t (note_stays outside m entry may refl t) working) i entry may refl tt

asked_move : (outside : Outside) (m : Moment) (move : Move) → IsPermitted outside m move → KnownFacts m
    → CanBeAsked (later m move)
asked_move outside m (moves.Note e) may h t i working = asked_note outside m e h may.1 may.2 t i working
asked_move outside m (moves.Stop s) may h t i working = absurd (false≢true (sym (none_works m s t) ∙ working))
asked_move outside m move may h t i working = ((h.tasks t).working working).can_be_asked i

pub asked_kept : (outside : Outside) (m : Moment) (move : Move) → IsPermitted outside m move → KnownFacts m
    → CanBeAsked (later m move)
asked_kept outside m move may h = asked_move outside m move may h
