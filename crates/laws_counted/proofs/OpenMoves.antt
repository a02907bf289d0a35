-- The calls of a clean task are few when it opens, and stay few when another opens.
use Rattle.std.proofs.Common.{◌≡◌, ◌∙◌, ℕ, ◌+◌, ◌≤◌, true, false, Option, Some, None, List, [], ◌∷◌}
use Rattle.std.proofs.Common.{arith, refl, subst, sym}
use Rattle.std.specs.Prelude.{◌==◌, if◌then◌else◌, is_some, nat_le, not, sum_by}
use Rattle.std.specs.Option.{option_eq}
use Rattle.std.specs.Str.{bytes_eq}
use Rattle.std.proofs.lemmas.Bool.{and_from, and_parts, eq-eqb, eqb-true, le-leb}
use Rattle.std.proofs.lemmas.Bool.Decides.{eqb_tells}
use Rattle.std.proofs.lemmas.List.Sums.{sum_by-cons}
use Rattle.bosh_base.specs.declared.entry.Entry.TheVariants as entries
use Rattle.bosh_base.specs.declared.entry.TaskOpen.{TaskOpen}
use Rattle.bosh_base.specs.declared.inst.Inst.{Inst}
use Rattle.bosh_base.specs.declared.owner.Owner.{Owner}
use Rattle.bosh_base.specs.declared.owner.Owner.TheVariants.{Compile, Disk, Instance}
use Rattle.bosh_history.specs.Items.{is_in_deployment, is_leftover, is_to_ping}
use Rattle.bosh_history.specs.Known.{Slot, SlotName, want_in}
use Rattle.bosh_history.specs.Moments.{Moment, OpenCall, noting}
use Rattle.bosh_history.specs.Notes.{MayNote, Outside}
use Rattle.bosh_history.specs.Orders.{same_slot}
use Rattle.bosh_history.specs.Tasks.{task_opened}
use Rattle.bosh_history.specs.Words.{holds, is_among}
use Rattle.bosh_rows.specs.Tied.{one_if}
use Rattle.laws_claims.proofs.ListLemmas.{of_filtered}
use Rattle.laws_clean.proofs.OpenLemmas.{other_task}
use Rattle.laws_cloud.proofs.OwnerFrames.{slot_low}
use Rattle.laws_counted.proofs.CallFrames.{still_same}
use Rattle.laws_counted.proofs.CountLemmas.{budgeted_dep, same_name}
use Rattle.laws_counted.proofs.NoteMoves.{low_of}
use Rattle.laws_counted.proofs.OwnLemmas.{IsOwn, open_own, own_instance, own_slot}
use Rattle.laws_counted.proofs.StepFrames.{kept_itself, owner_is, steps_same}
use Rattle.laws_counted.proofs.StillLemmas.{budgeted_as, clean_still, lock_itself}
use Rattle.laws_counted.proofs.SweepLemmas.{sweep_opened}
use Rattle.laws_counts.specs.Counts.{CleanFacts, are_slots_few, budgeted, is_call_of_slot, is_left_over, is_of_earlier}
use Rattle.laws_counts.specs.Counts.{is_slot_call, makes_or_deletes, most_of_slots, own_slots}
use Rattle.laws_counts.specs.Courses.{Account, account_opened}
use Rattle.laws_counts.specs.RowSteps.{StepFacts, is_budgeted, may_go_on}
use Rattle.laws_facts.proofs.MadeLemmas.{SameTasks, same_tasks}
use Rattle.laws_facts.proofs.WorkLemmas.{opens_next}
use Rattle.laws_facts.specs.Facts.{Holds}
use Rattle.laws_facts.specs.Owners.{works}
use Rattle.laws_heard.proofs.NoteLemmas.{implied_by}
use Rattle.laws_items.proofs.ItemFrames.{are_listed, same_dep_is, slot_dep}
use Rattle.laws_items.proofs.ListLemmas.{among_is, any_in, holds_some, in_filtered}
use Rattle.laws_items.specs.Lists.{IsIn}
use Rattle.laws_row_facts.specs.Words.{where_any}
use Rattle.laws_tasks.proofs.TaskFrames.{OpenedAlike, opened_itself}

none_summed : (xs : List Owner) → sum_by (λ (owner : Owner). 0) xs ≡ 0
none_summed [] = refl
none_summed (x ∷ xs) =
    let rest : sum_by (λ (owner : Owner). 0) xs ≡ 0 = none_summed xs in
    omega (arith, rest, sum_by-cons (λ (owner : Owner). 0) x xs)

module _ (outside : Outside) (m : Moment) (h : Holds m) (o : TaskOpen) (may : MayNote outside m (entries.TaskOpen o))
    (later : Holds (noting m (entries.TaskOpen o))) where
  abbrev n : Moment
  n = noting m (entries.TaskOpen o)

  -- ---- another task

  pub opened_beside : (t : ℕ) → t ≤ m.known.tasks → (a : Account) → CleanFacts outside.built m t a
      → CleanFacts outside.built n t a
  opened_beside t low a f =
      clean_still outside.built m n t a later.known low
      (record {
        calls = refl;
        slot = refl;
        alike = alike;
        count = λ j. (same j).calls;
        grows = λ key done. done;
        tasks = same_tasks outside m (entries.TaskOpen o) may;
      })
      (λ i is.
      steps_same outside.built m n (m.known.task t) (n.known.task t) a a i later.known.numbers.past
      (still_same m n (Instance i) refl) refl
      (record { want = λ j. want_in (same j).goal i; asks = λ j. is_to_ping (same j) i })
      (λ going. sym (λ j. may_go_on (same j) i) ∙ going) (kept_itself a i)
      (f.steps i (sym (budgeted_as (m.known.task t) (n.known.task t) i alike) ∙ is)))
      f
    where
      same : n.known.task t ≡ m.known.task t
      same = other_task outside m h o may t low

      alike : OpenedAlike (m.known.task t) (n.known.task t)
      alike = subst (OpenedAlike (m.known.task t)) (sym same) (opened_itself (m.known.task t))

  -- ---- the task that opens

  module _ (working : works n o.task ≡ true) where
    abbrev t : ℕ
    t = o.task

    abbrev it : Account
    it = account_opened m o

    own_task : n.known.task t ≡ task_opened m.known o
    own_task = λ j. if eq-eqb o.task o.task refl j then task_opened m.known o else m.known.task o.task

    -- no open call is of an owner of it
    none_open : (owner : Owner) → IsOwn n t owner → (k : ℕ) (call : OpenCall) → m.calls k ≡ Some call
        → call.begin.owner ≡ owner → ⊥
    none_open owner mine k call is own =
        let low : call.begin.task ≤ m.known.tasks = low_of m call.begin.task (h.known.calls k call is).works in
        let one : call.begin.task ≡ t = open_own n later.known t owner mine k call is own in
        absurd (omega (arith, low, one, opens_next m.known o may.0))

    step : (i : Inst) → is_budgeted (n.known.task t) i ≡ true → StepFacts outside.built n (n.known.task t) it i
    step i budgeted = record {
      sound = (h.rows i).sound_disks;
      room = (h.rows i).has_room;
      answered = tt;
      unasked = λ asks. refl;
      few = λ idle. le-leb 0 (0 + one_if (not (is_to_ping (n.known.task t) i))) (omega arith);
      leads = λ idle going. refl;
      in_call = λ k call is own.
          absurd (none_open (Instance i)
          (own_instance n later.known t working i (budgeted_dep n later.known t working i budgeted)) k call is
          (owner_is i call own));
    }

    few : are_slots_few n t (n.known.task t) it ≡ true
    few =
        le-leb (sum_by it.made (own_slots t (n.known.task t))) (most_of_slots n t (n.known.task t))
        (omega (arith, none_summed (own_slots t (n.known.task t))))

    slot_call : (k : ℕ) (call : Option OpenCall) → m.calls k ≡ call → where_any (is_slot_call t) call ≡ true
    slot_call k (Some call) is = by call.begin.owner refl
      where
        by : (owner : Owner) → call.begin.owner ≡ owner → is_call_of_slot t owner call.begin.call ≡ true
        by (Compile task s) own =
            implied_by (task == t) (makes_or_deletes call.begin.call)
            (λ same.
            absurd (none_open (Compile t s) (own_slot n later.known t s working) k call is
            (own ∙ (λ j. Compile (eqb-true task t same j) s))))
        by (Instance i) own = refl
        by (Disk d) own = refl
    slot_call k None is = refl

    same_slot_itself : (name : SlotName) → same_slot name name ≡ true
    same_slot_itself name = and_from (name.task == name.task) _ (eq-eqb name.task name.task refl) (eq-eqb
        name.slot name.slot refl)

    left : (name : SlotName) → is_left_over n.known t it name ≡ true
    left name =
        implied_by (is_leftover n.known t name) (is_among same_slot name it.left_over)
        (λ over.
        let meets : is_in_deployment m.known o.dep name ≡ true =
        sym (λ j. is_in_deployment m.known (own_task j).dep name)
        ∙ (and_parts (not (name.task == t)) (is_in_deployment m.known (n.known.task t).dep name) over).1 in
        let held : (x : Slot) × (m.known.slot name.task name.slot ≡ Some x) ×
        (option_eq bytes_eq (Some x.dep) o.dep ≡ true) =
        holds_some (λ x. option_eq bytes_eq (Some x.dep) o.dep) (m.known.slot name.task name.slot) meets in
        any_in (same_slot name) name it.left_over
        (in_filtered (is_in_deployment m.known o.dep) name m.known.machines
        (are_listed m h.known name (λ j. is_some (held.1 j))) meets)
        (same_slot_itself name))

    earlier : (name : SlotName) → is_among same_slot name it.left_over ≡ true → is_of_earlier n.known t name ≡ true
    earlier name isin =
        let of : IsIn name m.known.machines × (is_in_deployment m.known o.dep name ≡ true) =
        of_filtered (is_in_deployment m.known o.dep) name m.known.machines
        (among_is same_slot same_name name it.left_over isin) in
        let held : (x : Slot) × (m.known.slot name.task name.slot ≡ Some x) ×
        (option_eq bytes_eq (Some x.dep) o.dep ≡ true) =
        holds_some (λ x. option_eq bytes_eq (Some x.dep) o.dep) (m.known.slot name.task name.slot) of.1 in
        let low : name.task ≤ m.known.tasks = slot_low m h name.task name.slot held.0 held.1 in
        let next : o.task ≡ m.known.tasks + 1 = opens_next m.known o may.0 in
        let apart : (name.task == t) ≡ false = grind (arith, low, next, eqb_tells name.task t) in
        let same : SameTasks m.known n.known = same_tasks outside m (entries.TaskOpen o) may in
        let deps : (n.known.task name.task).dep ≡ (n.known.task t).dep =
        same.dep name.task low
        ∙ (slot_dep m name.task name.slot held.0 h.known held.1
        ∙ (sym (same_dep_is held.0.dep o.dep held.2) ∙ (λ j. (sym own_task j).dep))) in
        and_from (not (name.task == t)) _ (λ j. not (apart j))
        (and_from (nat_le name.task n.known.tasks) _ (le-leb name.task n.known.tasks (omega (arith, low, next)))
        ((λ j. option_eq bytes_eq (deps j) (n.known.task t).dep) ∙ lock_itself (n.known.task t).dep))

    pub opened_clean : CleanFacts outside.built n t it
    opened_clean = record {
      all_counted =
          (λ j. holds (λ k. nat_le k (sum_by it.made (budgeted t (n.known.task t) it))) (own_task j).calls)
          ∙ le-leb 0 (sum_by it.made (budgeted t (n.known.task t) it)) (omega arith);
      left_over = left;
      steps = step;
      slots_few = few;
      slot_calls = λ k. slot_call k (m.calls k) refl;
      sweep = λ name isin. sweep_opened n t it name (earlier name isin) refl;
    }
