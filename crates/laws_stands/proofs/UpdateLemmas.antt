-- The choice of the update phase.
use Rattle.std.proofs.Common.{◌≡◌, ◌∙◌, ℕ, suc, Bool, true, false, ◌&&◌, ◌||◌, not, List, [], ◌∷◌, map, filter}
use Rattle.std.proofs.Common.{Option, Some, None, ap, refl, sym, subst}
use Rattle.std.specs.Prelude.{◌==◌, ◌+◌, min, find, is_some, slice_get, slice_index_or, if◌then◌else◌}
use Rattle.std.specs.Option.{option_and_then, option_map, option_map_or}
use Rattle.std.proofs.lemmas.Bool.{eq-eqb}
use Rattle.bosh_base.specs.declared.call.Call.{Call}
use Rattle.bosh_base.specs.declared.entry.Entry.{Entry}
use Rattle.bosh_base.specs.declared.entry.Entry.TheVariants as entries
use Rattle.bosh_base.specs.declared.inst.Inst.{Inst}
use Rattle.bosh_base.specs.declared.owner.Owner.TheVariants.{Instance}
use Rattle.bosh_claim.specs.Choice.{in_phase, or_waits}
use Rattle.bosh_claim.specs.Noted.{beginning, update_of}
use Rattle.bosh_claim.specs.Phase.{least_stage}
use Rattle.bosh_claim.specs.Step.{step_of}
use Rattle.bosh_claim.specs.Updated.{first_changed, first_place, first_word, going_on, noted_of, update_entry}
use Rattle.bosh_claim.specs.Updated.{with_inst}
use Rattle.bosh_claim.specs.Updated as updated
use Rattle.bosh_claim.specs.declared.phase.Phase.TheVariants.{Update}
use Rattle.bosh_history.specs.Claim.{Claimed, Noted, Waits, by_items, first_item, has_to_begin, instance_item}
use Rattle.bosh_history.specs.Claim.{is_passed, new_call}
use Rattle.bosh_history.specs.Goals.{changed_in, is_waiting, may_begin}
use Rattle.bosh_history.specs.Items.{candidates, is_before, is_to_go, is_to_ping, items, phase_of}
use Rattle.bosh_history.specs.Known.{Task}
use Rattle.bosh_history.specs.Moments.{Moment}
use Rattle.bosh_history.specs.Steps.{call_now, is_idle}
use Rattle.bosh_history.specs.Words.{is_among}
use Rattle.bosh_rows.specs.Same.{same_inst}
use Rattle.std.specs.List.{list_all}
use Rattle.bosh_records.specs.Readers.{want_of}
use Rattle.bosh_records.specs.declared.records.Records.{Records}
use Rattle.bosh_work.specs.declared.part.GroupPlace.{GroupPlace}
use Rattle.bosh_work.specs.declared.work.Work.{Work}
use Rattle.laws_stands.specs.Agrees.{claimed_of}
use Rattle.laws_stands.specs.Choosing.{idle_at}
use Rattle.laws_stands.specs.GroupsStand.{CanUpdate, GroupsStand, is_ready}
use Rattle.laws_stands.proofs.FirstLemmas.{IsFirst}
use Rattle.laws_stands.proofs.GroupLemmas.{IsAt, first_item_is, first_place_is_at}
use Rattle.laws_stands.proofs.MemberLemmas.{among_from}
use Rattle.laws_stands.proofs.ItemLemmas.{calm_at, items_are, none_are}
use Rattle.laws_stands.proofs.StageLemmas.{HasLeft, is_left_in, filtered_in, least_is_left}
use Rattle.laws_stands.proofs.MarkLemmas.{at_place}

-- what the update phase needs: numbers, wants and steps are those that are known, and nothing is left of an earlier phase
pub record Updates (m : Moment) (n : ℕ) (records : Records) (work : Work) : Type 0 where
  pub task_is : work.task ≡ n
  pub changed_are : work.changed ≡ (m.known.task n).changed
  pub number_is : min (records.last_call + 1) 18446744073709551615 ≡ m.known.last_call + 1
  pub steps_are : (i : Inst) → is_among same_inst i (m.known.task n).changed ≡ true →
      step_of records (want_of records i) i ≡ call_now m n (Instance i)
  pub early : list_all (λ owner. not (is_before 4 (phase_of m.known n owner))) (candidates m.known n) ≡ true
  pub groups_stand : GroupsStand (m.known.task n) (idle_at m) work.groups
  pub can : CanUpdate (m.known.task n) (idle_at m)

-- ---- the first of a list

find_filter : {A : Type 0} (p q : A → Bool) (xs : List A) → find p (filter q xs) ≡ find (λ x. q x && p x) xs
find_filter p q [] = refl
find_filter p q (x ∷ xs) = by (q x) (find_filter p q xs)
  where
    by : (b : Bool) → find p (filter q xs) ≡ find (λ x. q x && p x) xs
        → find p (if b then x ∷ filter q xs else filter q xs)
        ≡ (if b && p x then Some x else find (λ x. q x && p x) xs)
    by true more = ap (λ rest. if p x then Some x else rest) more
    by false more = more

find_same : (p q : Inst → Bool) (xs : List Inst) → ((k : ℕ) (x : Inst) → slice_get xs k ≡ Some x → p x ≡ q x)
    → find p xs ≡ find q xs
find_same p q [] same = refl
find_same p q (x ∷ xs) same = λ i. if same 0 x refl i then Some x else find_same p q xs
    (λ k y is. same (suc k) y is) i

-- what is noted, or that the worker waits
abbrev pub told : Option Entry → Claimed
told (Some entry) = Noted entry
told None = Waits

module _ (m : Moment) (n : ℕ) (worker : ℕ) where
  abbrev t : Task
  t = m.known.task n

  abbrev entry_of : Inst → Entry
  entry_of i = instance_item m n worker i (call_now m n (Instance i))

  first_as : (xs : List Inst) → first_item m n worker (map Instance xs)
      ≡ told (option_map entry_of (find (λ i. not (is_passed m n (Instance i))) xs))
  first_as [] = refl
  first_as (x ∷ xs) = by (is_passed m n (Instance x)) (first_as xs)
    where
      by : (b : Bool) → first_item m n worker (map Instance xs)
          ≡ told (option_map entry_of (find (λ i. not (is_passed m n (Instance i))) xs))
          → (if b then first_item m n worker (map Instance xs) else Noted (entry_of x))
          ≡ told (option_map entry_of
          (if not b then Some x else find (λ i. not (is_passed m n (Instance i))) xs))
      by true more = more
      by false more = refl

  some_items : (xs : List Inst) (j : ℕ) (i : Inst) → slice_get xs j ≡ Some i → by_items m n worker (map Instance xs)
      ≡ first_item m n worker (map Instance xs)
  some_items [] j i is = absurd cc
  some_items (x ∷ xs) j i is = refl

  -- where no group has anything left, the task is over by both
  pub over_is : (records : Records) (work : Work) → Updates m n records work → least_stage work.groups ≡ None
      → claimed_of (in_phase records work worker None) ≡ by_items m n worker (items m.known n)
  over_is records work it none =
      sym (ap (by_items m n worker)
      (none_are m.known n it.early
      (subst (IsFirst (HasLeft t)) none (least_is_left t (idle_at m) it.can work.groups it.groups_stand))))

  module _ (records : Records) (work : Work) (stage : ℕ) (it : Updates m n records work)
      (first : least_stage work.groups ≡ Some stage) where
    least : IsFirst (HasLeft t) (Some stage)
    least = subst (IsFirst (HasLeft t)) first (least_is_left t (idle_at m) it.can work.groups it.groups_stand)

    calm : (q : ℕ) (i : Inst) → slice_get t.changed q ≡ Some i → (is_to_ping t i ≡ false) × (is_to_go t i ≡ false)
    calm q i is = calm_at m.known n stage it.early least.1 least.0 q i is

    -- it has to begin where it waits
    begins : (q : ℕ) (i : Inst) → slice_get t.changed q ≡ Some i → has_to_begin t (Instance i)
        ≡ is_waiting (t.upd i)
    begins q i is = let c : (is_to_ping t i ≡ false) × (is_to_go t i ≡ false) = calm q i is in λ j. not (c.0 j)
        && (not (c.1 j) && is_waiting (t.upd i))

    ready : (q : ℕ) (i : Inst) → slice_get t.changed q ≡ Some i
        → (is_left_in t stage i && not (is_passed m n (Instance i))) ≡ is_ready t (idle_at m) stage i
    ready q i is =
        (λ j. is_left_in t stage i
        && not (not (is_idle m (Instance i)) || (begins q i is j && not (may_begin t i))))
        ∙ ap (λ b. is_left_in t stage i && b) (by (is_idle m (Instance i)) (is_waiting (t.upd i)) (may_begin t i))
      where
        by : (d w b : Bool) → not (not d || (w && not b)) ≡ (d && (not w || b))
        by true true true = refl
        by true true false = refl
        by true false b = refl
        by false w b = refl

    -- what the definition says
    claim_is : by_items m n worker (items m.known n)
        ≡ told (option_map entry_of (find (is_ready t (idle_at m) stage) t.changed))
    claim_is =
        ap (by_items m n worker) (items_are m.known n stage it.early least.1 least.0)
        ∙ (let left : HasLeft t stage = least.0 in
        let is_left : is_left_in t stage left.i ≡ true = left_at left in
        let at : (j : ℕ) × (slice_get (filter (is_left_in t stage) t.changed) j ≡ Some left.i) =
        filtered_in (is_left_in t stage) t.changed left.q left.i left.among_changed is_left in
        some_items (filter (is_left_in t stage) t.changed) at.0 left.i at.1)
        ∙ first_as (filter (is_left_in t stage) t.changed)
        ∙ ap (λ o. told (option_map entry_of o))
        (find_filter (λ i. not (is_passed m n (Instance i))) (is_left_in t stage) t.changed
        ∙ find_same (λ i. is_left_in t stage i && not (is_passed m n (Instance i)))
        (is_ready t (idle_at m) stage) t.changed ready)
      where
        left_at : (left : HasLeft t stage) → is_left_in t stage left.i ≡ true
        left_at left = (λ j. not (left.left j) && left.stage_is j == stage) ∙ eq-eqb stage stage refl

    -- what the code notes of an instance that is at a place
    noted_as : (e : ℕ × GroupPlace) (i : Inst)
        → IsAt t (idle_at m) it.can work.groups it.groups_stand stage e.0 e.1 i
        → noted_of records work worker (e.1, i) ≡ entry_of i
    noted_as e i is_at =
        (λ j. if waits j then first_word work i (is_some (step j)) else going_on records work worker i (step j))
        ∙ by (is_waiting (t.upd i)) (call_now m n (Instance i)) refl
      where
        step : step_of records (want_of records i) i ≡ call_now m n (Instance i)
        step = it.steps_are i (among_from i t.changed e.0 is_at.among_changed)

        waits : updated.is_waiting work e.1 ≡ is_waiting (t.upd i)
        waits =
            ap (λ g. option_map_or (λ roll. slice_index_or roll.waiting (e.1).place false)
            (option_map (λ group. group.roll) g) false) is_at.group
            ∙ ap (λ marks. slice_index_or marks (e.1).place false) (is_at.group_stands).waiting_are
            ∙ at_place (λ i. is_waiting (t.upd i)) (changed_in t i.group) (e.1).place i is_at.item

        goes : is_to_go t i ≡ false
        goes = (calm e.0 i is_at.among_changed).1

        update : update_of work i ≡ record { task = n; inst = i }
        update = λ j. record { task = it.task_is j; inst = i }

        call_is : (call : Call) → beginning records work worker (Instance i) call
            ≡ new_call m n worker (Instance i) call
        call_is call =
            λ j. entries.Begin (record {
              n = it.number_is j;
              task = it.task_is j;
              worker = worker;
              owner =
                  Instance i;
              call = call;
            })

        by : (w : Bool) (call : Option Call) → is_waiting (t.upd i) ≡ w
            → (if w then first_word work i (is_some call) else going_on records work worker i call)
            ≡ instance_item m n worker i call
        by true (Some call) w = ap entries.UpdBegin update
            ∙ (λ j. if sym (begins e.0 i is_at.among_changed ∙ w) j then entries.UpdBegin
            (record { task = n; inst = i }) else new_call m n worker (Instance i) call)
        by true None w = ap entries.UpdDone update
            ∙ (λ j. if sym goes j then entries.Gone (record { task = n; inst = i }) else entries.UpdDone
            (record { task = n; inst = i }))
        by false (Some call) w = call_is call
            ∙ (λ j. if sym (begins e.0 i is_at.among_changed ∙ w) j then entries.UpdBegin
            (record { task = n; inst = i }) else new_call m n worker (Instance i) call)
        by false None w = ap entries.UpdDone update
            ∙ (λ j. if sym goes j then entries.Gone (record { task = n; inst = i }) else entries.UpdDone
            (record { task = n; inst = i }))

    -- what the code chooses
    choice_is : claimed_of (or_waits (update_entry records work worker stage))
        ≡ told (option_map entry_of (find (is_ready t (idle_at m) stage) t.changed))
    choice_is = by (first_place work.groups stage) refl
      where
        found : option_and_then (λ e. slice_get t.changed e.0) (first_place work.groups stage)
            ≡ find (is_ready t (idle_at m) stage) t.changed
        found = first_item_is t (idle_at m) it.can work.groups it.groups_stand stage

        by : (o : Option (ℕ × GroupPlace)) → first_place work.groups stage ≡ o
            → claimed_of
            (or_waits
            (option_map (noted_of records work worker)
            (option_and_then (with_inst work) (first_place work.groups stage))))
            ≡ told (option_map entry_of (find (is_ready t (idle_at m) stage) t.changed))
        by None is =
            ap (λ o. claimed_of
            (or_waits (option_map (noted_of records work worker) (option_and_then (with_inst work) o)))) is
            ∙ ap (λ o. told (option_map entry_of o)) (sym (ap (option_and_then (λ e. slice_get t.changed e.0)) is)
            ∙ found)
        by (Some e) is =
            let r : (i : Inst) × IsAt t (idle_at m) it.can work.groups it.groups_stand stage e.0 e.1 i =
            first_place_is_at t (idle_at m) it.can work.groups it.groups_stand stage e is in
            ap (λ o. claimed_of
            (or_waits (option_map (noted_of records work worker) (option_and_then (with_inst work) o)))) is
            ∙ (λ j. claimed_of
            (or_waits
            (option_map (noted_of records work worker)
            (option_map (λ inst. (e.1, inst)) (slice_get (it.changed_are j) e.0)))))
            ∙ ap (λ o. claimed_of
            (or_waits (option_map (noted_of records work worker) (option_map (λ inst. (e.1, inst)) o))))
            r.1.among_changed
            ∙ ap Noted (noted_as e r.0 r.1)
            ∙ ap (λ o. told (option_map entry_of o)) (sym r.1.among_changed
            ∙ sym (ap (option_and_then (λ e. slice_get t.changed e.0)) is) ∙ found)

    -- .. is what the definition says
    pub choice_is_claim : claimed_of (in_phase records work worker (Some (Update stage)))
        ≡ by_items m n worker (items m.known n)
    choice_is_claim = choice_is ∙ sym claim_is

-- the whole of the update phase, and after it
pub updates_are : (m : Moment) (n worker : ℕ) (records : Records) (work : Work) → Updates m n records work
    → claimed_of (in_phase records work worker (option_map Update (least_stage work.groups)))
    ≡ by_items m n worker (items m.known n)
updates_are m n worker records work it = by (least_stage work.groups) refl
  where
    by : (o : Option ℕ) → least_stage work.groups ≡ o
        → claimed_of (in_phase records work worker (option_map Update (least_stage work.groups)))
        ≡ by_items m n worker (items m.known n)
    by (Some stage) is = ap (λ o. claimed_of (in_phase records work worker (option_map Update o))) is
        ∙ choice_is_claim m n worker records work stage it is
    by None is = ap (λ o. claimed_of (in_phase records work worker (option_map Update o))) is
        ∙ over_is m n worker records work it is
