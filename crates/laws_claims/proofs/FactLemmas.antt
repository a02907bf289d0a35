-- The facts of all subjects say of a task that works what the laws on claims ask for.
use Rattle.std.proofs.Common.{◌≡◌, ◌∙◌, ℕ, Bool, true, false, ◌&&◌, not, List, [], ◌∷◌, length}
use Rattle.std.proofs.Common.{Option, Some, None, ap, refl, sym, arith, inl, inr}
use Rattle.std.specs.Prelude.{◌==◌, is_some, nat_le, nat_lt}
use Rattle.std.specs.Option.{option_and_then}
use Rattle.std.specs.Str.{bytes_eq}
use Rattle.std.proofs.lemmas.Bool.{and_from, and_parts, eq-eqb, false≢true, leb-true}
use Rattle.std.proofs.lemmas.Bool.{or_cases}
use Rattle.bosh_base.specs.Cloud.{numbers_to}
use Rattle.bosh_base.specs.declared.key.Key.{Key}
use Rattle.bosh_base.specs.declared.owner.Owner.TheVariants.{Compile}
use Rattle.bosh_base.specs.declared.row.Doubt.{Doubt}
use Rattle.laws_slots.specs.Slots.{has_shape, is_creation_of}
use Rattle.laws_facts.specs.CompileMachines.{is_for_work}
use Rattle.laws_facts.specs.CompileMachines.{is_open_for_slot}
use Rattle.laws_facts.specs.KnownFacts.{KnownFacts}
use Rattle.laws_facts.specs.Owners.{works}
use Rattle.laws_row_facts.specs.Words.{where_any}
use Rattle.bosh_history.specs.Goals.{canaries_first, limit_of}
use Rattle.bosh_roll.specs.Upd.{is_busy}
use Rattle.bosh_history.specs.Items.{is_item, is_to_ping, slots_of}
use Rattle.bosh_history.specs.Known.{Slot, plan_in}
use Rattle.bosh_history.specs.Moments.{Moment, OpenCall}
use Rattle.laws_claims.specs.Told.{IsToldWell}
use Rattle.bosh_history.specs.Recovered.{is_recovering}
use Rattle.bosh_history.specs.Slots.{is_ready}
use Rattle.bosh_history.specs.Steps.{is_owners, work_for}
use Rattle.bosh_history.specs.Words.{holds, is_among}
use Rattle.bosh_rows.specs.Same.{same_owner}
use Rattle.laws_items.proofs.ListedLemmas.{Lists, ListsInstances, at_some, disks, implied, instances}
use Rattle.laws_items.proofs.ListedLemmas.{row_of, rows_are_well}
use Rattle.laws_items.proofs.ListedLemmas.{lists, names_its_own, numbered_in, one_lock, opened}
use Rattle.bosh_history.specs.Sound.{has_plan}
use Rattle.bosh_rows.specs.Same.{same_inst}
use Rattle.bosh_rows.specs.Standing.{is_empty}
use Rattle.bosh_base.specs.declared.inst.Inst.{Inst}
use Rattle.laws_claims.proofs.Owned.{HasPlans}
use Rattle.laws_items.proofs.OwnerLemmas.{same_owner_is}
use Rattle.laws_items.proofs.ListLemmas.{all_from, all_in, holds_some}
use Rattle.laws_claims.proofs.OwnLemmas.{calls_are_of_items, calls_are_own, groups_have_room}
use Rattle.laws_claims.proofs.Premises.{AskedHaveMachines, CanEnd, CanGoOn, CanNote, DoubtsAreOpen}
use Rattle.laws_claims.proofs.Premises.{GroupsHaveRoom, KeysAreWanted}
use Rattle.laws_claims.proofs.Premises.{MachinesAreKnown}
use Rattle.laws_claims.proofs.Premises.{SlotsAreWanted}
use Rattle.laws_claims.proofs.Owned.{AreCallsOwn}
use Rattle.laws_items.specs.Lists.{IsIn}
use Rattle.laws_items.proofs.DoneLemmas.{keys_slotted, keys_stand, of_goal, slot_wanted, some_from}
use Rattle.laws_items.proofs.ItemFrames.{are_listed, slot_dep}

-- ---- calls

pub calls_own : (m : Moment) → KnownFacts m → AreCallsOwn m
calls_own m facts = record {
  tasks_work = λ n call is. (facts.calls n call is).works;
  owners_are_items =
      λ n call is. (and_parts (is_item m.known call.begin.task call.begin.owner) _ (facts.calls n call is).of_item).0;
  locks_differ = λ t u one other same. one_lock m t u facts one other same;
  tasks_name_their_own = λ t working. names_its_own m t facts working;
  machines_are_listed = are_listed m facts;
  machines_are_own = λ t s it is. slot_dep m t s it facts is;
}

-- ---- compile machines

pub machines_known : (m : Moment) → KnownFacts m → MachinesAreKnown m
machines_known m facts t s it is none =
    let shape : has_shape it ≡ true = at_some has_shape (m.known.slot t s) it (facts.shapes t s) is in
    some_from (λ d. is_creation_of it.make d.call) it.doubt (sym (λ j. has_shape (record it { vm = none j })) ∙ shape)

no_one : (i : Inst) (instances : List Inst) → is_empty instances ≡ true → is_among same_inst i instances ≡ true → ⊥
no_one i [] none is = false≢true is
no_one i (other ∷ more) none is = false≢true none

module _ (m : Moment) (t : ℕ) (facts : KnownFacts m) (working : works m t ≡ true) where
  pub keys_wanted : KeysAreWanted m t
  keys_wanted s it is =
      by it.key (and_parts (is_for_work m.known (m.known.task t).goal it.key) _ (of_goal m t facts working s it is)).0
    where
      by : (key : Option Key) → is_for_work m.known (m.known.task t).goal key ≡ true
          → is_some (option_and_then (work_for (m.known.task t).goal) key) ≡ true
      by (Some key) is = some_from (is_ready m.known) (work_for (m.known.task t).goal key) is
      by None is = absurd (false≢true is)

  pub slots_wanted : SlotsAreWanted m t
  slots_wanted s is = by (m.known.slot t s) refl is
    where
      by : (slot : Option Slot) → m.known.slot t s ≡ slot → is_some slot ≡ true
          → nat_lt s (length (slots_of (m.known.task t).goal)) ≡ true
      by (Some it) at is = slot_wanted m t facts working s it at
      by None at is = absurd (false≢true is)

  -- an open call has a number up to the last
  pub call_numbered : (n : ℕ) (call : OpenCall) → m.calls n ≡ Some call → IsIn n (numbers_to m.known.last_call)
  call_numbered n call is = elim (or_cases (nat_le 1 n && nat_le n m.known.last_call) _ (facts.numbers.past n)) [
    | inl past ↦
        (let (low, high) = and_parts (nat_le 1 n) (nat_le n m.known.last_call) past in
        numbered_in n m.known.last_call (leb-true 1 n low) (leb-true n m.known.last_call high))
    | inr none ↦
        absurd
        (false≢true
        (sym (ap (λ (o : Option OpenCall). not (is_some o)) is) ∙ (and_parts (not (is_some (m.calls n))) _ none).0))
  ]

  pub doubts_open : DoubtsAreOpen m t
  doubts_open good s it is idle = by it.doubt refl
    where
      asked :
          where_any (λ (it : Slot). where_any (λ d. is_open_for_slot t s (m.calls d.n)) it.doubt) (m.known.slot t s)
          ≡ true
      asked =
          implied (works m t && not (is_some (m.known.task t).failed))
          (where_any (λ (it : Slot). where_any (λ d. is_open_for_slot t s (m.calls d.n)) it.doubt) (m.known.slot t s))
          (facts.slots_work t s).doubt_open
          (and_from (works m t) _ working (ap (λ failed. not (is_some failed)) good))

      by : (doubt : Option Doubt) → it.doubt ≡ doubt → doubt ≡ None
      by None at = refl
      by (Some d) at =
          let its : is_open_for_slot t s (m.calls d.n) ≡ true =
          at_some (λ d. is_open_for_slot t s (m.calls d.n)) it.doubt d
          (at_some (λ (it : Slot). where_any (λ d. is_open_for_slot t s (m.calls d.n)) it.doubt)
          (m.known.slot t s) it asked is) at in
          let call : (call : OpenCall) × (m.calls d.n ≡ Some call) ×
          (same_owner call.begin.owner (Compile t s) ≡ true) =
          holds_some (λ it. same_owner it.begin.owner (Compile t s)) (m.calls d.n) its in
          let owner : call.0.begin.owner ≡ Compile t s = same_owner_is call.0.begin.owner (Compile t s) call.2 in
          let rests : not (holds (is_owners (Compile t s)) (m.calls d.n)) ≡ true =
          all_in (λ n. not (holds (is_owners (Compile t s)) (m.calls n))) d.n (numbers_to m.known.last_call) idle
          (call_numbered d.n call.0 call.1) in
          absurd
          (false≢true
          (sym (ap (λ o. not (holds (is_owners (Compile t s)) o)) call.1
          ∙ ap (λ o. not (same_owner (Compile t s) o)) owner
          ∙ ap not (and_from (t == t) (s == s) (eq-eqb t t refl) (eq-eqb s s refl)))
          ∙ rests))

  -- ---- instances

  has_plans : (it : ListsInstances (m.known.task t)) → HasPlans it.goal (m.known.task t)
  has_plans it = record {
    goal_is = it.goal_is;
    rows_have_plans =
        all_from (has_plan it.goal) it.goal.rows
        (λ want is. (and_parts (bytes_eq want.inst.dep it.goal.dep) (has_plan it.goal want)
        (all_in (λ want. bytes_eq want.inst.dep it.goal.dep && has_plan it.goal want) want it.goal.rows
        (rows_are_well m t facts working it) is)).1);
    changed_are_rows = row_of m t facts working it;
  }

  pub has_room : GroupsHaveRoom m t
  has_room i changes = by (lists m t facts working)
    where
      by : Lists (m.known.task t) → nat_lt 0 (limit_of (m.known.task t) (plan_in (m.known.task t).goal i)) ≡ true
      by (disks it) = absurd (no_one i (m.known.task t).changed it.none_changes changes)
      by (instances it) = groups_have_room it.goal (m.known.task t) (has_plans it) i changes

  pub asked_known : AskedHaveMachines m t
  asked_known i asks =
      (and_parts (is_some (m.known.row i).vm) _
      (implied (is_to_ping (m.known.task t) i) _ (((facts.tasks t).working working).can_be_asked i) asks)).0

-- ---- all

-- a task that works, at a moment at which the facts on what is known hold
pub record IsWorking (m : Moment) (t : ℕ) : Type 0 where
  pub holds : KnownFacts m
  pub works : works m t ≡ true
  pub told : IsToldWell (m.known.task t)

-- while a task works, none is left that a stop interrupted
pub recovered : (m : Moment) (t : ℕ) → KnownFacts m → works m t ≡ true → is_recovering m ≡ false
recovered m t facts working = by (is_recovering m) refl
  where
    by : (b : Bool) → is_recovering m ≡ b → b ≡ false
    by false is = refl
    by true is =
        absurd (grind (
          arith,
          working,
          implied (is_recovering m) (nat_le m.known.tasks m.stopped)
              facts.numbers.none_opened is,
        ))

pub goes_on : (m : Moment) (t : ℕ) → IsWorking m t → CanGoOn m t
goes_on m t it = record {
  calls_are_own = calls_are_own m (calls_own m it.holds) t it.works;
  machines_are_known = machines_known m it.holds;
  keys_are_wanted = keys_wanted m t it.holds it.works;
  doubts_are_open = doubts_open m t it.holds it.works;
  groups_have_room = has_room m t it.holds it.works;
}

pub ends : (m : Moment) (t : ℕ) → IsWorking m t → CanEnd m t
ends m t it = record {
  is_open = opened m t it.works;
  is_recovered = recovered m t it.holds it.works;
  calls_are_of_items = calls_are_of_items m (calls_own m it.holds) t;
  failures_are_calls = it.told.failures_are_calls;
  slots_are_wanted = slots_wanted m t it.holds it.works;
  keys_can_be_compiled = keys_stand m t it.holds it.works;
  keys_have_slots = keys_slotted m t it.holds it.works;
}

pub notes : (m : Moment) (t : ℕ) → IsWorking m t → CanNote m t
notes m t it = record {
  is_open = opened m t it.works;
  is_recovered = recovered m t it.holds it.works;
  asked_have_machines = asked_known m t it.holds it.works;
  rows_have_machines = it.holds.machines;
  updates_go_on = it.told.updates_go_on;
  updates_are_in_turn =
      λ i busy. implied (is_busy ((m.known.task t).upd i)) (canaries_first (m.known.task t) i)
      (((it.holds.tasks t).working it.works).in_turn i) busy;
}
