-- What is not left to do in a task, once it has come to a later phase.
use Rattle.std.proofs.Common.{◌≡◌, ℕ, ◌+◌, Bool, true, false, Some, None, List, [], ◌∷◌, ◌++◌, refl, arith}
use Rattle.std.specs.Prelude.{not, map, filter, length, if◌then◌else◌}
use Rattle.std.specs.List.{list_all}
use Rattle.std.specs.Option.{option_map}
use Rattle.std.proofs.lemmas.List.Folds.{list_all-append}
use Rattle.std.proofs.lemmas.Bool.{and_parts}
use Rattle.bosh_base.specs.declared.call.Call.TheVariants as calls
use Rattle.bosh_base.specs.declared.inst.Inst.{Inst}
use Rattle.bosh_base.specs.declared.make.Make.{Make}
use Rattle.bosh_base.specs.declared.owner.Owner.{Owner}
use Rattle.bosh_base.specs.declared.owner.Owner.TheVariants.{Instance, Compile, Disk}
use Rattle.bosh_base.specs.declared.row.Vm.{Vm}
use Rattle.laws_facts.proofs.ListLemmas.{Tells}
use Rattle.laws_facts.proofs.MachineLemmas.{slot_tells}
use Rattle.bosh_history.specs.Items.{instance_phase, is_before, is_item, is_leftover, is_to_change, is_to_go, is_to_ping, phase_of, slot_phase, slots_of, stage_of}
use Rattle.bosh_history.specs.Items.{none_left_before}
use Rattle.bosh_history.specs.Known.{Known, SlotName, plan_in, want_in}
use Rattle.bosh_history.specs.Orders.{same_slot}
use Rattle.bosh_history.specs.Steps.{instance_call}
use Rattle.bosh_history.specs.Words.{is_among, numbers_below}
use Rattle.bosh_rows.proofs.SameLemmas.{same_inst_tells}
use Rattle.bosh_rows.specs.CallOf.{next_call}
use Rattle.bosh_rows.specs.Same.{same_inst}
use Rattle.laws_addresses.proofs.StepLemmas.{IsCreated, creates_wanted, none_on}

-- ---- lists

module _ {A : Type 0} (same : A → A → Bool) (tells : (a b : A) → Tells same a b) where
  -- a test that holds of all holds of each
  pub all_of : (p : A → Bool) (x : A) (items : List A) → list_all p items ≡ true → is_among same x items ≡ true
      → p x ≡ true
  all_of p x [] all there = absurd cc
  all_of p x (b ∷ items) all there = grind (arith, all, there, tells x b, all_of p x items)

  -- .. also of what is made of each that meets another
  pub all_made : {X : Type 0} (p : X → Bool) (f : A → X) (test : A → Bool) (x : A) (items : List A)
      → list_all p (map f (filter test items)) ≡ true → is_among same x items ≡ true → test x ≡ true
      → p (f x) ≡ true
  all_made p f test x [] all there is = absurd cc
  all_made p f test x (b ∷ items) all there is =
      grind (arith, all, there, is, tells x b, all_made p f test x items)

second : {A : Type 0} (p : A → Bool) (xs ys : List A) → list_all p (xs ++ ys) ≡ true → list_all p ys ≡ true
second p xs ys all = grind (arith, all, list_all-append p xs ys)

first : {A : Type 0} (p : A → Bool) (xs ys : List A) → list_all p (xs ++ ys) ≡ true → list_all p xs ≡ true
first p xs ys all = grind (arith, all, list_all-append p xs ys)

-- ---- phases

-- nothing is left before the phase for the obsolete instances, and for the machines of earlier tasks
pub record IsPresent (k : Known) (t phase : ℕ) : Type 0 where
  pub obsolete : (i : Inst) → is_to_go (k.task t) i ≡ true → is_before phase (instance_phase (k.task t) i) ≡ false
  pub leftover : (name : SlotName) → is_among same_slot name k.machines ≡ true → is_leftover k t name ≡ true
      → is_before phase (slot_phase k t name) ≡ false

pub present : (k : Known) (t phase : ℕ) → none_left_before k t phase ≡ true → IsPresent k t phase
present k t phase is = record {
  obsolete = λ i goes_on.
      grind (
        arith,
        all_made same_inst same_inst_tells test Instance (is_to_go (k.task t)) i (k.task t).obsolete to_go
            (and_parts (is_among same_inst i (k.task t).obsolete) (not ((k.task t).gone i)) goes_on).0 goes_on,
      );
  leftover = λ name there left.
      grind (
        arith,
        all_made same_slot slot_tells test (λ name. Compile name.task name.slot) (is_leftover k t) name k.machines
            to_sweep there left,
      );
}
  where
    test : Owner → Bool
    test owner = not (is_before phase (phase_of k t owner))

    pings : List Owner
    pings = map Instance (filter (is_to_ping (k.task t)) (k.task t).to_ping)

    sweeps : List Owner
    sweeps = map (λ name. Compile name.task name.slot) (filter (is_leftover k t) k.machines)

    slots : List Owner
    slots = map (Compile t) (numbers_below (length (slots_of (k.task t).goal)))

    goes : List Owner
    goes = map Instance (filter (is_to_go (k.task t)) (k.task t).obsolete)

    changes : List Owner
    changes = map Instance (k.task t).changed

    up_to_go : list_all test (pings ++ sweeps ++ slots ++ goes) ≡ true
    up_to_go =
        first test (pings ++ sweeps ++ slots ++ goes) changes
        (first test (pings ++ sweeps ++ slots ++ goes ++ changes) (map Disk (k.task t).disks) is)

    to_sweep : list_all test sweeps ≡ true
    to_sweep =
        second test pings sweeps
        (first test (pings ++ sweeps) slots (first test (pings ++ sweeps ++ slots) goes up_to_go))

    to_go : list_all test goes ≡ true
    to_go = second test (pings ++ sweeps ++ slots) goes up_to_go

-- ---- a machine is made for an instance

pub record MakesFor (k : Known) (t : ℕ) (i : Inst) (make : Make) : Type 0 where
  pub created : IsCreated (want_in (k.task t).goal i) make
  pub changes : is_among same_inst i (k.task t).changed ≡ true
  pub none_goes : (j : Inst) → is_to_go (k.task t) j ≡ false
  pub none_left : (name : SlotName) → is_among same_slot name k.machines ≡ true → is_leftover k t name ≡ false

none_to_go : (k : Known) (t stage : ℕ) → IsPresent k t (4 + stage) → (j : Inst) → is_to_go (k.task t) j ≡ false
none_to_go k t stage ahead j = by (is_to_go (k.task t) j) refl (is_to_ping (k.task t) j) refl
  where
    by : (go : Bool) → is_to_go (k.task t) j ≡ go → (ping : Bool) → is_to_ping (k.task t) j ≡ ping
        → is_to_go (k.task t) j ≡ false
    by false is ping asks = is
    by true is true asks = absurd (grind (arith, is, asks, ahead.obsolete j is))
    by true is false asks = absurd (grind (arith, is, asks, ahead.obsolete j is))

none_to_sweep : (k : Known) (t stage : ℕ) → IsPresent k t (4 + stage) → (name : SlotName)
    → is_among same_slot name k.machines ≡ true → is_leftover k t name ≡ false
none_to_sweep k t stage ahead name there = by (is_leftover k t name) refl
  where
    by : (left : Bool) → is_leftover k t name ≡ left → is_leftover k t name ≡ false
    by false is = is
    by true is = absurd (grind (arith, is, ahead.leftover name there))

pub makes_for : (k : Known) (t : ℕ) (i : Inst) (make : Make) (disks : List ℕ)
    → instance_call k (k.task t) i ≡ Some (calls.CreateVm make disks) → is_item k t (Instance i) ≡ true
    → MakesFor k t i make
makes_for k t i make disks call item = by (is_to_ping (k.task t) i) refl (is_to_go (k.task t) i) refl call
  where
    by : (ping : Bool) → is_to_ping (k.task t) i ≡ ping → (go : Bool) → is_to_go (k.task t) i ≡ go
        → (if ping then option_map (λ it. calls.Ping it.vm) (k.row i).vm
        else next_call (if go then None else want_in (k.task t).goal i) (k.row i)) ≡ Some (calls.CreateVm make disks)
        → MakesFor k t i make
    by true asks go goes is =
        absurd (none_on make disks (λ (it : Vm). calls.Ping it.vm) (k.row i).vm (λ a same. absurd cc) is)
    by false asks true goes is =
        let wrong : IsCreated None make = creates_wanted None (k.row i) make disks is in
        absurd (grind (arith, wrong.wants))
    by false asks false goes is = change (is_to_change (k.task t) i) refl
      where
        phase : instance_phase (k.task t) i ≡
            (if is_to_change (k.task t) i then Some (4 + stage_of (plan_in (k.task t).goal i)) else None)
        phase = (λ j. if asks j then Some 0
            else (if goes j then Some 3
            else (if is_to_change (k.task t) i then Some (4 + stage_of (plan_in (k.task t).goal i)) else None)))

        change : (b : Bool) → is_to_change (k.task t) i ≡ b → MakesFor k t i make
        change true changes =
            let ahead : IsPresent k t (4 + stage_of (plan_in (k.task t).goal i)) =
            present k t (4 + stage_of (plan_in (k.task t).goal i)) (grind (arith, item, phase, changes)) in
            record {
              created = creates_wanted (want_in (k.task t).goal i) (k.row i) make disks is;
              changes = grind (arith, changes);
              none_goes = none_to_go k t (stage_of (plan_in (k.task t).goal i)) ahead;
              none_left = none_to_sweep k t (stage_of (plan_in (k.task t).goal i)) ahead;
            }
        change false changes = absurd (grind (arith, item, phase, changes))
