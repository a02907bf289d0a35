-- Where no slot of a task that works is left, all its keys are compiled.
use Rattle.std.proofs.Common.{◌≡◌, ◌∙◌, ℕ, ◌<◌, zero, suc, Bool, true, false, ◌||◌, not, List, [], ◌∷◌, length}
use Rattle.std.proofs.Common.{Option, Some, None, ap, refl, sym, arith}
use Rattle.std.specs.Prelude.{◌==◌, find, if◌then◌else◌, is_some, nat_le, nat_lt}
use Rattle.std.specs.List.{list_all}
use Rattle.std.proofs.lemmas.Bool.{and_from, and_parts, false≢true, lt-ltb, ltb-true, or_left, or_right}
use Rattle.std.proofs.lemmas.Bool.Decides.{nat_tests}
use Rattle.bosh_base.specs.declared.goal.Goal.{Goal}
use Rattle.bosh_base.specs.declared.key.Key.{Key}
use Rattle.bosh_base.specs.declared.key.KeyWork.{KeyWork}
use Rattle.bosh_history.specs.Items.{is_slot_left, slots_of}
use Rattle.bosh_history.specs.Keys.{stand_after_needs}
use Rattle.bosh_history.specs.Known.{Slot, SlotName}
use Rattle.bosh_history.specs.Moments.{Moment}
use Rattle.bosh_history.specs.Slots.{is_compiled, is_ready, is_taken, keys_of, may_take, next_key, takes, works_for}
use Rattle.bosh_history.specs.Steps.{nth}
use Rattle.bosh_history.specs.Words.{holds}
use Rattle.laws_facts.specs.CompileMachines.{is_for_work, is_make_for, is_slot_of_goal}
use Rattle.laws_facts.specs.KnownFacts.{KnownFacts}
use Rattle.laws_facts.specs.Owners.{works}
use Rattle.laws_items.proofs.KeyLemmas.{is_next, one_is_next}
use Rattle.laws_items.proofs.ListLemmas.{Meets, found, none_from}
use Rattle.laws_items.proofs.ListedLemmas.{Lists, at_some, disks, goal_facts, implied, instances, lists}
use Rattle.laws_row_facts.specs.Words.{where_any}

pub some_from : {X : Type 0} (test : X → Bool) (o : Option X) → holds test o ≡ true → is_some o ≡ true
some_from test (Some x) is = refl
some_from test None is = absurd (false≢true is)

pub nth_below : {X : Type 0} (s : ℕ) (xs : List X) → is_some (nth s xs) ≡ true → nat_lt s (length xs) ≡ true
nth_below zero [] is = absurd (false≢true is)
nth_below (suc s) [] is = absurd (false≢true is)
nth_below zero (x ∷ xs) is = lt-ltb zero (length (x ∷ xs)) (omega arith)
nth_below (suc s) (x ∷ xs) is =
    let below : s < length xs = ltb-true s (length xs) (nth_below s xs is) in
    lt-ltb (suc s) (length (x ∷ xs)) (omega arith)

module _ (m : Moment) (t : ℕ) (h : KnownFacts m) (working : works m t ≡ true) where
  -- a compile machine of the task is of its goal
  pub of_goal : (s : ℕ) (it : Slot) → m.known.slot t s ≡ Some it → is_slot_of_goal m t s it ≡ true
  of_goal s it is =
      at_some (is_slot_of_goal m t s) (m.known.slot t s) it
      (implied (works m t) (where_any (is_slot_of_goal m t s) (m.known.slot t s)) (h.slots_work t s).of_goal working) is

  pub slot_wanted : (s : ℕ) (it : Slot) → m.known.slot t s ≡ Some it
      → nat_lt s (length (slots_of (m.known.task t).goal)) ≡ true
  slot_wanted s it is =
      nth_below s (slots_of (m.known.task t).goal)
      (some_from (λ make. is_make_for it.key make it.make) (nth s (slots_of (m.known.task t).goal))
      (and_parts (is_for_work m.known (m.known.task t).goal it.key) _ (of_goal s it is)).1)

  -- ---- keys

  pub keys_stand : stand_after_needs (is_compiled m.known) [] (keys_of (m.known.task t).goal) ≡ true
  keys_stand = by (lists m t h working)
    where
      by : Lists (m.known.task t) → stand_after_needs (is_compiled m.known) [] (keys_of (m.known.task t).goal) ≡ true
      by (disks it) = ap (λ goal. stand_after_needs (is_compiled m.known) [] (keys_of goal)) it.goal_is
      by (instances it) =
          ap (λ goal. stand_after_needs (is_compiled m.known) [] (keys_of goal)) it.goal_is
          ∙ (goal_facts m t h working it).can_be_compiled

  pub keys_slotted : list_all (λ work. is_compiled m.known work.key) (keys_of (m.known.task t).goal) ≡ false
      → nat_lt 0 (length (slots_of (m.known.task t).goal)) ≡ true
  keys_slotted some = by (lists m t h working)
    where
      slotted : (goal : Goal) (keys : List KeyWork) → (nat_le (length keys) 0 || nat_le 1 (length goal.slots)) ≡ true
          → list_all (λ work. is_compiled m.known work.key) keys ≡ false → nat_lt 0 (length goal.slots) ≡ true
      slotted goal [] has some = absurd (false≢true (sym some))
      slotted goal (key ∷ keys) has some = grind (arith, nat_tests, has)

      by : Lists (m.known.task t) → nat_lt 0 (length (slots_of (m.known.task t).goal)) ≡ true
      by (disks it) =
          absurd
          (false≢true
          (sym some ∙ ap (λ goal. list_all (λ work. is_compiled m.known work.key) (keys_of goal)) it.goal_is))
      by (instances it) =
          ap (λ goal. nat_lt 0 (length (slots_of goal))) it.goal_is
          ∙ slotted it.goal it.goal.keys (goal_facts m t h working it).has_slots
          (sym (ap (λ goal. list_all (λ work. is_compiled m.known work.key) (keys_of goal)) it.goal_is) ∙ some)

  -- ---- no slot is left

  module _ (none : (s : ℕ) → is_slot_left m.known t s ≡ false) where
    -- no compile machine of the task is recorded
    pub none_recorded : (s : ℕ) (it : Slot) → m.known.slot t s ≡ Some it → ⊥
    none_recorded s it is =
        false≢true
        (sym (none s)
        ∙ and_from (nat_lt s (length (slots_of (m.known.task t).goal))) _ (slot_wanted s it is)
        (or_left (is_some (m.known.slot t s)) (is_some (next_key m.known t s)) (ap is_some is)))

    none_takes : (key : Key) (name : SlotName) → takes m.known t 0 key name ≡ false
    none_takes key name = by (takes m.known t 0 key name) refl
      where
        recorded : (slot : Option Slot) → m.known.slot t name.slot ≡ slot → works_for key slot ≡ true → ⊥
        recorded (Some it) at is = none_recorded name.slot it at
        recorded None at is = false≢true is

        by : (b : Bool) → takes m.known t 0 key name ≡ b → b ≡ false
        by false is = refl
        by true is =
            absurd
            (recorded (m.known.slot t name.slot) refl
            (and_parts (not (name.slot == 0)) _ (and_parts (name.task == t) _ is).1).1)

    pub all_compiled : list_all (λ work. is_compiled m.known work.key) (keys_of (m.known.task t).goal) ≡ true
    all_compiled = by (list_all (λ work. is_compiled m.known work.key) (keys_of (m.known.task t).goal)) refl
      where
        free : (key : Key) → is_taken m.known t 0 key ≡ false
        free key = none_from (takes m.known t 0 key) m.known.machines (λ name is. none_takes key name)

        takes_one : Meets (is_next (is_compiled m.known)) (keys_of (m.known.task t).goal)
            → is_some (next_key m.known t 0) ≡ true
        takes_one it =
            let parts : (is_ready m.known it.x ≡ true) × (not (is_compiled m.known it.x.key) ≡ true) =
            and_parts (list_all (is_compiled m.known) it.x.deps) (not (is_compiled m.known it.x.key)) it.meets in
            found (may_take m.known t 0) it.x (keys_of (m.known.task t).goal) it.is_in
            (and_from (is_ready m.known it.x) _ parts.0
            (and_from (not (is_compiled m.known it.x.key)) _ parts.1 (ap not (free it.x.key))))

        by : (b : Bool) → list_all (λ work. is_compiled m.known work.key) (keys_of (m.known.task t).goal) ≡ b
            → b ≡ true
        by true all = refl
        by false some =
            let next : Meets (is_next (is_compiled m.known)) (keys_of (m.known.task t).goal) =
            one_is_next (is_compiled m.known) [] (keys_of (m.known.task t).goal) (λ key is. absurd (false≢true is))
            keys_stand some in
            absurd
            (false≢true
            (sym (none 0)
            ∙ and_from (nat_lt 0 (length (slots_of (m.known.task t).goal))) _ (keys_slotted some)
            (or_right (is_some (m.known.slot t 0)) (is_some (next_key m.known t 0)) (takes_one next))))

-- a test of which another says that it fails finds none
pub none_next : (p q : KeyWork → Bool) → ((work : KeyWork) → p work ≡ true → q work ≡ false) → (items : List KeyWork)
    → list_all p items ≡ true → find q items ≡ None
none_next p q never [] all = refl
none_next p q never (work ∷ items) all =
    let parts : (p work ≡ true) × (list_all p items ≡ true) = and_parts (p work) (list_all p items) all in
    by (q work) (never work parts.0) (none_next p q never items parts.1)
  where
    by : (b : Bool) → b ≡ false → find q items ≡ None → (if b then Some work else find q items) ≡ None
    by false is rest = rest
    by true is rest = absurd (false≢true (sym is))
