-- Which key is compiled next, and whether there is one.
use Rattle.std.proofs.Common.{◌≡◌, ◌∙◌, ℕ, ◌+◌, ◌<◌, zero, suc, Bool, true, false, ◌&&◌, ◌||◌, not, List, []}
use Rattle.std.proofs.Common.{◌∷◌, length, map, Option, Some, None, ap, refl, sym, arith, inl}
use Rattle.std.proofs.Common.{inr}
use Rattle.std.specs.Prelude.{◌==◌, cond, count_by, find, is_some, nat_lt, slice_get, slice_index_or}
use Rattle.std.specs.Prelude.{if◌then◌else◌}
use Rattle.std.specs.List.{filter_map, list_all, list_any}
use Rattle.std.specs.Option.{option_and_then, option_map}
use Rattle.std.proofs.lemmas.Bool.{and_parts, eqb-true, false≢true, lt-ltb, ltb-true, or_cases}
use Rattle.std.proofs.lemmas.Bool.{or_parts, true≢false}
use Rattle.std.proofs.lemmas.List.Sums.{sum_by-cons}
use Rattle.std.proofs.lemmas.Option.{slice_get-map}
use Rattle.bosh_base.specs.declared.goal.Goal.{Goal}
use Rattle.bosh_base.specs.declared.key.Key.{Key}
use Rattle.bosh_base.specs.declared.key.KeyWork.{KeyWork}
use Rattle.bosh_claim.specs.Phase.{has_to_compile}
use Rattle.bosh_claim.specs.Slot as slots
use Rattle.bosh_compile.proofs.KeyLemmas.{same_key_decides}
use Rattle.bosh_compile.specs.Readiness.{same_key}
use Rattle.bosh_history.specs.Items.{is_slot_left, slots_of}
use Rattle.bosh_history.specs.Known.{Known, Slot, SlotName, Task}
use Rattle.bosh_history.specs.Moments.{Moment}
use Rattle.bosh_history.specs.Slots.{is_compiled, is_ready, is_taken, keys_of, may_take, next_key, works_for}
use Rattle.bosh_history.specs.Steps.{nth}
use Rattle.bosh_progress.specs.Tree.{first_marked}
use Rattle.bosh_records.specs.NextKey as next
use Rattle.bosh_records.specs.Readers as readers
use Rattle.bosh_records.specs.declared.records.Records.{Records}
use Rattle.bosh_work.specs.declared.part.MachineName.{MachineName}
use Rattle.bosh_work.specs.declared.work.Work.{Work}
use Rattle.laws_stands.specs.Choosing.{CanChoose}
use Rattle.laws_stands.specs.WorkStands.{is_worked_for}
use Rattle.laws_stands.proofs.MarkLemmas.{at_place, found}

-- ---- lists

pub nth_is : {A : Type 0} (k : ℕ) (xs : List A) → nth k xs ≡ slice_get xs k
nth_is zero [] = refl
nth_is zero (x ∷ xs) = refl
nth_is (suc k) [] = refl
nth_is (suc k) (x ∷ xs) = nth_is k xs

all_same : {A : Type 0} (p q : A → Bool) (xs : List A) → ((x : A) → p x ≡ q x) → list_all p xs ≡ list_all q xs
all_same p q [] same = refl
all_same p q (x ∷ xs) same = λ i. same x i && all_same p q xs same i

any_same : {A : Type 0} (p q : A → Bool) (xs : List A) → ((x : A) → p x ≡ q x) → list_any p xs ≡ list_any q xs
any_same p q [] same = refl
any_same p q (x ∷ xs) same = λ i. same x i || any_same p q xs same i

pub kept_same : {A B : Type 0} (f g : A → Option B) (xs : List A) → ((x : A) → f x ≡ g x) → filter_map f xs
    ≡ filter_map g xs
kept_same f g [] same = refl
kept_same f g (x ∷ xs) same = (λ i. filter_map (λ y. same y i) (x ∷ xs))

find_same_all : {A : Type 0} (p q : A → Bool) (xs : List A) → ((x : A) → p x ≡ q x) → find p xs ≡ find q xs
find_same_all p q xs same = λ i. find (λ x. same x i) xs

-- there is a first mark where one passes
marked_some : {A : Type 0} (p : A → Bool) (xs : List A) → is_some (first_marked (map p xs)) ≡ is_some (find p xs)
marked_some p [] = refl
marked_some p (x ∷ xs) = by (p x) (marked_some p xs)
  where
    later : (o : Option ℕ) → is_some (option_map suc o) ≡ is_some o
    later (Some k) = refl
    later None = refl

    by : (b : Bool) → is_some (first_marked (map p xs)) ≡ is_some (find p xs)
        → is_some (first_marked (b ∷ map p xs)) ≡ is_some (if b then Some x else find p xs)
    by true more = refl
    by false more = later (first_marked (map p xs)) ∙ more

pub find_passes : {A : Type 0} (p : A → Bool) (xs : List A) (x : A) → find p xs ≡ Some x → p x ≡ true
find_passes p [] x is = absurd cc
find_passes p (y ∷ xs) x is = by (p y) refl is (λ is. find_passes p xs x is)
  where
    by : (b : Bool) → p y ≡ b → (if b then Some y else find p xs) ≡ Some x → (find p xs ≡ Some x → p x ≡ true) → p x
        ≡ true
    by true here is more = let e : y ≡ x = cc in ap p (sym e) ∙ here
    by false here is more = more is

counted_at : (p : SlotName → Bool) (xs : List SlotName) → nat_lt 0 (count_by p xs) ≡ true → (k : ℕ) × (x : SlotName)
    × (slice_get xs k ≡ Some x) × (p x ≡ true)
counted_at p [] is = absurd (false≢true is)
counted_at p (x ∷ xs) is = by (p x) refl (ap (nat_lt 0) (sym (sum_by-cons (λ x. cond (p x) 1 0) x xs)) ∙ is)
    (λ is. counted_at p xs is)
  where
    by : (b : Bool) → p x ≡ b → nat_lt 0 (cond b 1 0 + count_by p xs) ≡ true
        → (nat_lt 0 (count_by p xs) ≡ true → (k : ℕ) × (y : SlotName) × (slice_get xs k ≡ Some y) × (p y ≡ true))
        → (k : ℕ) × (y : SlotName) × (slice_get (x ∷ xs) k ≡ Some y) × (p y ≡ true)
    by true here is more = (0, x, refl, here)
    by false here is more =
        let r : (k : ℕ) × (y : SlotName) × (slice_get xs k ≡ Some y) × (p y ≡ true) =
        more (ap (nat_lt 0) (rest (count_by p xs)) ∙ is) in (suc r.0, r.1, r.2, r.3)
      where
        rest : (c : ℕ) → c ≡ 0 + c
        rest c = omega arith

pub key_is : (a b : Key) → same_key a b ≡ true → a ≡ b
key_is a b is = (same_key_decides a b).0 is

module _ (m : Moment) (n worker : ℕ) (records : Records) (swept : List MachineName) (work : Work)
    (can : CanChoose m n records swept work) where
  abbrev k : Known
  k = m.known

  abbrev t : Task
  t = m.known.task n

  abbrev name_at : ℕ → MachineName
  name_at s = record { task = n; slot = s }

  -- ---- the next key

  -- a key may be compiled where it is not, and no machine of the task is for it
  abbrev is_free : KeyWork → Bool
  is_free it = not (is_compiled k it.key) && not (is_worked_for k n it.key)

  needs_are : (it : KeyWork) → next.has_needs records it ≡ is_ready k it
  needs_are it = all_same (λ dep. is_some (readers.digest_of records dep)) (is_compiled k) it.deps
      (λ dep. ap is_some (can.digests_are dep))

  first_is : (from : ℕ) (keys : List KeyWork) → ((j : ℕ) (it : KeyWork) → slice_get keys j ≡ Some it
      → slice_index_or work.keys.queue.free (from + j) false ≡ is_free it)
      → next.first_key records work from keys
      ≡ option_map (λ j. from + j) (first_marked (map (λ it. is_free it && is_ready k it) keys))
  first_is from [] marks = refl
  first_is from (key ∷ keys) marks =
      (λ i. if here i then Some from else next.first_key records work (from + 1) keys)
      ∙ by (is_free key && is_ready k key)
      (first_is (from + 1) keys (λ j it is. ap (λ p. slice_index_or work.keys.queue.free p false) (further j)
      ∙ marks (suc j) it is))
    where
      further : (j : ℕ) → (from + 1) + j ≡ from + suc j
      further j = omega arith

      start : from ≡ from + 0
      start = omega arith

      here : next.may_compile records work from key ≡ (is_free key && is_ready k key)
      here = λ i. (ap (λ p. slice_index_or work.keys.queue.free p false) start ∙ marks 0 key refl) i
          && needs_are key i

      later : (o : Option ℕ) → option_map (λ j. (from + 1) + j) o ≡ option_map (λ j. from + j) (option_map suc o)
      later (Some j) = ap Some (further j)
      later None = refl

      by : (b : Bool) → next.first_key records work (from + 1) keys
          ≡ option_map (λ j. (from + 1) + j) (first_marked (map (λ it. is_free it && is_ready k it) keys))
          → (if b then Some from else next.first_key records work (from + 1) keys)
          ≡ option_map (λ j. from + j) (first_marked (b ∷ map (λ it. is_free it && is_ready k it) keys))
      by true more = ap Some start
      by false more = more ∙ later (first_marked (map (λ it. is_free it && is_ready k it) keys))

  abbrev firsts : Option ℕ
  firsts = first_marked (map (λ it. is_free it && is_ready k it) (keys_of t.goal))

  pub goal_of_work : next.goal_for records work.task ≡ t.goal
  goal_of_work = ap (next.goal_for records) can.task_is ∙ can.goal_is

  -- the mark of a key of the goal
  mark_is : (j : ℕ) (it : KeyWork) → slice_get (keys_of t.goal) j ≡ Some it
      → slice_index_or work.keys.queue.free j false ≡ is_free it
  mark_is j it is =
      ap (λ marks. slice_index_or marks j false) (can.keys).free_are
      ∙ at_place (λ key. not (is_compiled k key) && not (is_worked_for k n key))
      (map (λ work. work.key) (keys_of t.goal)) j it.key
      (slice_get-map (λ (work : KeyWork). work.key) (keys_of t.goal) j
      ∙ ap (option_map (λ (work : KeyWork). work.key)) is)

  next_place : next.next_key records work ≡ firsts
  next_place =
      ap (option_and_then (λ goal. next.first_key records work 0 goal.keys)) goal_of_work
      ∙ by t.goal (λ j it is. mark_is j it is)
    where
      zero_more : (o : Option ℕ) → option_map (λ j. 0 + j) o ≡ o
      zero_more (Some j) = ap Some (omega arith)
      zero_more None = refl

      by : (goal : Option Goal) → ((j : ℕ) (it : KeyWork) → slice_get (keys_of goal) j ≡ Some it
          → slice_index_or work.keys.queue.free j false ≡ is_free it)
          → option_and_then (λ goal. next.first_key records work 0 goal.keys) goal
          ≡ first_marked (map (λ it. is_free it && is_ready k it) (keys_of goal))
      by (Some goal) marks =
          first_is 0 goal.keys (λ j it is. ap (λ p. slice_index_or work.keys.queue.free p false) (start j)
          ∙ marks j it is)
          ∙ zero_more (first_marked (map (λ it. is_free it && is_ready k it) goal.keys))
        where
          start : (j : ℕ) → 0 + j ≡ j
          start j = omega arith
      by None marks = refl

  -- what stands at a place of the goal
  pub key_at_is : (place : Option ℕ) → option_and_then (slots.key_at records work) place
      ≡ option_and_then (λ j. slice_get (keys_of t.goal) j) place
  key_at_is (Some j) = ap (option_and_then (λ goal. slice_get goal.keys j)) goal_of_work ∙ by t.goal
    where
      by : (goal : Option Goal) → option_and_then (λ (goal : Goal). slice_get goal.keys j) goal
          ≡ slice_get (keys_of goal) j
      by (Some goal) = refl
      by None = none j
        where
          none : (j : ℕ) → None ≡ slice_get (keys_of None) j
          none zero = refl
          none (suc j) = refl
  key_at_is None = refl

  -- where no machine of a slot is recorded, the keys that it may take are those that any such slot may
  takes_as : (s : ℕ) → k.slot n s ≡ None → (it : KeyWork) → (is_free it && is_ready k it) ≡ may_take k n s it
  takes_as s none it = ap (λ b. (not (is_compiled k it.key) && not b) && is_ready k it) (sym taken_is)
      ∙ by (is_ready k it) (is_compiled k it.key) (is_taken k n s it.key)
    where
      taken_is : is_taken k n s it.key ≡ is_worked_for k n it.key
      taken_is = any_same _ (λ (name : SlotName). name.task == n && works_for it.key (k.slot n name.slot))
          k.machines one
        where
          one : (name : SlotName)
              → (name.task == n && (not (name.slot == s) && works_for it.key (k.slot n name.slot)))
              ≡ (name.task == n && works_for it.key (k.slot n name.slot))
          one name = ap (λ b. name.task == n && b) (of (name.slot == s) refl)
            where
              of : (b : Bool) → (name.slot == s) ≡ b → (not b && works_for it.key (k.slot n name.slot))
                  ≡ works_for it.key (k.slot n name.slot)
              of true same = sym (ap (λ p. works_for it.key (k.slot n p)) (eqb-true name.slot s same)
                  ∙ ap (works_for it.key) none)
              of false other = refl

      by : (r c d : Bool) → ((not c && not d) && r) ≡ (r && (not c && not d))
      by true true d = refl
      by true false true = refl
      by true false false = refl
      by false true d = refl
      by false false true = refl
      by false false false = refl

  pub next_is : (s : ℕ) → k.slot n s ≡ None → slots.first_key records work ≡ next_key k n s
  next_is s none =
      ap (option_and_then (slots.key_at records work)) next_place ∙ key_at_is firsts
      ∙ found (λ it. is_free it && is_ready k it) (keys_of t.goal)
      ∙ find_same_all (λ it. is_free it && is_ready k it) (may_take k n s) (keys_of t.goal) (takes_as s none)

  next_some : (s : ℕ) → k.slot n s ≡ None → is_some (next.next_key records work) ≡ is_some (next_key k n s)
  next_some s none =
      ap is_some next_place ∙ marked_some (λ it. is_free it && is_ready k it) (keys_of t.goal)
      ∙ ap is_some (find_same_all (λ it. is_free it && is_ready k it) (may_take k n s) (keys_of t.goal)
      (takes_as s none))

  -- ---- whether there is something to compile

  slot_left : (s : ℕ) → s < length (slots_of t.goal) → (is_some (k.slot n s) || is_some (next_key k n s)) ≡ true
      → is_slot_left k n s ≡ true
  slot_left s low is = λ i. lt-ltb s (length (slots_of t.goal)) low i && is i

  pub compiles_some : has_to_compile records work ≡ true → (s : ℕ) × (s < length (slots_of t.goal))
      × (is_slot_left k n s ≡ true)
  compiles_some is =
      elim (or_cases (nat_lt 0 work.machines) (nat_lt 0 work.slots && is_some (next.next_key records work)) is) [
        | inl some ↦
            let r : (j : ℕ) × (name : SlotName) × (slice_get k.machines j ≡ Some name) × ((name.task == n) ≡ true) =
            counted_at (λ name. name.task == n) k.machines (ap (nat_lt 0) (sym can.machines_are) ∙ some) in
            let there : is_some (k.slot n (r.1).slot) ≡ true = ap (λ task. is_some (k.slot task (r.1).slot))
            (sym (eqb-true (r.1).task n r.3)) ∙ can.listed r.1 r.0 r.2 in
            let low : (r.1).slot < length (slots_of t.goal) = can.of_goal (r.1).slot there in
            ((r.1).slot, low, slot_left (r.1).slot low (ap (λ b. b || is_some (next_key k n (r.1).slot)) there))
        | inr some ↦
            let parts : (nat_lt 0 work.slots ≡ true) × (is_some (next.next_key records work) ≡ true) =
            and_parts (nat_lt 0 work.slots) (is_some (next.next_key records work)) some in
            let low : 0 < length (slots_of t.goal) = ltb-true 0 (length (slots_of t.goal))
            (ap (nat_lt 0) (sym can.slots_are) ∙ parts.0) in
            (0, low, slot_left 0 low (by (k.slot n 0) refl parts.1))
      ]
    where
      by : (o : Option Slot) → k.slot n 0 ≡ o → is_some (next.next_key records work) ≡ true
          → (is_some (k.slot n 0) || is_some (next_key k n 0)) ≡ true
      by (Some it) there is = ap (λ o. is_some o || is_some (next_key k n 0)) there
      by None there is = (λ i. is_some (there i) || is_some (next_key k n 0)) ∙ sym (next_some 0 there) ∙ is

  pub compiles_none : has_to_compile records work ≡ false → (s : ℕ) → is_slot_left k n s ≡ false
  compiles_none none s = by (nat_lt s (length (slots_of t.goal))) refl
    where
      parts : (nat_lt 0 work.machines ≡ false) × ((nat_lt 0 work.slots && is_some (next.next_key records work))
          ≡ false)
      parts = or_parts (nat_lt 0 work.machines) (nat_lt 0 work.slots && is_some (next.next_key records work)) none

      own : (o : Option Slot) → k.slot n s ≡ o → s < length (slots_of t.goal)
          → (is_some (k.slot n s) || is_some (next_key k n s)) ≡ false
      own (Some it) there low =
          absurd (true≢false (sym (can.counted s (ap is_some there)) ∙ ap (nat_lt 0) (sym can.machines_are)
          ∙ parts.0))
      own None there low =
          (λ i. is_some (there i) || is_some (next_key k n s)) ∙ sym (next_some s there)
          ∙ sym (ap (λ b. b && is_some (next.next_key records work)) (ap (nat_lt 0) can.slots_are
          ∙ lt-ltb 0 (length (slots_of t.goal)) (omega arith))) ∙ parts.1

      by : (b : Bool) → nat_lt s (length (slots_of t.goal)) ≡ b
          → (nat_lt s (length (slots_of t.goal)) && (is_some (k.slot n s) || is_some (next_key k n s))) ≡ false
      by false out = ap (λ b. b && (is_some (k.slot n s) || is_some (next_key k n s))) out
      by true low = (λ i. low i && own (k.slot n s) refl (ltb-true s (length (slots_of t.goal)) low) i)
