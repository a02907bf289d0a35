-- The calls that a clean task may have had are within its budget: each slot works for a key of its own.
use Prim.Native.Nat.{zero, suc}
use Rattle.std.proofs.Common.{◌≡◌, ◌∙◌, ℕ, ◌+◌, ◌≤◌, Bool, true, false, cond, Option, Some, None, List, [], ◌∷◌, ◌++◌}
use Rattle.std.proofs.Common.{arith, refl, sym}
use Rattle.std.specs.Prelude.{◌*◌, ◌&&◌, ◌||◌, ◌==◌, count_by, is_some, length, map, not, sum_by}
use Rattle.std.specs.List.{list_any}
use Rattle.std.specs.Option.{option_eq}
use Rattle.std.proofs.lemmas.Bool.{and_from, and_parts, false≢true, not-true, or_left, or_right}
use Rattle.std.proofs.lemmas.Bool.Decides.{eqb_tells}
use Rattle.std.proofs.lemmas.List.Sums.{sum_by-cons, sum_by_push}
use Rattle.bosh_base.specs.declared.goal.Goal.{Goal}
use Rattle.bosh_base.specs.declared.goal.GoalRow.{GoalRow}
use Rattle.bosh_base.specs.declared.key.Key.{Key}
use Rattle.bosh_base.specs.declared.key.KeyWork.{KeyWork}
use Rattle.bosh_compile.proofs.KeyLemmas.{same_key_decides}
use Rattle.bosh_compile.specs.Readiness.{same_key}
use Rattle.bosh_history.specs.Goals.{inst_of, instances_of, rows_of}
use Rattle.bosh_history.specs.Items.{slots_of}
use Rattle.bosh_history.specs.Known.{Slot, Task}
use Rattle.bosh_history.specs.Moments.{Moment}
use Rattle.bosh_history.specs.Slots.{is_compiled, is_ready, keys_of}
use Rattle.bosh_history.specs.Steps.{work_for}
use Rattle.bosh_history.specs.Words.{holds, numbers_below}
use Rattle.bosh_rows.specs.Tied.{one_if}
use Rattle.laws_counted.proofs.SlotFacts.{most, most_any}
use Rattle.laws_counted.proofs.SumLemmas.{below_low, count_grows, count_low}
use Rattle.laws_counts.specs.Counts.{is_key_held, is_past, most_of_slots}
use Rattle.laws_facts.specs.CompileMachines.{is_for, is_slot_of_goal}
use Rattle.laws_facts.specs.KnownFacts.{KnownFacts}
use Rattle.laws_facts.specs.Owners.{works}
use Rattle.laws_heard.proofs.AnswerLemmas.{implied}
use Rattle.laws_items.proofs.ListLemmas.{find_in, holds_some}
use Rattle.laws_items.specs.Lists.{IsIn}
use Rattle.laws_row_facts.specs.Words.{where_any}

-- no item meets both tests
count_apart : {X : Type 0} (p q : X → Bool) (xs : List X) → ((x : X) → p x ≡ true → q x ≡ false)
    → count_by p xs + count_by q xs ≤ length xs
count_apart p q [] apart = omega arith
count_apart p q (x ∷ xs) apart =
    let rest : count_by p xs + count_by q xs ≤ length xs = count_apart p q xs apart in
    let one : count_by p (x ∷ xs) ≡ cond {A = ℕ} (p x) 1 0 + count_by p xs =
    sum_by-cons (λ y. cond {A = ℕ} (p y) 1 0) x xs in
    let two : count_by q (x ∷ xs) ≡ cond {A = ℕ} (q x) 1 0 + count_by q xs =
    sum_by-cons (λ y. cond {A = ℕ} (q y) 1 0) x xs in
    let most : cond {A = ℕ} (p x) 1 0 + cond {A = ℕ} (q x) 1 0 ≤ 1 = by (p x) refl (q x) refl in
    omega (arith, rest, one, two, most)
  where
    by : (b : Bool) → p x ≡ b → (c : Bool) → q x ≡ c → cond {A = ℕ} b 1 0 + cond {A = ℕ} c 1 0 ≤ 1
    by true meets true also = absurd (false≢true (sym (apart x meets) ∙ also))
    by true meets false fails = omega arith
    by false fails true meets = omega arith
    by false fails false also = omega arith

any_push : (p : ℕ → Bool) (n : ℕ) → list_any p (numbers_below (suc n)) ≡ (list_any p (numbers_below n) || p n)
any_push p n = pushed (numbers_below n)
  where
    pushed : (xs : List ℕ) → list_any p (xs ++ n ∷ []) ≡ (list_any p xs || p n)
    pushed [] = grind (arith)
    pushed (x ∷ xs) = (λ j. p x || pushed xs j) ∙ grind (arith)

module _ (m : Moment) (h : KnownFacts m) (t : ℕ) (working : works m t ≡ true) where
  abbrev task : Task
  task = m.known.task t

  abbrev slot : ℕ → Option Slot
  slot s = m.known.slot t s

  -- one of the first so many slots is for the key
  abbrev held : ℕ → KeyWork → Bool
  held n work = list_any (λ s. holds (is_for (Some work.key)) (slot s)) (numbers_below n)

  -- the key of a machine is one of the goal's
  work_of : (s : ℕ) (it : Slot) → slot s ≡ Some it
      → (work : KeyWork) × IsIn work (keys_of task.goal) × (it.key ≡ Some work.key)
  work_of s it there = of (holds_some (λ key. holds (is_ready m.known) (work_for task.goal key)) it.key for_work)
    where
      for_work : holds (λ key. holds (is_ready m.known) (work_for task.goal key)) it.key ≡ true
      for_work =
          (and_parts (holds (λ key. holds (is_ready m.known) (work_for task.goal key)) it.key) _
          (sym (λ j. where_any (is_slot_of_goal m t s) (there j))
          ∙ implied (works m t) _ (h.slots_work t s).of_goal working)).0

      of : (key : Key) × (it.key ≡ Some key) × (holds (is_ready m.known) (work_for task.goal key) ≡ true)
          → (work : KeyWork) × IsIn work (keys_of task.goal) × (it.key ≡ Some work.key)
      of (key, keyed, ready) =
          let found : (work : KeyWork) × (work_for task.goal key ≡ Some work) × (is_ready m.known work ≡ true) =
          holds_some (is_ready m.known) (work_for task.goal key) ready in
          let isin : IsIn found.0 (keys_of task.goal) × (same_key (found.0).key key ≡ true) =
          find_in (λ work. same_key work.key key) found.0 (keys_of task.goal) found.1 in
          (found.0, isin.0, keyed ∙ (λ j. Some (sym ((same_key_decides (found.0).key key).0 isin.1) j)))

  -- two slots are for two keys
  apart : (s k : ℕ) (it : Slot) (key : Key) → slot s ≡ Some it → it.key ≡ Some key → (s == k) ≡ false
      → holds (is_for (Some key)) (slot k) ≡ false
  apart s k it key there keyed other =
      (λ j. holds (is_for (sym keyed j)) (slot k))
      ∙ not-true (holds (is_for it.key) (slot k))
      (sym (λ j. where_any (λ it. not (holds (is_for it.key) (slot k))) (there j))
      ∙ implied (works m t && not (s == k)) _ ((h.slots_work t s).alone k)
      (and_from (works m t) (not (s == k)) working (λ j. not (other j))))

  -- none below is for the key of this one
  fresh : (s n : ℕ) (it : Slot) (key : Key) → slot s ≡ Some it → it.key ≡ Some key → n ≤ s
      → list_any (λ k. holds (is_for (Some key)) (slot k)) (numbers_below n) ≡ false
  fresh s zero it key there keyed low = refl
  fresh s (suc n) it key there keyed low =
      any_push (λ k. holds (is_for (Some key)) (slot k)) n
      ∙ (λ j. fresh s n it key there keyed (omega (arith, low)) j || apart s n it key there keyed other j)
    where
      other : (s == n) ≡ false
      other = grind (arith, low, eqb_tells s n)

  -- there are no more machines than keys that they are for
  machines_few : (n : ℕ) → sum_by (λ s. one_if (is_some (slot s))) (numbers_below n)
      ≤ count_by (held n) (keys_of task.goal)
  machines_few zero = omega arith
  machines_few (suc n) =
      let push : sum_by (λ s. one_if (is_some (slot s))) (numbers_below (suc n))
      ≡ sum_by (λ s. one_if (is_some (slot s))) (numbers_below n) + one_if (is_some (slot n)) =
      sum_by_push (λ s. one_if (is_some (slot s))) (numbers_below n) n in
      let few : sum_by (λ s. one_if (is_some (slot s))) (numbers_below n) ≤ count_by (held n) (keys_of task.goal) =
      machines_few n in
      let more : count_by (held n) (keys_of task.goal) + one_if (is_some (slot n))
      ≤ count_by (held (suc n)) (keys_of task.goal) = by (slot n) refl in
      omega (arith, push, few, more)
    where
      grows : (work : KeyWork) → held n work ≡ true → held (suc n) work ≡ true
      grows work is =
          any_push (λ s. holds (is_for (Some work.key)) (slot s)) n
          ∙ or_left (held n work) (holds (is_for (Some work.key)) (slot n)) is

      by : (it : Option Slot) → slot n ≡ it
          → count_by (held n) (keys_of task.goal) + one_if (is_some it) ≤ count_by (held (suc n)) (keys_of task.goal)
      by None none =
          let keys : count_by (held n) (keys_of task.goal) ≤ count_by (held (suc n)) (keys_of task.goal) =
          count_low (held n) (held (suc n)) (keys_of task.goal) (λ work isin is. grows work is) in
          omega (arith, keys)
      by (Some it) there =
          let (work, isin, keyed) = work_of n it there in
          count_grows (held n) (held (suc n)) work (keys_of task.goal) isin (λ other is_in is. grows other is)
          (fresh n n it work.key there keyed (omega arith))
          (any_push (λ s. holds (is_for (Some work.key)) (slot s)) n
          ∙ or_right (held n work) (holds (is_for (Some work.key)) (slot n))
          ((λ j. holds (is_for (Some work.key)) (there j))
          ∙ ((λ j. option_eq same_key (Some work.key) (keyed j)) ∙ (same_key_decides work.key work.key).1 refl)))

  -- three calls for each key are enough for the slots
  pub slots_within : most_of_slots m t task ≤ 3 * length (keys_of task.goal)
  slots_within =
      let total : ℕ = length (slots_of task.goal) in
      let each : sum_by (λ s. most m t s (slot s)) (numbers_below (length (slots_of task.goal)))
      ≤ sum_by (λ s. 3 * one_if (is_some (slot s))) (numbers_below (length (slots_of task.goal))) =
      below_low (λ s. most m t s (slot s)) (λ s. 3 * one_if (is_some (slot s))) (length (slots_of task.goal))
      (λ s low. three s (slot s)) in
      let scaled : sum_by (λ s. 3 * one_if (is_some (slot s))) (numbers_below (length (slots_of task.goal)))
      ≡ 3 * sum_by (λ s. one_if (is_some (slot s))) (numbers_below (length (slots_of task.goal))) =
      tripled (λ s. one_if (is_some (slot s))) (numbers_below (length (slots_of task.goal))) in
      let few : sum_by (λ s. one_if (is_some (slot s))) (numbers_below (length (slots_of task.goal)))
      ≤ count_by (held (length (slots_of task.goal))) (keys_of task.goal) =
      machines_few (length (slots_of task.goal)) in
      let both : count_by (is_past m.known t task) (keys_of task.goal)
      + count_by (held (length (slots_of task.goal))) (keys_of task.goal) ≤ length (keys_of task.goal) =
      count_apart (is_past m.known t task) (held (length (slots_of task.goal))) (keys_of task.goal) unheld in
      omega (arith, each, scaled, few, both)
    where
      three : (s : ℕ) (it : Option Slot) → most m t s it ≤ 3 * one_if (is_some it)
      three s (Some it) = most_any m t s (Some it)
      three s None = omega arith

      tripled : (f : ℕ → ℕ) (xs : List ℕ) → sum_by (λ s. 3 * f s) xs ≡ 3 * sum_by f xs
      tripled f [] = refl
      tripled f (x ∷ xs) =
          let rest : sum_by (λ s. 3 * f s) xs ≡ 3 * sum_by f xs = tripled f xs in
          let one : sum_by (λ s. 3 * f s) (x ∷ xs) ≡ 3 * f x + sum_by (λ s. 3 * f s) xs =
          sum_by-cons (λ s. 3 * f s) x xs in
          let two : sum_by f (x ∷ xs) ≡ f x + sum_by f xs = sum_by-cons f x xs in
          omega (arith, rest, one, two)

      unheld : (work : KeyWork) → is_past m.known t task work ≡ true
          → held (length (slots_of task.goal)) work ≡ false
      unheld work past =
          not-true (is_key_held m.known t task work.key)
          (and_parts (is_compiled m.known work.key) (not (is_key_held m.known t task work.key)) past).1

-- each row is one instance
pub rows_counted : (goal : Option Goal) → length (instances_of goal) ≡ length (rows_of goal)
rows_counted (Some goal) = mapped goal.rows
  where
    mapped : (rows : List GoalRow) → length (map inst_of rows) ≡ length rows
    mapped [] = refl
    mapped (row ∷ rows) = let rest : length (map inst_of rows) ≡ length rows = mapped rows in omega (arith, rest)
rows_counted None = refl
