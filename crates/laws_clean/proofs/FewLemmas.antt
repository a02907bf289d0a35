-- By the facts on a clean task, each of its instances and each machine that it sweeps has few calls.
use Rattle.std.proofs.Common.{◌≡◌, ◌∙◌, ℕ, ◌+◌, ◌≤◌, Bool, true, false, Option, Some, None, List, [], ◌∷◌, ◌++◌}
use Rattle.std.proofs.Common.{arith, inl, inr, refl, subst, sym}
use Rattle.std.specs.Prelude.{◌*◌, find, if◌then◌else◌, is_some, length, map, nat_le}
use Rattle.std.specs.Prelude.{not, sum_by}
use Rattle.std.proofs.lemmas.Bool.{false≢true, le-leb, leb-true, or_left, or_right}
use Rattle.std.proofs.lemmas.Bool.Decides.{eqb_tells}
use Rattle.std.proofs.lemmas.List.Sums.{sum_by-append}
use Rattle.bosh_base.specs.Cloud.{numbers_to}
use Rattle.bosh_base.specs.declared.digest.Digest.{Digest}
use Rattle.bosh_base.specs.declared.goal.Goal.{Goal}
use Rattle.bosh_base.specs.declared.goal.GoalRow.{GoalRow}
use Rattle.bosh_base.specs.declared.inst.Inst.{Inst}
use Rattle.bosh_base.specs.declared.key.KeyWork.{KeyWork}
use Rattle.bosh_base.specs.declared.owner.Owner.{Owner}
use Rattle.bosh_base.specs.declared.owner.Owner.TheVariants.{Instance}
use Rattle.bosh_history.specs.Goals.{inst_of, instances_of, is_in}
use Rattle.bosh_history.specs.Known.{SlotName, Task, want_in}
use Rattle.bosh_history.specs.Moments.{Moment, OpenCall}
use Rattle.bosh_history.specs.Orders.{same_slot}
use Rattle.bosh_history.specs.Steps.{is_idle, is_owners}
use Rattle.bosh_history.specs.Items.{is_to_ping}
use Rattle.bosh_history.specs.Words.{holds}
use Rattle.bosh_rows.proofs.SameLemmas.{itself}
use Rattle.bosh_rows.specs.Same.{same_inst}
use Rattle.bosh_rows.specs.Tied.{one_if}
use Rattle.laws_clean.specs.Few.{most_of_task}
use Rattle.laws_counts.specs.Counts.{CleanFacts, SweepFacts, budgeted, is_sweeping_in_two, most_of_slots}
use Rattle.laws_counts.specs.Counts.{own_slots, owner_of}
use Rattle.laws_counts.specs.Counts.{to_come, to_come_after}
use Rattle.laws_counts.specs.Courses.{Account}
use Rattle.laws_counts.specs.RowSteps.{StepFacts, is_extra}
use Rattle.laws_heard.proofs.AnswerLemmas.{implied}
use Rattle.laws_items.proofs.ListLemmas.{Meets, any_in, some_fails}
use Rattle.laws_items.specs.Lists.{IsIn}
use Rattle.laws_row_facts.specs.Words.{where_any}
use Rattle.laws_rows.proofs.RoomLemmas.{few_calls}

one_most : (b : Bool) → one_if b ≤ 1
one_most true = omega arith
one_most false = omega arith

-- ---- an instance

twice : (b : Bool) → not (not b) ≡ true → b ≡ true
twice true is = refl
twice false is = is

-- an owner that is not idle has an open call
busy_by : (m : Moment) (owner : Owner) → is_idle m owner ≡ false
    → (n : ℕ) × (holds (is_owners owner) (m.calls n) ≡ true)
busy_by m owner busy =
    let one : Meets (λ n. not (not (holds (is_owners owner) (m.calls n)))) (numbers_to m.known.last_call) =
    some_fails (λ n. not (holds (is_owners owner) (m.calls n))) (numbers_to m.known.last_call) busy in
    (one.x, twice (holds (is_owners owner) (m.calls one.x)) one.meets)

row_few : (built : KeyWork → List Digest → Digest) (m : Moment) (t : Task) (it : Account) (i : Inst)
    → StepFacts built m t it i → it.made (Instance i) ≤ 36
row_few built m t it i f = by (is_idle m (Instance i)) refl
  where
    steps : length (it.steps i) ≤ 32
    steps = few_calls built (want_in t.goal i) (it.first i) (it.steps i) f.sound f.room f.answered

    asked : one_if (not (is_to_ping t i)) ≤ 1
    asked = one_most (not (is_to_ping t i))

    of : (n : ℕ) (call : Option OpenCall) → m.calls n ≡ call → holds (is_owners (Instance i)) call ≡ true
        → it.made (Instance i) ≤ 36
    of n (Some call) is own =
        let few : it.made (Instance i) ≤ length (it.steps i) + one_if (not (is_to_ping t i)) + one_if (is_extra call) =
        leb-true (it.made (Instance i)) (length (it.steps i) + one_if (not (is_to_ping t i)) + one_if (is_extra call))
        (f.in_call n call is own).few in
        let extra : one_if (is_extra call) ≤ 1 = one_most (is_extra call) in
        omega (arith, few, steps, asked, extra)
    of n None is own = absurd (false≢true own)

    by : (idle : Bool) → is_idle m (Instance i) ≡ idle → it.made (Instance i) ≤ 36
    by true idle =
        let few : it.made (Instance i) ≤ length (it.steps i) + one_if (not (is_to_ping t i)) =
        leb-true (it.made (Instance i)) (length (it.steps i) + one_if (not (is_to_ping t i))) (f.few idle) in
        omega (arith, few, steps, asked)
    by false busy =
        let (n, own) = busy_by m (Instance i) busy in of n (m.calls n) refl own

-- ---- a machine that is swept

swept_few : (m : Moment) (t : ℕ) (it : Account) (name : SlotName) → SweepFacts m t it name
    → it.made (owner_of name) ≤ 3
swept_few m t it name f = by (is_idle m (owner_of name)) refl
  where
    low : (more : ℕ) → nat_le (it.made (owner_of name) + more) 2 ≡ true → it.made (owner_of name) ≤ 3
    low more is = let most : it.made (owner_of name) + more ≤ 2 = leb-true _ 2 is in omega (arith, most)

    of : (n : ℕ) (call : Option OpenCall) → m.calls n ≡ call → holds (is_owners (owner_of name)) call ≡ true
        → it.made (owner_of name) ≤ 3
    of n (Some call) is own =
        low (to_come_after call.begin.call)
        (implied (is_owners (owner_of name) call) _
        (sym (λ j. where_any (is_sweeping_in_two it name) (is j)) ∙ f.calling n) own)
    of n None is own = absurd (false≢true own)

    by : (idle : Bool) → is_idle m (owner_of name) ≡ idle → it.made (owner_of name) ≤ 3
    by true idle =
        low (to_come (m.known.slot name.task name.slot)) (implied (is_idle m (owner_of name)) _ f.idle idle)
    by false busy = let (n, own) = busy_by m (owner_of name) busy in of n (m.calls n) refl own

same_slot_itself : (name : SlotName) → same_slot name name ≡ true
same_slot_itself name = grind (arith, eqb_tells name.task name.task, eqb_tells name.slot name.slot)

-- ---- sums

sum_rows : (f : Owner → ℕ) (xs : List Inst) → ((i : Inst) → IsIn i xs → f (Instance i) ≤ 36)
    → sum_by f (map Instance xs) ≤ 36 * length xs
sum_rows f [] each = omega arith
sum_rows f (x ∷ xs) each =
    let one : f (Instance x) ≤ 36 = each x (inl refl) in
    let rest : sum_by f (map Instance xs) ≤ 36 * length xs = sum_rows f xs (λ i isin. each i (inr isin)) in
    let split : sum_by f (map Instance (x ∷ xs)) ≡ 0 + f (Instance x) + sum_by f (map Instance xs) =
    sum_by-append f (Instance x ∷ []) (map Instance xs) in
    omega (arith, one, rest, split)

sum_swept : (f : Owner → ℕ) (xs : List SlotName) → ((name : SlotName) → IsIn name xs → f (owner_of name) ≤ 3)
    → sum_by f (map owner_of xs) ≤ 3 * length xs
sum_swept f [] each = omega arith
sum_swept f (x ∷ xs) each =
    let one : f (owner_of x) ≤ 3 = each x (inl refl) in
    let rest : sum_by f (map owner_of xs) ≤ 3 * length xs = sum_swept f xs (λ i isin. each i (inr isin)) in
    let split : sum_by f (map owner_of (x ∷ xs)) ≡ 0 + f (owner_of x) + sum_by f (map owner_of xs) =
    sum_by-append f (owner_of x ∷ []) (map owner_of xs) in
    omega (arith, one, rest, split)

sum_four : (f : Owner → ℕ) (a b c d : List Owner)
    → sum_by f (a ++ b ++ c ++ d) ≡ sum_by f a + sum_by f b + sum_by f c + sum_by f d
sum_four f a b c d =
    sum_by-append f (a ++ b ++ c) d
    ∙ (λ j. (sum_by-append f (a ++ b) c ∙ (λ l. sum_by-append f a b l + sum_by f c)) j + sum_by f d)

-- ---- the task

mapped_in : (i : Inst) (rows : List GoalRow) → IsIn i (map inst_of rows)
    → is_some (find (λ want. same_inst i want.inst) rows) ≡ true
mapped_in i [] isin = absurd isin
mapped_in i (row ∷ rows) isin = by (same_inst i row.inst) refl isin (mapped_in i rows)
  where
    by : (b : Bool) → same_inst i row.inst ≡ b → IsIn i (map inst_of (row ∷ rows))
        → (IsIn i (map inst_of rows) → is_some (find (λ want. same_inst i want.inst) rows) ≡ true)
        → is_some (if b then Some row else find (λ want. same_inst i want.inst) rows) ≡ true
    by true same isin more = refl
    by false other (inl here) more = absurd (false≢true (sym other ∙ ((λ j. same_inst i (here j)) ∙ itself i)))
    by false other (inr isin) more = more isin

of_goal : (goal : Option Goal) (i : Inst) → IsIn i (instances_of goal) → is_in goal i ≡ true
of_goal (Some goal) i isin = mapped_in i goal.rows isin
of_goal None i isin = absurd isin

module _ (built : KeyWork → List Digest → Digest) (m : Moment) (t : ℕ) (it : Account)
    (facts : CleanFacts built m t it) where
  abbrev task : Task
  task = m.known.task t

  total : sum_by it.made (budgeted t task it) ≤ most_of_task m t task it
  total =
      let rows : sum_by it.made (map Instance (instances_of task.goal)) ≤ 36 * length (instances_of task.goal) =
      sum_rows it.made (instances_of task.goal)
      (λ i isin. row_few built m task it i
      (facts.steps i (or_left (is_in task.goal i) _ (of_goal task.goal i isin)))) in
      let leaving : sum_by it.made (map Instance task.obsolete) ≤ 36 * length task.obsolete =
      sum_rows it.made task.obsolete
      (λ i isin. row_few built m task it i
      (facts.steps i (or_right (is_in task.goal i) _ (any_in (same_inst i) i task.obsolete isin (itself i))))) in
      let slots : sum_by it.made (own_slots t task) ≤ most_of_slots m t task =
      leb-true (sum_by it.made (own_slots t task)) (most_of_slots m t task) facts.slots_few in
      let swept : sum_by it.made (map owner_of it.left_over) ≤ 3 * length it.left_over =
      sum_swept it.made it.left_over
      (λ name isin. swept_few m t it name
      (facts.sweep name (any_in (same_slot name) name it.left_over isin (same_slot_itself name)))) in
      subst (λ (n : ℕ). n ≤ most_of_task m t task it)
      (sym (sum_four it.made (map Instance (instances_of task.goal)) (map Instance task.obsolete) (own_slots t task)
      (map owner_of it.left_over)))
      (omega (arith, rows, leaving, slots, swept))

  -- the calls that it made are those of these
  pub calls_few : holds (λ n. nat_le n (most_of_task m t task it)) task.calls ≡ true
  calls_few = by task.calls refl facts.all_counted
    where
      by : (calls : Option ℕ) → task.calls ≡ calls
          → holds (λ n. nat_le n (sum_by it.made (budgeted t task it))) calls ≡ true
          → holds (λ n. nat_le n (most_of_task m t task it)) calls ≡ true
      by (Some n) is few =
          let low : n ≤ sum_by it.made (budgeted t task it) = leb-true n (sum_by it.made (budgeted t task it)) few in
          let all : sum_by it.made (budgeted t task it) ≤ most_of_task m t task it = total in
          le-leb n (most_of_task m t task it) (omega (arith, low, all))
      by None is few = absurd (false≢true few)
