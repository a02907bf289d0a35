-- Tasks as a snapshot lists them: no two open ones have one lock.
use Rattle.std.proofs.Common.{◌≡◌, ◌∙◌, ◌≤◌, ℕ, zero, suc, Bool, true, false, ◌&&◌, ◌||◌, ◌==◌, List, [], ◌∷◌, ◌++◌}
use Rattle.std.proofs.Common.{Option, Some, None, ap, arith, map, refl, sym}
use Rattle.std.specs.Prelude.{is_none, is_some, not}
use Rattle.std.specs.List.{list_all, list_any}
use Rattle.std.specs.Option.{option_eq}
use Rattle.std.specs.Str.{bytes_eq}
use Rattle.std.proofs.lemmas.Bool.{and_from, and_parts, false≢true, le-leb}
use Rattle.std.proofs.lemmas.Bool.Decides.{eqb_tells}
use Rattle.std.proofs.lemmas.List.{map-append}
use Rattle.std.proofs.lemmas.List.Folds.{list_all-map}
use Rattle.bosh_base.specs.Cloud.{numbers_to}
use Rattle.bosh_base.specs.declared.task.TaskRow.{TaskRow}
use Rattle.bosh_history.proofs.BoundLemmas.{each_to}
use Rattle.bosh_history.specs.Held.{is_open}
use Rattle.bosh_history.specs.Known.{Known}
use Rattle.bosh_history.specs.Snapshots.{task_row}
use Rattle.bosh_rows.specs.SoundSnapshot.{has_lock, have_locks_of_their_own}
use Rattle.laws_facts.specs.Tasks.{has_another_lock, is_open_task}
use Rattle.laws_row_facts.specs.Words.{implies}

-- ---- locks

-- the task is not open beside a later one with the same lock
abbrev pub is_locked_out : TaskRow → TaskRow → Bool
is_locked_out later row = not (is_none row.end && has_lock row.dep later)

one_more_lock : (rows : List TaskRow) (later : TaskRow) → have_locks_of_their_own rows ≡ true
    → list_all (is_locked_out later) rows ≡ true → have_locks_of_their_own (rows ++ later ∷ []) ≡ true
one_more_lock [] later apart other = by (is_none later.end)
  where
    by : (b : Bool) → (not (b && false) && true) ≡ true
    by true = refl
    by false = refl
one_more_lock (row ∷ rows) later apart other =
    let (here, rest) = and_parts (not (is_none row.end && list_any (has_lock row.dep) rows))
    (have_locks_of_their_own rows) apart in
    let (out, more) = and_parts (is_locked_out later row) (list_all (is_locked_out later) rows) other in
    and_from (not (is_none row.end && list_any (has_lock row.dep) (rows ++ later ∷ [])))
    (have_locks_of_their_own (rows ++ later ∷ []))
    (ap (λ b. not (is_none row.end && b)) (among rows)
    ∙ neither (is_none row.end) (list_any (has_lock row.dep) rows) (has_lock row.dep later) here out)
    (one_more_lock rows later rest more)
  where
    among : (rows : List TaskRow)
        → list_any (has_lock row.dep) (rows ++ later ∷ [])
        ≡ (list_any (has_lock row.dep) rows || has_lock row.dep later)
    among [] = last (has_lock row.dep later)
      where
        last : (b : Bool) → (b || false) ≡ b
        last true = refl
        last false = refl
    among (first ∷ rows) =
        ap (λ b. has_lock row.dep first || b) (among rows)
        ∙ apart_from (has_lock row.dep first) (list_any (has_lock row.dep) rows) (has_lock row.dep later)
      where
        apart_from : (a b c : Bool) → (a || (b || c)) ≡ ((a || b) || c)
        apart_from true b c = refl
        apart_from false b c = refl

    neither : (is_open among last : Bool) → not (is_open && among) ≡ true → not (is_open && last) ≡ true
        → not (is_open && (among || last)) ≡ true
    neither true true last one other = absurd cc
    neither true false last one other = other
    neither false among last one other = refl

-- ---- what is known

module _ (k : Known) where
  -- a task of a number that was given is open where it has no end
  opened : (t : ℕ) → 1 ≤ t → t ≤ k.tasks → is_open_task k t ≡ is_none (k.task t).end
  opened t low high =
      (λ i. le-leb 1 t low i && (le-leb t k.tasks high i && is_open k t)) ∙ none_is (k.task t).end
    where
      none_is : {A : Type 0} (o : Option A) → not (is_some o) ≡ is_none o
      none_is (Some a) = refl
      none_is None = refl

  module _ (own : (t other : ℕ) → has_another_lock k t other ≡ true) where
    locked_out : (n t : ℕ) → suc n ≤ k.tasks → 1 ≤ t → t ≤ n → is_locked_out (task_row k (suc n)) (task_row k t) ≡ true
    locked_out n t within low high =
        out (is_none (k.task (suc n)).end) (is_none (k.task t).end)
        (option_eq bytes_eq (k.task (suc n)).dep (k.task t).dep) (suc n == t) differ
        ((λ i. implies (sym (opened (suc n) (let e : 1 ≤ suc n = omega arith in e) within) i
        && (sym (opened t low before) i && option_eq bytes_eq (k.task (suc n)).dep (k.task t).dep)) (suc n == t))
        ∙ own (suc n) t)
      where
        before : t ≤ k.tasks
        before = omega arith

        differ : (suc n == t) ≡ false
        differ = grind (arith, eqb_tells (suc n) t, high)

        out : (later first same one : Bool) → one ≡ false → implies (later && (first && same)) one ≡ true
            → not (first && (later && same)) ≡ true
        out true true true one other is = absurd (false≢true (sym other ∙ is))
        out true true false one other is = refl
        out true false same one other is = refl
        out false true same one other is = refl
        out false false same one other is = refl

    pub locks_apart : (n : ℕ) → n ≤ k.tasks → have_locks_of_their_own (map (task_row k) (numbers_to n)) ≡ true
    locks_apart zero within = refl
    locks_apart (suc n) within =
        ap have_locks_of_their_own (map-append (task_row k) (numbers_to n) (suc n ∷ []))
        ∙ one_more_lock (map (task_row k) (numbers_to n)) (task_row k (suc n)) (locks_apart n (omega arith))
        (list_all-map (is_locked_out (task_row k (suc n))) (task_row k) (numbers_to n)
        ∙ each_to (λ t. is_locked_out (task_row k (suc n)) (task_row k t)) n
        (λ t low high. locked_out n t within low high))
