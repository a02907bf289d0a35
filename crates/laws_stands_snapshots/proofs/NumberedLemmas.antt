-- Tasks that are read from a snapshot: they are counted, and each stands at its number.
use Rattle.std.proofs.Common.{◌≡◌, ◌∙◌, ◌≤◌, ℕ, ◌+◌, suc, Bool, true, false, ◌&&◌, ◌||◌, ◌==◌, List, [], ◌∷◌, Option}
use Rattle.std.proofs.Common.{Some, None, ap, arith, refl}
use Rattle.std.specs.Prelude.{eqb, find, fold, is_some, length, min, nat_le, nat_lt, not, if◌then◌else◌}
use Rattle.std.specs.List.{list_any}
use Rattle.std.specs.Ordering.{nat_cmp}
use Rattle.std.proofs.lemmas.Bool.{and_from, and_parts, eqb-true}
use Rattle.std.proofs.lemmas.Bool.Decides.{nat_tests}
use Rattle.bosh_base.specs.declared.task.TaskRow.{TaskRow}
use Rattle.bosh_fold.specs.Anew.{task_read, tasks_read}
use Rattle.bosh_records.specs.Recorded.{Recorded}
use Rattle.bosh_records.specs.Table.{put_at, with_room}
use Rattle.bosh_rows.specs.SoundSnapshot.{are_distinct, are_numbered}

-- one task more is counted
abbrev pub one_more : ℕ → TaskRow → ℕ
one_more n row = min (n + 1) 18446744073709551615

-- a task at its number
abbrev pub task_placed : List (ℕ × Option TaskRow) → TaskRow → List (ℕ × Option TaskRow)
task_placed tasks row = put_at nat_cmp row.task row (with_room nat_cmp row.task None tasks)

pub read_are : (rows : List TaskRow) (it : Recorded)
    → tasks_read rows it
    ≡ record it {
      came = record it.came { opened = fold one_more it.came.opened rows };
      tasks = fold task_placed it.tasks rows;
    }
read_are [] it = refl
read_are (row ∷ rows) it = read_are rows (task_read it row)

pub opened_are : (n : ℕ) (rows : List TaskRow) → n + length rows ≤ 18446744073709551615
    → fold one_more n rows ≡ n + length rows
opened_are n [] small = let e : n ≡ n + 0 = omega arith in e
opened_are n (row ∷ rows) small =
    let e : min (n + 1) 18446744073709551615 ≡ n + 1 = omega arith in
    let less : (n + 1) + length rows ≤ 18446744073709551615 = omega arith in
    let more : (n + 1) + length rows ≡ n + suc (length rows) = omega arith in
    ap (λ m. fold one_more m rows) e ∙ opened_are (n + 1) rows less ∙ more

none_low : (last t : ℕ) (rows : List TaskRow) → are_numbered last rows ≡ true → nat_le t last ≡ true
    → list_any (λ (row : TaskRow). eqb t row.task) rows ≡ false
none_low last t [] numbered low = refl
none_low last t (row ∷ rows) numbered low =
    let (here, rest) = and_parts (row.task == last + 1) (are_numbered row.task rows) numbered in
    let is : row.task ≡ last + 1 = eqb-true row.task (last + 1) here in
    (λ i. other is i || list_any (λ (row : TaskRow). eqb t row.task) rows)
    ∙ none_low row.task t rows rest (grind (arith, nat_tests, is, low))
  where
    other : row.task ≡ last + 1 → eqb t row.task ≡ false
    other is = grind (arith, nat_tests, is, low)

pub numbered_apart : (last : ℕ) (rows : List TaskRow) → are_numbered last rows ≡ true
    → are_distinct (λ (a b : TaskRow). eqb a.task b.task) rows ≡ true
numbered_apart last [] numbered = refl
numbered_apart last (row ∷ rows) numbered =
    let (here, rest) = and_parts (row.task == last + 1) (are_numbered row.task rows) numbered in
    and_from (not (list_any (λ (other : TaskRow). eqb row.task other.task) rows))
    (are_distinct (λ (a b : TaskRow). eqb a.task b.task) rows)
    (ap not (none_low row.task row.task rows rest (grind (arith, nat_tests)))) (numbered_apart row.task rows rest)

pub numbered_found : (last : ℕ) (rows : List TaskRow) → are_numbered last rows ≡ true → (t : ℕ)
    → is_some (find (λ (row : TaskRow). eqb row.task t) rows) ≡ (nat_lt last t && nat_le t (last + length rows))
numbered_found last [] numbered t = grind (arith, nat_tests)
numbered_found last (row ∷ rows) numbered t =
    let (here, rest) = and_parts (row.task == last + 1) (are_numbered row.task rows) numbered in
    by (eqb row.task t) refl (eqb-true row.task (last + 1) here) (numbered_found row.task rows rest t)
  where
    by : (b : Bool) → eqb row.task t ≡ b → row.task ≡ last + 1
        → is_some (find (λ (row : TaskRow). eqb row.task t) rows)
        ≡ (nat_lt row.task t && nat_le t (row.task + length rows))
        → is_some (if eqb row.task t then Some row else find (λ (row : TaskRow). eqb row.task t) rows)
        ≡ (nat_lt last t && nat_le t (last + suc (length rows)))
    by true one is more =
        (λ i. is_some (if one i then Some row else find (λ (row : TaskRow). eqb row.task t) rows))
        ∙ first (eqb-true row.task t one)
      where
        first : row.task ≡ t → true ≡ (nat_lt last t && nat_le t (last + suc (length rows)))
        first at = grind (arith, nat_tests, is, at)
    by false other is more =
        (λ i. is_some (if other i then Some row else find (λ (row : TaskRow). eqb row.task t) rows))
        ∙ more ∙ grind (arith, nat_tests, is, other)
