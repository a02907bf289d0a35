-- Deployments that are read from a snapshot, each at its place in it.
use Rattle.std.proofs.Common.{◌≡◌, ◌∙◌, ℕ, ◌+◌, true, List, [], ◌∷◌, ◌++◌, map, Option, Some, None}
use Rattle.std.proofs.Common.{ap, arith, refl, sym}
use Rattle.std.specs.Prelude.{cond, fold, is_some, nat_lt, if◌then◌else◌}
use Rattle.std.specs.BTreeMap.{insert_entry, is_at}
use Rattle.std.specs.List.{AllByRecursion, enumerate_from}
use Rattle.std.specs.Map.{set_value}
use Rattle.std.specs.Option.{option_map_or}
use Rattle.std.specs.Ordering.{is_eq, match_ordering, nat_cmp}
use Rattle.std.specs.declared.cmp.Ordering.{Ordering}
use Rattle.std.specs.declared.cmp.Ordering.TheVariants.{Greater, Less}
use Rattle.std.proofs.lemmas.Bool.{eq-eqb}
use Rattle.std.proofs.lemmas.Bool.Decides.{nat_tests}
use Rattle.std.proofs.lemmas.List.{append-nil, append_assoc}
use Rattle.bosh_base.specs.declared.snapshot.DepRow.{DepRow}
use Rattle.bosh_fold.specs.Anew.{deployment_read}
use Rattle.bosh_records.specs.Changes.{since_cmp}
use Rattle.bosh_records.specs.Table.{found, put_at, thing_in, things, with_room}
use Rattle.bosh_records.specs.declared.records.Since.{Since}
use Rattle.bosh_records.specs.declared.records.Since.TheVariants as sinces
use Rattle.laws_stands_on.proofs.TableLemmas.{nat_at}

-- ---- a key above all others

module _ {K V : Type 0} (cmp : K → K → Ordering) (key : K) (own : is_at (cmp key) key ≡ true) where
  -- the key comes after each of the table
  abbrev pub IsLast : List (K × Option V) → Type 0
  IsLast es = AllByRecursion (λ (e : K × Option V). cmp key e.0 ≡ Greater) es

  none_found : (es : List (K × Option V)) → IsLast es → found cmp es key ≡ None
  none_found [] last = refl
  none_found (e ∷ es) (first, last) = (λ i. cond (is_eq (first i)) (Some e.1) (found cmp es key)) ∙ none_found es last

  inserted : (x : Option V) (es : List (K × Option V)) → IsLast es → insert_entry cmp es key x ≡ es ++ (key, x) ∷ []
  inserted x [] last = refl
  inserted x (e ∷ es) (first, last) =
      (λ i. match_ordering (first i) ((key, x) ∷ e ∷ es) ((e.0, x) ∷ es) (e ∷ insert_entry cmp es key x))
      ∙ ap (λ more. e ∷ more) (inserted x es last)

  found_last : (x : Option V) (es : List (K × Option V)) → IsLast es → found cmp (es ++ (key, x) ∷ []) key ≡ Some x
  found_last x [] last = λ i. cond (own i) (Some x) None
  found_last x (e ∷ es) (first, last) =
      (λ i. cond (is_eq (first i)) (Some e.1) (found cmp (es ++ (key, x) ∷ []) key)) ∙ found_last x es last

  set_last : (x y : Option V) (es : List (K × Option V)) → IsLast es
      → set_value (is_at (cmp key)) (es ++ (key, x) ∷ []) y ≡ es ++ (key, y) ∷ []
  set_last x y [] last = λ i. cond (own i) ((key, y) ∷ []) ((key, x) ∷ [])
  set_last x y (e ∷ es) (first, last) =
      (λ i. cond (is_eq (first i)) ((e.0, y) ∷ es ++ (key, x) ∷ [])
      (e ∷ set_value (is_at (cmp key)) (es ++ (key, x) ∷ []) y))
      ∙ ap (λ more. e ∷ more) (set_last x y es last)

  -- a thing that is put there comes last
  pub put_last : (v : V) (es : List (K × Option V)) → IsLast es
      → put_at cmp key v (with_room cmp key None es) ≡ es ++ (key, Some v) ∷ []
  put_last v es last =
      ap (put_at cmp key v)
      ((λ i. if is_some (none_found es last i) then es else insert_entry cmp es key None) ∙ inserted None es last)
      ∙ (λ i. option_map_or
      (λ (it : Option V). set_value (is_at (cmp key)) (es ++ (key, None) ∷ []) (Some v))
      (found_last None es last i) (es ++ (key, None) ∷ []))
      ∙ set_last None (Some v) es last

-- ---- deployments by their places

-- deployments, each at its place
abbrev pub placed : List (ℕ × DepRow) → List (Since × Option DepRow)
placed rows = map (λ row. (sinces.Snapshot row.0, Some row.1)) rows

-- the place is before a number
abbrev IsBefore : ℕ → Since × Option DepRow → Type 0
IsBefore n e = (m : ℕ) × (e.0 ≡ sinces.Snapshot m) × (nat_lt m n ≡ true)

greater_of : (n m : ℕ) → nat_lt m n ≡ true → nat_cmp n m ≡ Greater
greater_of n m less = grind (arith, less)

all_last : (n : ℕ) (es : List (Since × Option DepRow)) → AllByRecursion (IsBefore n) es
    → AllByRecursion (λ (e : Since × Option DepRow). since_cmp (sinces.Snapshot n) e.0 ≡ Greater) es
all_last n [] before = tt
all_last n (e ∷ es) ((m, at, less), before) =
    (ap (since_cmp (sinces.Snapshot n)) at ∙ greater_of n m less, all_last n es before)

one_before : (n : ℕ) (row : DepRow) (es : List (Since × Option DepRow)) → AllByRecursion (IsBefore n) es
    → AllByRecursion (IsBefore (n + 1)) (es ++ (sinces.Snapshot n, Some row) ∷ [])
one_before n row [] before = ((n, refl, grind (arith, nat_tests)), tt)
one_before n row (e ∷ es) ((m, at, less), before) =
    ((m, at, grind (arith, nat_tests, less)), one_before n row es before)

read_from : (n : ℕ) (rows : List DepRow) (es : List (Since × Option DepRow)) → AllByRecursion (IsBefore n) es
    → fold deployment_read es (enumerate_from n rows) ≡ es ++ placed (enumerate_from n rows)
read_from n [] es before = sym (append-nil es)
read_from n (row ∷ rows) es before =
    ap (λ all. fold deployment_read all (enumerate_from (n + 1) rows))
    (put_last since_cmp (sinces.Snapshot n) (nat_at n n ∙ eq-eqb n n refl) row es (all_last n es before))
    ∙ read_from (n + 1) rows (es ++ (sinces.Snapshot n, Some row) ∷ []) (one_before n row es before)
    ∙ append_assoc es ((sinces.Snapshot n, Some row) ∷ []) (placed (enumerate_from (n + 1) rows))

pub read_are : (rows : List DepRow) → fold deployment_read [] (enumerate_from 0 rows) ≡ placed (enumerate_from 0 rows)
read_are rows = read_from 0 rows [] tt

pub things_placed : (n : ℕ) (rows : List DepRow) → things (placed (enumerate_from n rows)) ≡ rows
things_placed n [] = refl
things_placed n (row ∷ rows) = ap (λ more. row ∷ more) (things_placed (n + 1) rows)

-- none stands at the number of a task
none_at_task : (t n : ℕ) (rows : List DepRow) → thing_in since_cmp (placed (enumerate_from n rows)) (sinces.Task t) ≡ None
none_at_task t n [] = refl
none_at_task t n (row ∷ rows) = none_at_task t (n + 1) rows

pub before_tasks : (t : ℕ) (rows : List DepRow) (since : Since) (row : DepRow)
    → thing_in since_cmp (placed (enumerate_from 0 rows)) since ≡ Some row → since_cmp since (sinces.Task t) ≡ Less
before_tasks t rows (sinces.Snapshot n) row is = refl
before_tasks t rows (sinces.Task other) row is =
    absurd (let e : None ≡ Some row = sym (none_at_task other 0 rows) ∙ is in cc)
