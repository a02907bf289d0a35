-- What the set of pairs says of keys and numbers.
use Rattle.std.proofs.Common.{◌≡◌, ℕ, ◌≤◌, Bool, true, false, List, [], ◌∷◌, refl, sym, ◌∙◌, ap, arith, Ordering, Option, Some, None, cond, inl, inr, Bor}
use Rattle.std.specs.Prelude.{◌&&◌, ◌||◌, not, slice_get, IsTrue}
use Rattle.std.specs.List.{list_any}
use Rattle.std.specs.Option.{MatchOption, option_copied}
use Rattle.std.specs.Ordering.{is_eq, is_gt, nat_cmp, ordering_then}
use Rattle.std.specs.BTreeSet.{BTreeSet, IsKeyRangeOf}
use Rattle.std.specs.declared.ops.Bound.TheVariants.{Included, Unbounded}
use Rattle.std.proofs.lemmas.Bool.{cases_lt}
use Rattle.bosh_key_index.specs.Listed.{is_pair, is_listed, Adds, Removes, IsFirstFrom, IsUpTo}

-- the order of pairs
abbrev pub pair_cmp : ℕ × ℕ → ℕ × ℕ → Ordering
pair_cmp x y = ordering_then (nat_cmp x.0 y.0) (nat_cmp x.1 y.1)

pub is_at_pair : (key number : ℕ) (pair : ℕ × ℕ) → is_eq (pair_cmp (key, number) pair) ≡ is_pair key number pair
is_at_pair key number pair = grind (arith)

pub listed : (index : List (ℕ × ℕ)) (key number : ℕ) →
    list_any (λ pair. is_eq (pair_cmp (key, number) pair)) index ≡ is_listed index key number
listed index key number = ap (λ (test : ℕ × ℕ → Bool). list_any test index) (λ i pair. is_at_pair key number pair i)

pub Adds-inserted : (was now : List (ℕ × ℕ)) (key number : ℕ) →
    ((q : ℕ × ℕ) → list_any (λ pair. is_eq (pair_cmp q pair)) now
    ≡ cond (is_eq (pair_cmp (key, number) q)) true (list_any (λ pair. is_eq (pair_cmp q pair)) was)) →
    Adds was key number now
Adds-inserted was now key number is k n =
    sym (listed now k n) ∙ is (k, n)
    ∙ (λ i. cond (is_at_pair key number (k, n) i) true (listed was k n i))
    ∙ either (is_pair key number (k, n)) (is_listed was k n)
  where
    either : (a b : Bool) → cond a true b ≡ (a || b)
    either true b = refl
    either false b = refl

pub Removes-removed : (was now : List (ℕ × ℕ)) (key number : ℕ) →
    ((q : ℕ × ℕ) → list_any (λ pair. is_eq (pair_cmp q pair)) now
    ≡ cond (is_eq (pair_cmp (key, number) q)) false (list_any (λ pair. is_eq (pair_cmp q pair)) was)) →
    Removes was key number now
Removes-removed was now key number is k n =
    sym (listed now k n) ∙ is (k, n)
    ∙ (λ i. cond (is_at_pair key number (k, n) i) false (listed was k n i))
    ∙ neither (is_pair key number (k, n)) (is_listed was k n)
  where
    neither : (a b : Bool) → cond a false b ≡ (not a && b)
    neither true b = refl
    neither false b = refl

pub up_to : (pair other : ℕ × ℕ) → is_gt (pair_cmp pair other) ≡ false → IsUpTo pair other
up_to pair other is = elim (cases_lt pair.0 other.0) [
  | inl less ↦ inl less
  | inr at_least ↦ inr (grind (arith, is, at_least), grind (arith, is, at_least))
]

pub from_start : (key k n : ℕ) → key ≤ k → is_gt (pair_cmp (key, 0) (k, n)) ≡ false
from_start key k n le = grind (arith, le)

pub start_from : (key : ℕ) (pair : ℕ × ℕ) → is_gt (pair_cmp (key, 0) pair) ≡ false → key ≤ pair.0
start_from key pair is = grind (arith, is)

pub IsFirstFrom-range : (set : BTreeSet (ℕ × ℕ)) (key : ℕ) (range : List (ℕ × ℕ)) →
    IsKeyRangeOf pair_cmp (Included (key, 0)) Unbounded set range → IsFirstFrom set.keys key (slice_get range 0)
IsFirstFrom-range set key [] is = λ k n from. sym (listed set.keys k n) ∙ is.5 refl (k, n) (from_start key k n from, tt)
IsFirstFrom-range set key (first ∷ rest) is = (
  sym (listed set.keys first.0 first.1) ∙ is_true is.1.1,
  start_from key first is.1.0.0,
  λ k n from there. up_to first (k, n)
      (is.2 (k, n) (from_start key k n from, tt) (true_is (listed set.keys k n ∙ there))),
)
  where
    is_true : {b : Bool} → IsTrue b → b ≡ true
    is_true is = grind (arith, is)

    true_is : {b : Bool} → b ≡ true → IsTrue b
    true_is is = grind (arith, is)

-- the pair that a range gives first
pub first_given : (range rest : List (ℕ × ℕ)) (next : Option (Bor (ℕ × ℕ))) →
    MatchOption next ((range ≡ []) × (rest ≡ [])) (λ pair. range ≡ pair.now ∷ rest) →
    slice_get range 0 ≡ option_copied next
first_given range rest None is = ap (λ (list : List (ℕ × ℕ)). slice_get list 0) is.0
first_given range rest (Some pair) is = ap (λ (list : List (ℕ × ℕ)). slice_get list 0) is
