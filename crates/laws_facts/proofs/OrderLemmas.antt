-- Lists in order: an item comes to its place, and an item goes.
use Rattle.std.proofs.Common.{◌≡◌, Bool, true, false, List, [], ◌∷◌, refl, ap, arith}
use Rattle.std.specs.Prelude.{◌||◌, not, if◌then◌else◌}
use Rattle.std.specs.Cmp.{IsTotalOrder}
use Rattle.std.specs.List.{list_any}
use Rattle.std.proofs.lemmas.Bool.{and_from, and_parts}
use Rattle.std.specs.declared.cmp.Ordering.{Ordering}
use Rattle.std.specs.declared.cmp.Ordering.TheVariants.{Less, Equal, Greater}
use Rattle.laws_facts.proofs.ListLemmas.{Tells}
use Rattle.laws_row_facts.specs.Words.{are_ascending, is_below}
use Rattle.bosh_rows.specs.SoundSnapshot.{are_distinct, is_less}
use Rattle.bosh_history.specs.Words.{all_inserted, by_order, inserted, is_among, without}

is_less_says : (o : Ordering) → is_less o ≡ true → o ≡ Less
is_less_says Less is = refl
is_less_says Equal is = absurd cc
is_less_says Greater is = absurd cc

-- a test that does not tell equal items apart
module _ {A : Type 0} (cmp : A → A → Ordering) (test : A → Bool)
    (alike : (a b : A) → cmp a b ≡ Equal → test a ≡ test b) where
  -- finds what comes to its place
  pub any_inserted : (a : A) (items : List A)
      → list_any test (inserted cmp a items) ≡ (test a || list_any test items)
  any_inserted a [] = refl
  any_inserted a (b ∷ items) = by (cmp a b) refl (any_inserted a items)
    where
      by : (o : Ordering) → cmp a b ≡ o → list_any test (inserted cmp a items) ≡ (test a || list_any test items)
          → list_any test (by_order o (a ∷ b ∷ items) (a ∷ items) (b ∷ inserted cmp a items)) ≡
          (test a || (test b || list_any test items))
      by Less is before = refl
      by Equal is before = grind (arith, alike a b is)
      by Greater is before = grind (arith, before)

  -- .. and each of those that do
  pub any_all_inserted : (more items : List A)
      → list_any test (all_inserted cmp more items) ≡ (list_any test more || list_any test items)
  any_all_inserted [] items = refl
  any_all_inserted (a ∷ more) items =
      grind (arith, any_all_inserted more (inserted cmp a items), any_inserted a items)

module _ {A : Type 0} (cmp : A → A → Ordering) (total : IsTotalOrder cmp) (same : A → A → Bool)
    (tells : (a b : A) → Tells same a b) (equal : (a b : A) → cmp a b ≡ Equal → a ≡ b) where
  less_trans : (x y z : A) → is_less (cmp x y) ≡ true → is_less (cmp y z) ≡ true → is_less (cmp x z) ≡ true
  less_trans x y z xy yz = grind (arith, total.trans x y z, is_less_says (cmp x y), is_less_says (cmp y z), xy, yz)

  -- what comes to its place is there
  pub among_inserted : (x a : A) (items : List A)
      → is_among same x (inserted cmp a items) ≡ (is_among same x items || same x a)
  among_inserted x a items =
      grind (arith, any_inserted cmp (same x) (λ b c is. ap (same x) (equal b c is)) a items)

  below_inserted : (b a : A) (items : List A) → cmp a b ≡ Greater → is_below cmp b items ≡ true
      → is_below cmp b (inserted cmp a items) ≡ true
  below_inserted b a [] greater below = grind (arith, total.antisymm a b, greater)
  below_inserted b a (c ∷ items) greater below = by (cmp a c)
    where
      by : (o : Ordering) → is_below cmp b (by_order o (a ∷ c ∷ items) (a ∷ items) (c ∷ inserted cmp a items)) ≡ true
      by Less = grind (arith, total.antisymm b a, greater)
      by Equal = grind (arith, total.antisymm b a, greater)
      by Greater = below

  -- the list stays in order where an item comes to its place
  pub ascending_inserted : (a : A) (items : List A) → are_ascending cmp items ≡ true
      → are_ascending cmp (inserted cmp a items) ≡ true
  ascending_inserted a [] ascending = refl
  ascending_inserted a (b ∷ items) ascending = by (cmp a b) refl (ascending_inserted a items)
    where
      by : (o : Ordering) → cmp a b ≡ o
          → (are_ascending cmp items ≡ true → are_ascending cmp (inserted cmp a items) ≡ true)
          → are_ascending cmp (by_order o (a ∷ b ∷ items) (a ∷ items) (b ∷ inserted cmp a items)) ≡ true
      by Less is before = grind (arith, is, ascending)
      by Equal is before = grind (arith, equal a b is, ascending)
      by Greater is before = grind (arith, ascending, before, below_inserted b a items is)

  -- what is below the first of a list is below what follows it
  below_next : (x y : A) (items : List A) → is_less (cmp x y) ≡ true → are_ascending cmp (y ∷ items) ≡ true
      → is_below cmp x items ≡ true
  below_next x y [] less ascending = refl
  below_next x y (z ∷ items) less ascending = less_trans x y z less (grind (arith, ascending))

  below_without : (b a : A) (items : List A) → is_below cmp b items ≡ true → are_ascending cmp items ≡ true
      → is_below cmp b (without same a items) ≡ true
  below_without b a [] below ascending = refl
  below_without b a (c ∷ items) below ascending = by (same a c) (below_without b a items)
    where
      by : (is : Bool)
          → (is_below cmp b items ≡ true → are_ascending cmp items ≡ true
          → is_below cmp b (without same a items) ≡ true)
          → is_below cmp b (if is then without same a items else c ∷ without same a items) ≡ true
      by true before = before (below_next b c items below ascending) (grind (arith, ascending))
      by false before = below

  -- .. and where an item goes
  pub ascending_without : (a : A) (items : List A) → are_ascending cmp items ≡ true
      → are_ascending cmp (without same a items) ≡ true
  ascending_without a [] ascending = refl
  ascending_without a (b ∷ items) ascending = by (same a b) (ascending_without a items)
    where
      by : (is : Bool) → (are_ascending cmp items ≡ true → are_ascending cmp (without same a items) ≡ true)
          → are_ascending cmp (if is then without same a items else b ∷ without same a items) ≡ true
      by true before = before (grind (arith, ascending))
      by false before = grind (arith, ascending, before, below_without b a items)

  -- what is below a list in order is not in it
  below_apart : (x : A) (items : List A) → is_below cmp x items ≡ true → are_ascending cmp items ≡ true
      → is_among same x items ≡ false
  below_apart x [] below ascending = refl
  below_apart x (y ∷ items) below ascending =
      grind (
        arith,
        tells x y,
        total.antisymm x x,
        below,
        below_apart x items (below_next x y items below ascending) (grind (arith, ascending)),
      )

  -- no item of a list in order stands twice
  pub distinct_ascending : (items : List A) → are_ascending cmp items ≡ true → are_distinct same items ≡ true
  distinct_ascending [] ascending = refl
  distinct_ascending (x ∷ items) ascending =
      let parts : (is_below cmp x items ≡ true) × (are_ascending cmp items ≡ true) =
      and_parts (is_below cmp x items) (are_ascending cmp items) ascending in
      and_from (not (list_any (same x) items)) (are_distinct same items)
      (ap not (below_apart x items parts.0 parts.1)) (distinct_ascending items parts.1)
