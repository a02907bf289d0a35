-- Lists in which an item comes to its place that was not there.
use Rattle.std.proofs.Common.{◌≡◌, ◌∙◌, ◌+◌, ◌≤◌, ℕ, Bool, true, false, List, [], ◌∷◌, ap, arith, refl, sym}
use Rattle.std.specs.Prelude.{◌||◌, cond, count_by, filter, if◌then◌else◌, length}
use Rattle.std.specs.List.{list_any}
use Rattle.std.proofs.lemmas.Bool.{or_parts, true≢false}
use Rattle.std.proofs.lemmas.List.Sums.{sum_by-cons}
use Rattle.std.specs.declared.cmp.Ordering.{Ordering}
use Rattle.std.specs.declared.cmp.Ordering.TheVariants.{Equal, Greater, Less}
use Rattle.bosh_history.specs.Words.{by_order, inserted, is_among}

-- a test that is as another one of each item but one, which is not there
module _ {A : Type 0} (same : A → A → Bool) (a : A) (p q : A → Bool) (alike : (b : A) → same a b ≡ false → p b ≡ q b) where
  pub any_but : (xs : List A) → is_among same a xs ≡ false → list_any p xs ≡ list_any q xs
  any_but [] none = refl
  any_but (b ∷ xs) none =
      let parts : (same a b ≡ false) × (is_among same a xs ≡ false) = or_parts (same a b) (is_among same a xs) none in
      λ j. alike b parts.0 j || any_but xs parts.1 j

  pub filter_but : (xs : List A) → is_among same a xs ≡ false → filter p xs ≡ filter q xs
  filter_but [] none = refl
  filter_but (b ∷ xs) none =
      let parts : (same a b ≡ false) × (is_among same a xs ≡ false) = or_parts (same a b) (is_among same a xs) none in
      λ j. if alike b parts.0 j then b ∷ filter_but xs parts.1 j else filter_but xs parts.1 j

module _ {A : Type 0} (cmp : A → A → Ordering) (same : A → A → Bool)
    (equal : (a b : A) → cmp a b ≡ Equal → same a b ≡ true) (a : A) where
  never_equal : (b : A) → same a b ≡ false → cmp a b ≡ Equal → ⊥
  never_equal b apart is = true≢false (sym (equal a b is) ∙ apart)

  -- what does not pass a test is not kept
  pub filter_inserted : (p : A → Bool) → p a ≡ false → (xs : List A) → is_among same a xs ≡ false
      → filter p (inserted cmp a xs) ≡ filter p xs
  filter_inserted p none [] away = λ j. if none j then a ∷ [] else []
  filter_inserted p none (b ∷ xs) away =
      let parts : (same a b ≡ false) × (is_among same a xs ≡ false) = or_parts (same a b) (is_among same a xs) away in
      by (cmp a b) refl parts.0 (filter_inserted p none xs parts.1)
    where
      by : (o : Ordering) → cmp a b ≡ o → same a b ≡ false → filter p (inserted cmp a xs) ≡ filter p xs
          → filter p (by_order o (a ∷ b ∷ xs) (a ∷ xs) (b ∷ inserted cmp a xs)) ≡ filter p (b ∷ xs)
      by Less is apart more = λ j. if none j then a ∷ filter p (b ∷ xs) else filter p (b ∷ xs)
      by Equal is apart more = absurd (never_equal b apart is)
      by Greater is apart more = λ j. if p b then b ∷ more j else more j

  -- one more is counted, where it passes
  pub count_inserted : (p : A → Bool) (xs : List A) → is_among same a xs ≡ false
      → count_by p (inserted cmp a xs) ≡ cond (p a) 1 0 + count_by p xs
  count_inserted p [] away = first a []
    where
      first : (b : A) (xs : List A) → count_by p (b ∷ xs) ≡ cond (p b) 1 0 + count_by p xs
      first b xs = sum_by-cons (λ b. cond (p b) 1 0) b xs
  count_inserted p (b ∷ xs) away =
      let parts : (same a b ≡ false) × (is_among same a xs ≡ false) = or_parts (same a b) (is_among same a xs) away in
      by (cmp a b) refl parts.0 (count_inserted p xs parts.1)
    where
      first : (b : A) (xs : List A) → count_by p (b ∷ xs) ≡ cond (p b) 1 0 + count_by p xs
      first b xs = sum_by-cons (λ b. cond (p b) 1 0) b xs

      swap : (x y z : ℕ) → x + (y + z) ≡ y + (x + z)
      swap x y z = omega arith

      by : (o : Ordering) → cmp a b ≡ o → same a b ≡ false
          → count_by p (inserted cmp a xs) ≡ cond (p a) 1 0 + count_by p xs
          → count_by p (by_order o (a ∷ b ∷ xs) (a ∷ xs) (b ∷ inserted cmp a xs))
          ≡ cond (p a) 1 0 + count_by p (b ∷ xs)
      by Less is apart more = first a (b ∷ xs)
      by Equal is apart more = absurd (never_equal b apart is)
      by Greater is apart more =
          first b (inserted cmp a xs) ∙ ap (λ n. cond (p b) 1 0 + n) more
          ∙ swap (cond (p b) 1 0) (cond (p a) 1 0) (count_by p xs)
          ∙ ap (λ n. cond (p a) 1 0 + n) (sym (first b xs))

-- it grows by one at most
pub length_inserted : {A : Type 0} (cmp : A → A → Ordering) (a : A) (xs : List A)
    → length (inserted cmp a xs) ≤ length xs + 1
length_inserted cmp a [] = omega arith
length_inserted cmp a (b ∷ xs) = by (cmp a b) (length_inserted cmp a xs)
  where
    by : (o : Ordering) → length (inserted cmp a xs) ≤ length xs + 1
        → length (by_order o (a ∷ b ∷ xs) (a ∷ xs) (b ∷ inserted cmp a xs)) ≤ length (b ∷ xs) + 1
    by Less more = omega arith
    by Equal more = omega arith
    by Greater more = omega arith

-- those that pass a test are no more than there are
pub count_most : {A : Type 0} (p : A → Bool) (xs : List A) → count_by p xs ≤ length xs
count_most p [] = omega arith
count_most p (x ∷ xs) =
    let first : count_by p (x ∷ xs) ≡ cond (p x) 1 0 + count_by p xs = sum_by-cons (λ x. cond (p x) 1 0) x xs in
    by (p x) first (count_most p xs)
  where
    by : (b : Bool) → count_by p (x ∷ xs) ≡ cond b 1 0 + count_by p xs → count_by p xs ≤ length xs
        → count_by p (x ∷ xs) ≤ length (x ∷ xs)
    by true first more = let e : count_by p (x ∷ xs) ≡ 1 + count_by p xs = first in omega arith
    by false first more = let e : count_by p (x ∷ xs) ≡ 0 + count_by p xs = first in omega arith
