-- What is kept of a list, and what holds of each item of one.
use Rattle.std.proofs.Common.{◌≡◌, ◌∙◌, Bool, true, false, ◌&&◌, ◌||◌, List, [], ◌∷◌, filter, ap, refl, sym}
use Rattle.std.specs.Prelude.{if◌then◌else◌}
use Rattle.std.specs.Cmp.{IsTotalOrder}
use Rattle.std.specs.List.{list_all}
use Rattle.std.specs.declared.cmp.Ordering.{Ordering}
use Rattle.std.specs.declared.cmp.Ordering.TheVariants.{Less}
use Rattle.std.proofs.lemmas.Bool.{and_from, and_parts}
use Rattle.std.proofs.lemmas.Map.Views.{any-filter_same}
use Rattle.bosh_history.specs.Words.{is_among}
use Rattle.laws_row_facts.specs.Words.{are_ascending, is_before, is_below}
use Rattle.laws_stands_works.proofs.InOrderLemmas.{less_is}

-- ---- items of which each has something

pub all_true : {A : Type 0} (p : A → Bool) → ((a : A) → p a ≡ true) → (xs : List A) → list_all p xs ≡ true
all_true p each [] = refl
all_true p each (x ∷ xs) = and_from (p x) (list_all p xs) (each x) (all_true p each xs)

pub all_filtered : {A : Type 0} (p q : A → Bool) → ((a : A) → q a ≡ true → p a ≡ true) → (xs : List A)
    → list_all p (filter q xs) ≡ true
all_filtered p q each [] = refl
all_filtered p q each (x ∷ xs) = by (q x) refl (all_filtered p q each xs)
  where
    by : (b : Bool) → q x ≡ b → list_all p (filter q xs) ≡ true
        → list_all p (if b then x ∷ filter q xs else filter q xs) ≡ true
    by true is more = and_from (p x) (list_all p (filter q xs)) (each x is) more
    by false is more = more

pub all_among : {A : Type 0} (same : A → A → Bool) → ((a : A) → same a a ≡ true) → (p : A → Bool) → (xs : List A)
    → ((a : A) → is_among same a xs ≡ true → p a ≡ true) → list_all p xs ≡ true
all_among {A} same own p [] each = refl
all_among {A} same own p (x ∷ xs) each =
    and_from (p x) (list_all p xs) (each x (λ i. own x i || is_among same x xs))
    (all_among same own p xs (λ a is. each a (later a is)))
  where
    later : (a : A) → is_among same a xs ≡ true → (same a x || is_among same a xs) ≡ true
    later a is = by (same a x)
      where
        by : (b : Bool) → (b || is_among same a xs) ≡ true
        by true = refl
        by false = is

-- all are kept where each is to be
pub all_kept : {A : Type 0} (p : A → Bool) (xs : List A) → list_all p xs ≡ true → filter p xs ≡ xs
all_kept p [] all = refl
all_kept p (x ∷ xs) all =
    let (first, rest) = and_parts (p x) (list_all p xs) all in
    (λ i. if first i then x ∷ filter p xs else filter p xs) ∙ ap (λ more. x ∷ more) (all_kept p xs rest)

-- one of those that are kept is one of all, and is to be kept
pub among_filtered : {A : Type 0} (same : A → A → Bool) → ((a b : A) → same a b ≡ true → a ≡ b) → (p : A → Bool)
    → (xs : List A) (a : A) → is_among same a (filter p xs) ≡ (p a && is_among same a xs)
among_filtered same is p xs a = any-filter_same (same a) p (p a) (λ b one. ap p (sym (is a b one))) xs

-- ---- in order

module _ {A : Type 0} (cmp : A → A → Ordering) (total : IsTotalOrder cmp) where
  below_rest : (x y : A) (ys : List A) → cmp x y ≡ Less → is_below cmp y ys ≡ true → is_below cmp x ys ≡ true
  below_rest x y [] less below = refl
  below_rest x y (z ∷ ys) less below = ap is_before (total.trans x y z less (less_is (cmp y z) below))

  below_filtered : (p : A → Bool) (x : A) (ys : List A) → is_below cmp x ys ≡ true → are_ascending cmp ys ≡ true
      → is_below cmp x (filter p ys) ≡ true
  below_filtered p x [] below order = refl
  below_filtered p x (y ∷ ys) below order =
      let (first, rest) = and_parts (is_below cmp y ys) (are_ascending cmp ys) order in
      by (p y) (below_filtered p x ys (below_rest x y ys (less_is (cmp x y) below) first) rest)
    where
      by : (b : Bool) → is_below cmp x (filter p ys) ≡ true
          → is_below cmp x (if b then y ∷ filter p ys else filter p ys) ≡ true
      by true more = below
      by false more = more

  pub filtered_in_order : (p : A → Bool) (xs : List A) → are_ascending cmp xs ≡ true
      → are_ascending cmp (filter p xs) ≡ true
  filtered_in_order p [] order = refl
  filtered_in_order p (x ∷ xs) order =
      let (first, rest) = and_parts (is_below cmp x xs) (are_ascending cmp xs) order in
      by (p x) (below_filtered p x xs first rest) (filtered_in_order p xs rest)
    where
      by : (b : Bool) → is_below cmp x (filter p xs) ≡ true → are_ascending cmp (filter p xs) ≡ true
          → are_ascending cmp (if b then x ∷ filter p xs else filter p xs) ≡ true
      by true below more = and_from (is_below cmp x (filter p xs)) (are_ascending cmp (filter p xs)) below more
      by false below more = more
