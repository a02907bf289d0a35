-- A list from which one item goes: what is counted, kept and found in it.
use Rattle.std.proofs.Common.{◌≡◌, ◌∙◌, ◌+◌, Bool, true, false, ◌||◌, ◌&&◌, List, [], ◌∷◌, filter, ap, refl, sym}
use Rattle.std.proofs.Common.{arith}
use Rattle.std.specs.Prelude.{cond, count_by, if◌then◌else◌}
use Rattle.std.specs.List.{list_any}
use Rattle.std.proofs.lemmas.List.Sums.{sum_by-cons}
use Rattle.bosh_history.specs.Words.{without}

count_first : {A : Type 0} (p : A → Bool) (x : A) (xs : List A)
    → count_by p (x ∷ xs) ≡ cond (p x) 1 0 + count_by p xs
count_first p x xs = sum_by-cons (λ x. cond (p x) 1 0) x xs

module _ {A : Type 0} (same : A → A → Bool) (tells : (a b : A) → same a b ≡ true → a ≡ b) (x : A) where
  -- ---- counts

  count_parts : (p : A → Bool) (xs : List A)
      → count_by p xs ≡ count_by p (without same x xs) + count_by (λ y. same x y && p y) xs
  count_parts p [] = refl
  count_parts p (y ∷ xs) =
      by (same x y) (p y) (count_first p y xs) (count_first p y (without same x xs))
      (count_first (λ y. same x y && p y) y xs) (count_parts p xs)
    where
      by : (b c : Bool) → count_by p (y ∷ xs) ≡ cond c 1 0 + count_by p xs
          → count_by p (y ∷ without same x xs) ≡ cond c 1 0 + count_by p (without same x xs)
          → count_by (λ y. same x y && p y) (y ∷ xs) ≡ cond (b && c) 1 0 + count_by (λ y. same x y && p y) xs
          → count_by p xs ≡ count_by p (without same x xs) + count_by (λ y. same x y && p y) xs
          → count_by p (y ∷ xs) ≡ count_by p (if b then without same x xs else y ∷ without same x xs)
          + count_by (λ y. same x y && p y) (y ∷ xs)
      by true true all kept these more =
          let e : count_by p (y ∷ xs) ≡ 1 + count_by p xs = all in
          let f : count_by (λ y. same x y && p y) (y ∷ xs) ≡ 1 + count_by (λ y. same x y && p y) xs = these in
          omega arith
      by true false all kept these more =
          let e : count_by p (y ∷ xs) ≡ 0 + count_by p xs = all in
          let f : count_by (λ y. same x y && p y) (y ∷ xs) ≡ 0 + count_by (λ y. same x y && p y) xs = these in
          omega arith
      by false true all kept these more =
          let e : count_by p (y ∷ xs) ≡ 1 + count_by p xs = all in
          let g : count_by p (y ∷ without same x xs) ≡ 1 + count_by p (without same x xs) = kept in
          let f : count_by (λ y. same x y && p y) (y ∷ xs) ≡ 0 + count_by (λ y. same x y && p y) xs = these in
          omega arith
      by false false all kept these more =
          let e : count_by p (y ∷ xs) ≡ 0 + count_by p xs = all in
          let g : count_by p (y ∷ without same x xs) ≡ 0 + count_by p (without same x xs) = kept in
          let f : count_by (λ y. same x y && p y) (y ∷ xs) ≡ 0 + count_by (λ y. same x y && p y) xs = these in
          omega arith

  -- those that are it pass as it does
  own_passes : (p : A → Bool) (y : A) → (same x y && p y) ≡ (same x y && p x)
  own_passes p y = by (same x y) refl
    where
      by : (b : Bool) → same x y ≡ b → (b && p y) ≡ (b && p x)
      by true is = ap p (sym (tells x y is))
      by false is = refl

  count_own : (p : A → Bool) (b : Bool) → p x ≡ b → (xs : List A)
      → count_by (λ y. same x y && p y) xs ≡ count_by (λ y. same x y && b) xs
  count_own p b is xs = λ j. count_by (λ y. (own_passes p y ∙ ap (λ c. same x y && c) is) j) xs

  -- it passes, and is listed once
  pub count_fewer : (p : A → Bool) → p x ≡ true → (xs : List A) → count_by (same x) xs ≡ 1
      → count_by p xs ≡ count_by p (without same x xs) + 1
  count_fewer p is xs once = count_parts p xs
      ∙ ap (λ n. count_by p (without same x xs) + n)
      (count_own p true is xs ∙ (λ j. count_by (λ y. and_true (same x y) j) xs) ∙ once)
    where
      and_true : (b : Bool) → (b && true) ≡ b
      and_true true = refl
      and_true false = refl

  -- .. or it does not
  pub count_stays : (p : A → Bool) → p x ≡ false → (xs : List A)
      → count_by p (without same x xs) ≡ count_by p xs
  count_stays p is xs =
      let e : count_by p xs ≡ count_by p (without same x xs) + count_by (λ y. same x y && p y) xs = count_parts p xs in
      let z : count_by (λ y. same x y && p y) xs ≡ 0 =
      count_own p false is xs ∙ (λ j. count_by (λ y. and_false (same x y) j) xs) ∙ none xs in
      omega arith
    where
      and_false : (b : Bool) → (b && false) ≡ false
      and_false true = refl
      and_false false = refl

      none : (xs : List A) → count_by (λ (y : A). false) xs ≡ 0
      none [] = refl
      none (y ∷ xs) =
          let e : count_by (λ (y : A). false) (y ∷ xs) ≡ 0 + count_by (λ (y : A). false) xs =
          count_first (λ (y : A). false) y xs in
          let z : count_by (λ (y : A). false) xs ≡ 0 = none xs in omega arith

  -- ---- filters

  pub filter_without : (p q : A → Bool) → ((y : A) → same x y ≡ false → q y ≡ p y) → (xs : List A)
      → filter q (without same x xs) ≡ without same x (filter p xs)
  filter_without p q others [] = refl
  filter_without p q others (y ∷ xs) = by (same x y) (p y) refl refl (filter_without p q others xs)
    where
      by : (b c : Bool) → same x y ≡ b → p y ≡ c → filter q (without same x xs) ≡ without same x (filter p xs)
          → filter q (if b then without same x xs else y ∷ without same x xs)
          ≡ without same x (if c then y ∷ filter p xs else filter p xs)
      by true true is passes more = more
          ∙ (λ j. if sym is j then without same x (filter p xs) else y ∷ without same x (filter p xs))
      by true false is passes more = more
      by false c other passes more =
          (λ j. if (others y other ∙ passes) j then y ∷ filter q (without same x xs) else filter q (without same x xs))
          ∙ kept c
        where
          kept : (c : Bool) → (if c then y ∷ filter q (without same x xs) else filter q (without same x xs))
              ≡ without same x (if c then y ∷ filter p xs else filter p xs)
          kept true = ap (λ rest. y ∷ rest) more
              ∙ (λ j. if sym other j then without same x (filter p xs) else y ∷ without same x (filter p xs))
          kept false = more

  -- ---- tests

  pub any_without : (p q : A → Bool) → ((y : A) → same x y ≡ false → q y ≡ p y)
      → ((y : A) → same x y ≡ true → p y ≡ false) → (xs : List A)
      → list_any q (without same x xs) ≡ list_any p xs
  any_without p q others own [] = refl
  any_without p q others own (y ∷ xs) = by (same x y) refl (any_without p q others own xs)
    where
      by : (b : Bool) → same x y ≡ b → list_any q (without same x xs) ≡ list_any p xs
          → list_any q (if b then without same x xs else y ∷ without same x xs) ≡ (p y || list_any p xs)
      by true is more = more ∙ (λ j. sym (own y is) j || list_any p xs)
      by false other more = λ j. others y other j || more j

pub any_same : {A : Type 0} (p q : A → Bool) → ((y : A) → q y ≡ p y) → (xs : List A) → list_any q xs ≡ list_any p xs
any_same p q same xs = λ j. list_any (λ y. same y j) xs
