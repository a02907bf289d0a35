-- The greatest number that a function gives on a list, and how many items pass a test.
use Rattle.std.proofs.Common.{◌≡◌, ◌⊎◌, refl, subst, inl, inr, ⊎_elim, ℕ, suc, ◌≤◌, ◌<◌, max, Bool, true, false, cond, List, [], ◌∷◌, length, get_or, arith}
use Rattle.std.specs.List.{All, Contains}
use Rattle.std.proofs.lemmas.Bool.{cases_lt}
use Rattle.std.proofs.lemmas.List.Elements.{All-nil, All-cons, All-head, All-tail, All-weaker, All-contains, Contains-get_or, Contains-append_right, Contains-append_cases}
use Rattle.bosh_compile.specs.Level.{greatest}

module _ {X : Type 0} where
  pub here : (x : X) (xs : List X) → Contains (x ∷ xs) x
  here x xs = (0, omega arith, refl)

  pub there : (x : X) (xs : List X) (y : X) → Contains xs y → Contains (x ∷ xs) y
  there x xs y c = Contains-append_right (x ∷ []) xs y c

  pub contains_cases : (x : X) (xs : List X) (y : X) → Contains (x ∷ xs) y → (y ≡ x) ⊎ Contains xs y
  contains_cases x xs y c = ⊎_elim
      (λ (first : Contains (x ∷ []) y). inl (All-contains (λ z. z ≡ x) (x ∷ []) y (All-cons (λ z. z ≡ x) x [] refl (All-nil (λ z. z ≡ x))) first))
      (λ (later : Contains xs y). inr later)
      (Contains-append_cases (x ∷ []) xs y c)

  pub All-from_Contains : (P : X → Type 0) (xs : List X) → ((x : X) → Contains xs x → P x) → All P xs
  All-from_Contains P xs h = λ k d in'. h (get_or xs k d) (Contains-get_or xs k d in')

  module _ (f : X → ℕ) where
    pub greatest-le : (xs : List X) (b : ℕ) → All (λ x. f x ≤ b) xs → greatest f xs ≤ b
    greatest-le [] b all = omega arith
    greatest-le (x ∷ xs) b all =
        let head = All-head (λ y. f y ≤ b) x xs all in
        let tail = greatest-le xs b (All-tail (λ y. f y ≤ b) x xs all) in
        omega arith

    all_le : (xs : List X) → All (λ x. f x ≤ greatest f xs) xs
    all_le [] = All-nil (λ x. f x ≤ 0)
    all_le (x ∷ xs) = All-cons (λ y. f y ≤ max (f x) (greatest f xs)) x xs (omega arith)
        (All-weaker (λ y. f y ≤ greatest f xs) (λ y. f y ≤ max (f x) (greatest f xs)) (λ y h. omega arith) xs (all_le xs))

    pub le-greatest : (xs : List X) (x : X) → Contains xs x → f x ≤ greatest f xs
    le-greatest xs x c = All-contains (λ y. f y ≤ greatest f xs) xs x (all_le xs) c

    -- what the greatest reaches, some item reaches
    pub greatest_reached : (xs : List X) (n : ℕ) → n < greatest f xs → (x : X) × Contains xs x × (n < f x)
    greatest_reached [] n h = absurd (omega arith)
    greatest_reached (x ∷ xs) n h = ⊎_elim
        (λ (less : n < f x). (x, here x xs, less))
        (λ (more : f x ≤ n).
        let found = greatest_reached xs n (omega arith) in
        (found.0, there x xs found.0 found.1, found.2))
        (cases_lt n (f x))

  abbrev pub how_many : (X → Bool) → List X → ℕ
  how_many p [] = 0
  how_many p (x ∷ xs) = cond (p x) (suc (how_many p xs)) (how_many p xs)

  pub how_many-le-length : (p : X → Bool) (xs : List X) → how_many p xs ≤ length xs
  how_many-le-length p [] = omega arith
  how_many-le-length p (x ∷ xs) = let rest = how_many-le-length p xs in
      elim (p x) as (λ b. cond b (suc (how_many p xs)) (how_many p xs) ≤ length (x ∷ xs)) [ true ↦ omega arith | false ↦ omega arith ]

  pub how_many_some : (p : X → Bool) (xs : List X) → 0 < how_many p xs → (x : X) × Contains xs x × (p x ≡ true)
  how_many_some p [] h = absurd (omega arith)
  how_many_some p (x ∷ xs) h =
      let Found : Type 0 = (y : X) × Contains (x ∷ xs) y × (p y ≡ true) in
      let at : (b : Bool) → p x ≡ b → 0 < cond b (suc (how_many p xs)) (how_many p xs) → Found = λ b.
      elim b as (λ b. p x ≡ b → 0 < cond b (suc (how_many p xs)) (how_many p xs) → Found) [
        | true ↦ λ e _. (x, here x xs, e)
        | false ↦ λ _ more. let found = how_many_some p xs more in (found.0, there x xs found.0 found.1, found.2)
      ] in
      at (p x) refl h

  none_here : (p : X → Bool) (x : X) (xs : List X) → (b : Bool) → p x ≡ b → cond b (suc (how_many p xs)) (how_many p xs) ≡ 0 → (p x ≡ false) × (how_many p xs ≡ 0)
  none_here p x xs true is none = absurd (omega arith)
  none_here p x xs false is none = (is, none)

  all_fail : (p : X → Bool) (xs : List X) → how_many p xs ≡ 0 → All (λ x. p x ≡ false) xs
  all_fail p [] none = All-nil (λ x. p x ≡ false)
  all_fail p (x ∷ xs) none =
      let first = none_here p x xs (p x) refl none in
      All-cons (λ x. p x ≡ false) x xs first.0 (all_fail p xs first.1)

  pub how_many_none : (p : X → Bool) (xs : List X) → how_many p xs ≡ 0 → (x : X) → Contains xs x → p x ≡ false
  how_many_none p xs none x c = All-contains (λ y. p y ≡ false) xs x (all_fail p xs none) c

  -- where p implies q, no more pass p, and fewer where some item passes q alone
  module _ (p q : X → Bool) (implies : (x : X) → p x ≡ true → q x ≡ true) where
    step-le : (a b : Bool) (m n : ℕ) → (a ≡ true → b ≡ true) → m ≤ n → cond a (suc m) m ≤ cond b (suc n) n
    step-le true true m n h le = omega arith
    step-le true false m n h le = let e = h refl in cc
    step-le false true m n h le = omega arith
    step-le false false m n h le = le

    step-lt : (a b : Bool) (m n : ℕ) → (a ≡ true → b ≡ true) → m < n → cond a (suc m) m < cond b (suc n) n
    step-lt true true m n h le = omega arith
    step-lt true false m n h le = let e = h refl in cc
    step-lt false true m n h le = omega arith
    step-lt false false m n h le = le

    how_many-le : (xs : List X) → how_many p xs ≤ how_many q xs
    how_many-le [] = omega arith
    how_many-le (x ∷ xs) = step-le (p x) (q x) _ _ (implies x) (how_many-le xs)

    pub how_many-lt : (xs : List X) (v : X) → Contains xs v → p v ≡ false → q v ≡ true → how_many p xs < how_many q xs
    how_many-lt [] v c fails passes = absurd (omega (arith, c.1))
    how_many-lt (x ∷ xs) v c fails passes = ⊎_elim
        (λ (same : v ≡ x). at (p x) (q x) (subst (λ y. p y ≡ false) same fails) (subst (λ y. q y ≡ true) same passes))
        (λ (later : Contains xs v). step-lt (p x) (q x) _ _ (implies x) (how_many-lt xs v later fails passes))
        (contains_cases x xs v c)
      where
        at : (a b : Bool) → a ≡ false → b ≡ true → cond a (suc (how_many p xs)) (how_many p xs) < cond b (suc (how_many q xs)) (how_many q xs)
        at true b e f = cc
        at false true e f = let le = how_many-le xs in omega arith
        at false false e f = cc
