-- Lists of numbers from 1 on, and what a test keeps of them.
use Prim.Native.Nat.{zero, suc}
use Rattle.std.proofs.Common.{◌≡◌, ℕ, ◌≤◌, ◌<◌, Bool, true, false, List, [], ◌∷◌, ◌++◌, refl, sym, ◌∙◌, ap, arith, append_assoc, append-nil, inl, inr, length-append}
use Rattle.std.specs.Prelude.{◌≢◌, ◌==◌, ◌&&◌, ◌||◌, not, if◌then◌else◌, filter, nat_lt, nat_le, length}
use Rattle.std.proofs.lemmas.Bool.{ne_eqb, eq-eqb, eqb-true, leb-true, leb-false, le-ltb, lt-ltb, le-leb, lt-leb, cases_eq}
use Rattle.std.proofs.lemmas.Map.Views.{any-filter_same}
use Rattle.std.proofs.lemmas.List.Elements.{filter-append, filter_agree}
use Rattle.std.proofs.lemmas.List.Folds.{list_any-append}
use Rattle.bosh_agent.specs.Numbers.{has, with_number, without_number}
use Rattle.bosh_base.specs.Cloud.{numbers_to}

pub and_comm : (a b : Bool) → (a && b) ≡ (b && a)
and_comm true true = refl
and_comm true false = refl
and_comm false true = refl
and_comm false false = refl

and_false : (a : Bool) → false ≡ (a && false)
and_false true = refl
and_false false = refl

pub and_true : (a : Bool) → (a && true) ≡ a
and_true true = refl
and_true false = refl

-- one test after another
pub filter_both : {A : Type 0} (p q : A → Bool) (xs : List A) → filter q (filter p xs) ≡ filter (λ x. p x && q x) xs
filter_both p q [] = refl
filter_both p q (x ∷ xs) =
    elim (p x) as (λ is. filter q (if is then x ∷ filter p xs else filter p xs) ≡ (if is && q x then x ∷ filter
    (λ y. p y && q y) xs else filter (λ y. p y && q y) xs)) [
      | true ↦ ap (λ rest. if q x then x ∷ rest else rest) (filter_both p q xs)
      | false ↦ filter_both p q xs
    ]

-- the order of two tests does not matter
pub filter_comm : {A : Type 0} (p q : A → Bool) (xs : List A) → filter q (filter p xs) ≡ filter p (filter q xs)
filter_comm p q xs = filter_both p q xs ∙ filter_agree _ _ (λ x. and_comm (p x) (q x)) xs ∙ sym (filter_both q p xs)

-- nothing passes
pub filter_none : {A : Type 0} (p : A → Bool) (xs : List A) → ((x : A) → p x ≡ false) → filter p xs ≡ []
filter_none p [] fails = refl
filter_none p (x ∷ xs) fails = rw (fails x) (filter_none p xs fails)

pub length-numbers_to : (n : ℕ) → length (numbers_to n) ≡ n
length-numbers_to zero = refl
length-numbers_to (suc n) = grind (arith, length-append, length-numbers_to n)

-- a number is in a filtered list where it is in the list and passes
pub has-filter : (p : ℕ → Bool) (d : ℕ) (xs : List ℕ) → has d (filter p xs) ≡ (p d && has d xs)
has-filter p d xs = any-filter_same (λ x. x == d) p (p d) (λ x is. ap p (eqb-true x d is)) xs

le_more : (d n : ℕ) → suc n ≢ d → (b : Bool) → nat_le d n ≡ b → b ≡ nat_le d (suc n)
le_more d n other true is = sym (le-leb d (suc n) (omega (arith, leb-true d n is)))
le_more d n other false is = sym (lt-leb d (suc n) (omega (arith, leb-false d n is, other)))

or_last : (a b : Bool) → ((a && b) || (true || false)) ≡ true
or_last true true = refl
or_last true false = refl
or_last false b = refl

or_none : (a : Bool) → (a || (false || false)) ≡ a
or_none true = refl
or_none false = refl

pub has-numbers_to : (d n : ℕ) → has d (numbers_to n) ≡ (nat_lt 0 d && nat_le d n)
has-numbers_to d zero =
    elim (cases_eq d 0) [
      | inl is ↦ rw is refl
      | inr other ↦ rw
          (lt-leb d 0 (omega (arith, other)), lt-ltb 0 d (omega (arith, other))) refl
    ]
has-numbers_to d (suc n) =
    list_any-append (λ x. x == d) (numbers_to n) (suc n ∷ [])
    ∙ ap (λ front. front || ((suc n == d) || false)) (has-numbers_to d n)
    ∙ elim (cases_eq (suc n) d) [
      | inl is ↦ rw (
        eq-eqb (suc n) d is,
        or_last (nat_lt 0 d) (nat_le d n),
        lt-ltb 0 d (omega (arith, is)),
        le-leb d
            (suc n) (omega (arith, is)),
      ) refl
      | inr other ↦ ap (λ it. (nat_lt 0 d && nat_le d n) || (it || false)) (ne_eqb (suc n) d other)
          ∙ or_none (nat_lt 0 d && nat_le d n) ∙ ap (λ it. nat_lt 0 d && it) (le_more d n other (nat_le d n) refl)
    ]

-- ---- a list of rising numbers parts at one of them

abbrev pub PartsAt : ℕ → List ℕ → Type 0
PartsAt d xs = xs ≡ with_number d xs

smaller_all : (n d : ℕ) → n < d → filter (λ x. nat_lt x d) (numbers_to n) ≡ numbers_to n
smaller_all zero d below = refl
smaller_all (suc n) d below =
    filter-append (λ x. nat_lt x d) (numbers_to n) (suc n ∷ [])
    ∙ ap (λ front. front ++ (if nat_lt (suc n) d then suc n ∷ [] else [])) (smaller_all n d (omega (arith, below)))
    ∙ ap (λ is. numbers_to n ++ (if is then suc n ∷ [] else [])) (lt-ltb (suc n) d below)

greater_none : (n d : ℕ) → n ≤ d → filter (λ x. nat_lt d x) (numbers_to n) ≡ []
greater_none zero d below = refl
greater_none (suc n) d below =
    filter-append (λ x. nat_lt d x) (numbers_to n) (suc n ∷ [])
    ∙ ap (λ front. front ++ (if nat_lt d (suc n) then suc n ∷ [] else [])) (greater_none n d (omega (arith, below)))
    ∙ ap (λ is. if is then suc n ∷ [] else []) (le-ltb d (suc n) below)

pub PartsAt-numbers_to : (d n : ℕ) → 1 ≤ d → d ≤ n → PartsAt d (numbers_to n)
PartsAt-numbers_to d zero low high = absurd (omega (arith, low, high))
PartsAt-numbers_to d (suc n) low high =
    let front : filter (λ x. nat_lt x d) (numbers_to (suc n)) ≡ filter (λ x. nat_lt x d) (numbers_to n) =
    filter-append (λ x. nat_lt x d) (numbers_to n) (suc n ∷ [])
    ∙ ap (λ is. filter (λ x. nat_lt x d) (numbers_to n) ++ (if is then suc n ∷ [] else [])) (le-ltb (suc n) d high)
    ∙ append-nil _ in
    let back : filter (λ x. nat_lt d x) (numbers_to (suc n)) ≡ filter (λ x. nat_lt d x)
    (numbers_to n) ++ (if nat_lt d (suc n) then suc n ∷ [] else []) =
    filter-append (λ x. nat_lt d x) (numbers_to n) (suc n ∷ []) in
    elim (cases_eq d (suc n)) [
      | inl is ↦ rw (
        front,
        back,
        le-ltb d (suc n) (omega (arith, is)),
        greater_none n d (omega (arith, is)),
        smaller_all n d (omega (arith, is)),
        is,
      ) refl
      | inr other ↦
          ap (λ xs. xs ++ suc n ∷ []) (PartsAt-numbers_to d n low (omega (arith, high, other)))
          ∙ append_assoc (filter (λ x. nat_lt x d) (numbers_to n)) (d ∷ filter (λ x. nat_lt d x) (numbers_to n))
          (suc n ∷ [])
          ∙ rw (front, back, lt-ltb d (suc n) (omega (arith, high, other))) refl
    ]

-- tests that agree but at one number
AgreeBut : ℕ → (ℕ → Bool) → (ℕ → Bool) → Type 0
AgreeBut d p q = (x : ℕ) → x ≢ d → q x ≡ p x

pub filter_smaller : (p q : ℕ → Bool) (d : ℕ) → ((x : ℕ) → x ≢ d → q x ≡ p x) → (xs : List ℕ) →
    filter q (filter (λ x. nat_lt x d) xs) ≡ filter (λ x. nat_lt x d) (filter p xs)
filter_smaller p q d same xs =
    filter_both (λ x. nat_lt x d) q xs ∙ filter_agree _ _ agree xs ∙ sym (filter_both p (λ x. nat_lt x d) xs)
  where
    agree : (x : ℕ) → (nat_lt x d && q x) ≡ (p x && nat_lt x d)
    agree x = elim (cases_eq x d) [
      | inl is ↦ rw (le-ltb x d (omega (arith, is))) (and_false (p x))
      | inr other ↦ ap (λ it. nat_lt x d && it) (same x other) ∙ and_comm (nat_lt x d) (p x)
    ]

pub filter_greater : (p q : ℕ → Bool) (d : ℕ) → ((x : ℕ) → x ≢ d → q x ≡ p x) → (xs : List ℕ) →
    filter q (filter (λ x. nat_lt d x) xs) ≡ filter (λ x. nat_lt d x) (filter p xs)
filter_greater p q d same xs =
    filter_both (λ x. nat_lt d x) q xs ∙ filter_agree _ _ agree xs ∙ sym (filter_both p (λ x. nat_lt d x) xs)
  where
    agree : (x : ℕ) → (nat_lt d x && q x) ≡ (p x && nat_lt d x)
    agree x = elim (cases_eq x d) [
      | inl is ↦ rw (le-ltb d x (omega (arith, is))) (and_false (p x))
      | inr other ↦ ap (λ it. nat_lt d x && it) (same x other) ∙ and_comm (nat_lt d x) (p x)
    ]

-- one more passes
pub filter-with_number : (p q : ℕ → Bool) (d : ℕ) (xs : List ℕ) → PartsAt d xs → q d ≡ true →
    ((x : ℕ) → x ≢ d → q x ≡ p x) → filter q xs ≡ with_number d (filter p xs)
filter-with_number p q d xs parts passes same =
    ap (filter q) parts
    ∙ filter-append q (filter (λ x. nat_lt x d) xs) (d ∷ filter (λ x. nat_lt d x) xs)
    ∙ ap (λ is. filter q (filter (λ x. nat_lt x d) xs) ++ (if is then d ∷ filter q
    (filter (λ x. nat_lt d x) xs) else filter q (filter (λ x. nat_lt d x) xs))) passes
    ∙ (λ i. filter_smaller p q d same xs i ++ d ∷ filter_greater p q d same xs i)

pub PartsAt-filter : (p : ℕ → Bool) (d : ℕ) (xs : List ℕ) → p d ≡ true → PartsAt d xs → PartsAt d (filter p xs)
PartsAt-filter p d xs passes parts = filter-with_number p p d xs parts passes (λ x other. refl)

-- one does not pass any more
pub filter-without_number : (p q : ℕ → Bool) (d : ℕ) (xs : List ℕ) → q d ≡ false → ((x : ℕ) → x ≢ d → q x ≡ p x) →
    filter q xs ≡ without_number d (filter p xs)
filter-without_number p q d xs fails same = filter_agree _ _ agree xs ∙ sym (filter_both p (λ x. not (x == d)) xs)
  where
    agree : (x : ℕ) → q x ≡ (p x && not (x == d))
    agree x = elim (cases_eq x d) [
      | inl is ↦ rw (eq-eqb x d is) (ap q is ∙ fails ∙ and_false (p x))
      | inr other ↦ rw (ne_eqb x d other) (same x other ∙ sym (and_true (p x)))
    ]
