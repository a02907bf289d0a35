-- What is found in lists, and what is true of all their pairs.
use Rattle.std.proofs.Common.{◌≡◌, ℕ, zero, suc, ◌<◌, Bool, true, false, ◌||◌, cond, List, [], ◌∷◌, Some, None, find, get_or, refl, sym, ap, ◌∙◌, subst, inl, inr, ◌⊎◌, arith, true≢false}
use Rattle.std.specs.List.{All, AllByRecursion, AllPairs, AllZip, Contains, list_any}
use Rattle.std.proofs.lemmas.Bool.{cases_eq, cases_lt}
use Rattle.std.proofs.lemmas.List.{get_or_default}
use Rattle.std.proofs.lemmas.List.Elements.{All-cons}
use Rattle.std.proofs.lemmas.List.Folds.{list_any_at}
use Rattle.std.proofs.lemmas.List.Kept.{AllPairs-cons}

pub contains_here : {X : Type 0} (x : X) (xs : List X) → Contains (x ∷ xs) x
contains_here x xs = (0, omega arith, refl)

pub contains_there : {X : Type 0} (y : X) (xs : List X) (x : X) → Contains xs x → Contains (y ∷ xs) x
contains_there y xs x (k, below, is) = (suc k, omega arith, is)

-- what is found is of the list and passes the test
pub find_some : {X : Type 0} (p : X → Bool) (xs : List X) (x : X) → find p xs ≡ Some x → (p x ≡ true) × Contains xs x
find_some p [] x h = absurd (cc)
find_some p (y ∷ xs) x h = found_by p y xs x (p y) refl h (find_some p xs x)
  where
    found_by : {X : Type 0} (p : X → Bool) (y : X) (xs : List X) (x : X) (b : Bool) → p y ≡ b → cond b (Some y) (find p xs) ≡ Some x → (find p xs ≡ Some x → (p x ≡ true) × Contains xs x)
        → (p x ≡ true) × Contains (y ∷ xs) x
    found_by {X} p y xs x true e h later =
        let same : y ≡ x = cc in
        (subst (λ (z : X). p z ≡ true) same e, subst (λ (z : X). Contains (y ∷ xs) z) same (contains_here y xs))
    found_by p y xs x false e h later = let (passes, there) = later h in (passes, contains_there y xs x there)

-- where nothing is found, nothing passes
pub find_none : {X : Type 0} (p : X → Bool) (xs : List X) → find p xs ≡ None → (x : X) → Contains xs x → p x ≡ false
find_none p [] h x (k, below, is) = absurd (omega arith)
find_none p (y ∷ xs) h x there = none_by p y xs x (p y) refl h (find_none p xs) there
  where
    none_by : {X : Type 0} (p : X → Bool) (y : X) (xs : List X) (x : X) (b : Bool) → p y ≡ b → cond b (Some y) (find p xs) ≡ None → (find p xs ≡ None → (x : X) → Contains xs x → p x ≡ false)
        → Contains (y ∷ xs) x → p x ≡ false
    none_by p y xs x true e h later there = absurd (cc)
    none_by {X} p y xs x false e h later (zero, below, is) = subst (λ (z : X). p z ≡ false) is e
    none_by p y xs x false e h later (suc k, below, is) = later h x (k, omega arith, is)

-- where nothing passes, nothing is found
pub find_from_none : {X : Type 0} (p : X → Bool) (xs : List X) → ((x : X) → Contains xs x → p x ≡ false) → find p xs ≡ None
find_from_none p [] h = refl
find_from_none p (y ∷ xs) h = rw (h y (contains_here y xs)) (find_from_none p xs (λ x there. h x (contains_there y xs x there)))

-- some element passes
pub any_some : {X : Type 0} (p : X → Bool) (xs : List X) → list_any p xs ≡ true → (x : X) × Contains xs x × (p x ≡ true)
any_some p [] h = absurd (cc)
any_some p (y ∷ xs) h = any_by p y xs (p y) refl h (any_some p xs)
  where
    any_by : {X : Type 0} (p : X → Bool) (y : X) (xs : List X) (b : Bool) → p y ≡ b → (b || list_any p xs) ≡ true → (list_any p xs ≡ true → (x : X) × Contains xs x × (p x ≡ true))
        → (x : X) × Contains (y ∷ xs) x × (p x ≡ true)
    any_by p y xs true e h later = (y, contains_here y xs, e)
    any_by p y xs false e h later = let (x, there, passes) = later h in (x, contains_there y xs x there, passes)

-- of two elements that are in no pair one is the other
pub one_place : {X : Type 0} (R : X → X → Type 0) (xs : List X) (x y : X) → AllPairs R xs → Contains xs x → Contains xs y → (R x y → ⊥) → (R y x → ⊥) → x ≡ y
one_place R xs x y all (i, i_below, i_is) (j, j_below, j_is) not_xy not_yx =
    let at_i : get_or xs i x ≡ x = i_is in
    let at_j : get_or xs j y ≡ y = j_is in
    let j_at : get_or xs j x ≡ y = get_or_default xs j x y j_below ∙ j_is in
    let i_at : get_or xs i y ≡ x = get_or_default xs i y x i_below ∙ i_is in
    elim (cases_order i j) [
      | inl before ↦ absurd (not_xy (subst (λ z. R z y) at_i (subst (λ z. R (get_or xs i x) z) j_at (all i j x before j_below))))
      | inr (inl same) ↦ sym at_i ∙ ap (λ k. get_or xs k x) same ∙ j_at
      | inr (inr after) ↦ absurd (not_yx (subst (λ z. R z x) at_j (subst (λ z. R (get_or xs j y) z) i_at (all j i y after i_below))))
    ]
  where
    cases_order : (i j : ℕ) → (i < j) ⊎ ((i ≡ j) ⊎ (j < i))
    cases_order i j =
        elim (cases_lt i j) [ inl less ↦ inl less | inr more ↦ elim (cases_eq i j) [ inl same ↦ inr (inl same) | inr other ↦ inr (inr (omega arith)) ] ]

-- pairs by recursion
abbrev pub Pairs : {X : Type 0} → (X → X → Type 0) → List X → Type 0
Pairs R [] = Unit {0}
Pairs R (x ∷ xs) = AllByRecursion (R x) xs × Pairs R xs

all_by_recursion : {X : Type 0} (P : X → Type 0) (xs : List X) → All P xs → AllByRecursion P xs
all_by_recursion P [] h = tt
all_by_recursion P (x ∷ xs) h = (h 0 x (omega arith), all_by_recursion P xs (λ k d below. h (suc k) d (omega arith)))

pub Pairs-from : {X : Type 0} (R : X → X → Type 0) (xs : List X) → AllPairs R xs → Pairs R xs
Pairs-from R [] h = tt
Pairs-from R (x ∷ xs) h =
    (all_by_recursion (R x) xs (λ k d below. h 0 (suc k) d (omega arith) (omega arith)), Pairs-from R xs (λ i j d less below. h (suc i) (suc j) d (omega arith) (omega arith)))

pub all_from_recursion : {X : Type 0} (P : X → Type 0) (xs : List X) → AllByRecursion P xs → All P xs
all_from_recursion P [] h = λ k d below. absurd (omega arith)
all_from_recursion P (x ∷ xs) (here, later) = All-cons P x xs here (all_from_recursion P xs later)

pub AllPairs-from : {X : Type 0} (R : X → X → Type 0) (xs : List X) → Pairs R xs → AllPairs R xs
AllPairs-from R [] h = λ i j d less below. absurd (omega arith)
AllPairs-from R (x ∷ xs) (here, later) = AllPairs-cons R x xs (all_from_recursion (R x) xs here) (AllPairs-from R xs later)

-- what is true of the pairs of two lists, with what is true of the first
pub zip_with : {X Y : Type 0} (P : X → Type 0) (R Q : X → Y → Type 0) (xs : List X) (ys : List Y) → ((x : X) (y : Y) → P x → R x y → Q x y)
    → AllByRecursion P xs → AllZip R xs ys → AllZip Q xs ys
zip_with P R Q [] [] f p r = tt
zip_with P R Q [] (y ∷ ys) f p r = r
zip_with P R Q (x ∷ xs) [] f p r = r
zip_with P R Q (x ∷ xs) (y ∷ ys) f (p, ps) (r, rs) = (f x y p r, zip_with P R Q xs ys f ps rs)

-- what it is true of the second list alone
pub zip_second : {X Y : Type 0} (Q : Y → Type 0) (xs : List X) (ys : List Y) → AllZip (λ x y. Q y) xs ys → AllByRecursion Q ys
zip_second Q [] [] h = tt
zip_second Q [] (y ∷ ys) h = absurd h
zip_second Q (x ∷ xs) [] h = absurd h
zip_second Q (x ∷ xs) (y ∷ ys) (here, later) = (here, zip_second Q xs ys later)

pub recursion_with : {X : Type 0} (P Q R : X → Type 0) (xs : List X) → ((x : X) → P x → Q x → R x) → AllByRecursion P xs → AllByRecursion Q xs → AllByRecursion R xs
recursion_with P Q R [] f p q = tt
recursion_with P Q R (x ∷ xs) f (p, ps) (q, qs) = (f x p q, recursion_with P Q R xs f ps qs)

pub recursion_from_contains : {X : Type 0} (P : X → Type 0) (xs : List X) → ((x : X) → Contains xs x → P x) → AllByRecursion P xs
recursion_from_contains P [] f = tt
recursion_from_contains P (x ∷ xs) f = (f x (contains_here x xs), recursion_from_contains P xs (λ y there. f y (contains_there x xs y there)))

pub any_from : {X : Type 0} (p : X → Bool) (xs : List X) (x : X) → Contains xs x → p x ≡ true → list_any p xs ≡ true
any_from p xs x (k, below, is) passes = list_any_at p xs k x below (ap p is ∙ passes)

pub any_none : {X : Type 0} (p : X → Bool) (xs : List X) → list_any p xs ≡ false → (x : X) → Contains xs x → p x ≡ false
any_none p xs none x there = by (p x) refl
  where
    by : (b : Bool) → p x ≡ b → p x ≡ false
    by true e = absurd (true≢false (sym (any_from p xs x there e) ∙ none))
    by false e = e
