-- Items of lists: those that meet a test, and those of lists that are made of others.
use Rattle.std.proofs.Common.{◌≡◌, ◌∙◌, ℕ, ◌<◌, zero, suc, Bool, true, false, ◌&&◌, ◌||◌, not, List, [], ◌∷◌, ◌++◌}
use Rattle.std.proofs.Common.{map, filter, Option, Some, None, ap, refl, sym, arith, inl, inr}
use Rattle.std.specs.Prelude.{◌⊎◌, find, is_some, if◌then◌else◌, eqb}
use Rattle.std.specs.List.{list_all, list_any}
use Rattle.std.proofs.lemmas.Bool.{and_from, and_parts, eqb-true, false≢true, or_left, or_right}
use Rattle.std.proofs.lemmas.Bool.Decides.{nat_tests}
use Rattle.bosh_history.specs.Words.{holds, numbers_below}
use Rattle.laws_items.specs.Lists.{IsIn}

pub not_false : (b : Bool) → not b ≡ false → b ≡ true
not_false true is = refl
not_false false is = absurd (false≢true (sym is))

-- ---- lists made of others

pub in_front : {X : Type 0} (x : X) (xs ys : List X) → IsIn x xs → IsIn x (xs ++ ys)
in_front x [] ys is = absurd is
in_front x (y ∷ xs) ys (inl same) = inl same
in_front x (y ∷ xs) ys (inr is) = inr (in_front x xs ys is)

pub in_back : {X : Type 0} (x : X) (xs ys : List X) → IsIn x ys → IsIn x (xs ++ ys)
in_back x [] ys is = is
in_back x (y ∷ xs) ys is = inr (in_back x xs ys is)

pub in_mapped : {X Y : Type 0} (f : X → Y) (x : X) (xs : List X) → IsIn x xs → IsIn (f x) (map f xs)
in_mapped f x [] is = absurd is
in_mapped f x (y ∷ xs) (inl same) = inl (ap f same)
in_mapped f x (y ∷ xs) (inr is) = inr (in_mapped f x xs is)

pub in_filtered : {X : Type 0} (p : X → Bool) (x : X) (xs : List X) → IsIn x xs → p x ≡ true → IsIn x (filter p xs)
in_filtered p x [] is meets = absurd is
in_filtered p x (y ∷ xs) (inl same) meets = by (p y) (ap p same ∙ meets)
  where
    by : (b : Bool) → b ≡ true → IsIn x (if b then y ∷ filter p xs else filter p xs)
    by true met = inl same
    by false met = absurd (false≢true met)
in_filtered p x (y ∷ xs) (inr is) meets = by (p y) (in_filtered p x xs is meets)
  where
    by : (b : Bool) → IsIn x (filter p xs) → IsIn x (if b then y ∷ filter p xs else filter p xs)
    by true is = inr is
    by false is = is

-- ---- tests

pub all_in : {X : Type 0} (p : X → Bool) (x : X) (xs : List X) → list_all p xs ≡ true → IsIn x xs → p x ≡ true
all_in p x [] all is = absurd is
all_in p x (y ∷ xs) all (inl same) = ap p (sym same) ∙ (and_parts (p y) (list_all p xs) all).0
all_in p x (y ∷ xs) all (inr is) = all_in p x xs (and_parts (p y) (list_all p xs) all).1 is

pub any_in : {X : Type 0} (p : X → Bool) (x : X) (xs : List X) → IsIn x xs → p x ≡ true → list_any p xs ≡ true
any_in p x [] is meets = absurd is
any_in p x (y ∷ xs) (inl same) meets = or_left (p y) (list_any p xs) (ap p same ∙ meets)
any_in p x (y ∷ xs) (inr is) meets = or_right (p y) (list_any p xs) (any_in p x xs is meets)

pub all_from : {X : Type 0} (p : X → Bool) (xs : List X) → ((x : X) → IsIn x xs → p x ≡ true) → list_all p xs ≡ true
all_from p [] each = refl
all_from p (x ∷ xs) each = and_from (p x) (list_all p xs) (each x (inl refl)) (all_from p xs (λ y is. each y (inr is)))

pub none_from : {X : Type 0} (p : X → Bool) (xs : List X) → ((x : X) → IsIn x xs → p x ≡ false) → list_any p xs ≡ false
none_from p [] each = refl
none_from p (x ∷ xs) each = rw (each x (inl refl), none_from p xs (λ y is. each y (inr is))) refl

-- an item of a list, that meets a test
pub record Meets {X : Type 0} (p : X → Bool) (xs : List X) : Type 0 where
  pub x : X
  pub is_in : IsIn x xs
  pub meets : p x ≡ true

pub some_meets : {X : Type 0} (p : X → Bool) (xs : List X) → list_any p xs ≡ true → Meets p xs
some_meets p [] any = absurd (false≢true any)
some_meets p (y ∷ xs) any = by (p y) refl any (some_meets p xs)
  where
    by : (b : Bool) → p y ≡ b → (b || list_any p xs) ≡ true → (list_any p xs ≡ true → Meets p xs) → Meets p (y ∷ xs)
    by true meets any more = record { x = y; is_in = inl refl; meets = meets }
    by false fails any more =
        let it : Meets p xs = more any in record { x = it.x; is_in = inr it.is_in; meets = it.meets }

pub some_fails : {X : Type 0} (p : X → Bool) (xs : List X) → list_all p xs ≡ false → Meets (λ x. not (p x)) xs
some_fails p [] all = absurd (false≢true (sym all))
some_fails p (y ∷ xs) all = by (p y) refl all (some_fails p xs)
  where
    by : (b : Bool) → p y ≡ b → (b && list_all p xs) ≡ false → (list_all p xs ≡ false → Meets (λ x. not (p x)) xs)
        → Meets (λ x. not (p x)) (y ∷ xs)
    by false fails all more = record { x = y; is_in = inl refl; meets = ap not fails }
    by true meets all more =
        let it : Meets (λ x. not (p x)) xs = more all in record { x = it.x; is_in = inr it.is_in; meets = it.meets }

pub found : {X : Type 0} (p : X → Bool) (x : X) (xs : List X) → IsIn x xs → p x ≡ true → is_some (find p xs) ≡ true
found p x [] is meets = absurd is
found p x (y ∷ xs) is meets = by (p y) refl is (λ is. found p x xs is meets)
  where
    by : (b : Bool) → p y ≡ b → (y ≡ x) ⊎ IsIn x xs → (IsIn x xs → is_some (find p xs) ≡ true)
        → is_some (if b then Some y else find p xs) ≡ true
    by true met is more = refl
    by false unmet (inl same) more = absurd (false≢true (sym unmet ∙ ap p same ∙ meets))
    by false unmet (inr is) more = more is

-- the item that is found
pub find_in : {X : Type 0} (p : X → Bool) (x : X) (xs : List X) → find p xs ≡ Some x → IsIn x xs × (p x ≡ true)
find_in p x [] is = absurd cc
find_in p x (y ∷ xs) is = by (p y) refl is (find_in p x xs)
  where
    by : (b : Bool) → p y ≡ b → (if b then Some y else find p xs) ≡ Some x
        → (find p xs ≡ Some x → IsIn x xs × (p x ≡ true)) → IsIn x (y ∷ xs) × (p x ≡ true)
    by true meets is more = let same : y ≡ x = cc in (inl same, ap p (sym same) ∙ meets)
    by false fails is more = let it : IsIn x xs × (p x ≡ true) = more is in (inr it.0, it.1)

-- ---- tests of membership

pub among_is : {X : Type 0} (same : X → X → Bool) → ((a b : X) → same a b ≡ true → a ≡ b) → (x : X) (xs : List X)
    → list_any (same x) xs ≡ true → IsIn x xs
among_is same is x [] any = absurd (false≢true any)
among_is same is x (y ∷ xs) any = by (same x y) refl any (among_is same is x xs)
  where
    by : (b : Bool) → same x y ≡ b → (b || list_any (same x) xs) ≡ true → (list_any (same x) xs ≡ true → IsIn x xs)
        → IsIn x (y ∷ xs)
    by true one any more = inl (sym (is x y one))
    by false other any more = inr (more any)

pub is_among_in : {X : Type 0} (same : X → X → Bool) (x : X) (xs : List X) → same x x ≡ true → IsIn x xs
    → list_any (same x) xs ≡ true
is_among_in same x [] itself is = absurd is
is_among_in same x (y ∷ xs) itself (inl one) = or_left (same x y) (list_any (same x) xs) (ap (same x) one ∙ itself)
is_among_in same x (y ∷ xs) itself (inr is) =
    or_right (same x y) (list_any (same x) xs) (is_among_in same x xs itself is)

pub below_in : (s n : ℕ) → s < n → IsIn s (numbers_below n)
below_in s zero below = absurd (omega arith)
below_in s (suc n) below = by (eqb s n) refl (below_in s n)
  where
    by : (b : Bool) → eqb s n ≡ b → (s < n → IsIn s (numbers_below n)) → IsIn s (numbers_below n ++ n ∷ [])
    by true last more = in_back s (numbers_below n) (n ∷ []) (inl (sym (eqb-true s n last)))
    by false other more = in_front s (numbers_below n) (n ∷ []) (more (grind (arith, nat_tests)))

pub holds_some : {X : Type 0} (test : X → Bool) (o : Option X) → holds test o ≡ true
    → (x : X) × (o ≡ Some x) × (test x ≡ true)
holds_some test (Some x) is = (x, refl, is)
holds_some test None is = absurd (false≢true is)
