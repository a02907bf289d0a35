-- Sums in which one term changes.
use Prim.Native.Nat.{zero, suc}
use Rattle.std.proofs.Common.{◌≡◌, ◌∙◌, ℕ, ◌+◌, ◌≤◌, ◌<◌, Bool, true, false, cond, List, [], ◌∷◌}
use Rattle.std.proofs.Common.{arith, inl, inr, refl, subst, sym}
use Rattle.std.specs.Prelude.{◌==◌, count_by, map, sum_by}
use Rattle.std.proofs.lemmas.Bool.{eqb-true}
use Rattle.std.proofs.lemmas.Bool.Decides.{eqb_tells}
use Rattle.std.proofs.lemmas.List.Sums.{sum_by-cons, sum_by_push}
use Rattle.bosh_history.specs.Words.{numbers_below}
use Rattle.laws_items.specs.Lists.{IsIn}

-- ---- lists

pub sum_low : {X : Type 0} (f g : X → ℕ) (xs : List X) → ((x : X) → IsIn x xs → f x ≤ g x) → sum_by f xs ≤ sum_by g xs
sum_low f g [] each = omega arith
sum_low f g (x ∷ xs) each =
    let one : f x ≤ g x = each x (inl refl) in
    let rest : sum_by f xs ≤ sum_by g xs = sum_low f g xs (λ y is. each y (inr is)) in
    omega (arith, one, rest, sum_by-cons f x xs, sum_by-cons g x xs)

-- one term is more
pub sum_grows : {X : Type 0} (f g : X → ℕ) (x : X) (xs : List X) → IsIn x xs → ((y : X) → IsIn y xs → f y ≤ g y)
    → f x + 1 ≤ g x → sum_by f xs + 1 ≤ sum_by g xs
sum_grows f g x [] isin each more = absurd isin
sum_grows f g x (y ∷ xs) (inl same) each more =
    let one : f y + 1 ≤ g y = subst (λ (z : _). f z + 1 ≤ g z) (sym same) more in
    let rest : sum_by f xs ≤ sum_by g xs = sum_low f g xs (λ z is. each z (inr is)) in
    omega (arith, one, rest, sum_by-cons f y xs, sum_by-cons g y xs)
sum_grows f g x (y ∷ xs) (inr isin) each more =
    let one : f y ≤ g y = each y (inl refl) in
    let rest : sum_by f xs + 1 ≤ sum_by g xs = sum_grows f g x xs isin (λ z is. each z (inr is)) more in
    omega (arith, one, rest, sum_by-cons f y xs, sum_by-cons g y xs)

pub sum_mapped : {X Y : Type 0} (f : Y → ℕ) (h : X → Y) (xs : List X) → sum_by f (map h xs) ≡ sum_by (λ x. f (h x)) xs
sum_mapped f h [] = refl
sum_mapped f h (x ∷ xs) =
    sum_by-cons f (h x) (map h xs) ∙ (λ j. f (h x) + sum_mapped f h xs j) ∙ sym (sum_by-cons (λ x. f (h x)) x xs)

-- ---- how many meet a test

one_of : (b c : Bool) → (b ≡ true → c ≡ true) → cond {A = ℕ} b 1 0 ≤ cond {A = ℕ} c 1 0
one_of true c goes = subst (λ (it : Bool). 1 ≤ cond {A = ℕ} it 1 0) (sym (goes refl)) (omega arith)
one_of false true goes = omega arith
one_of false false goes = omega arith

pub count_low : {X : Type 0} (p q : X → Bool) (xs : List X) → ((x : X) → IsIn x xs → p x ≡ true → q x ≡ true)
    → count_by p xs ≤ count_by q xs
count_low p q xs goes =
    sum_low (λ x. cond {A = ℕ} (p x) 1 0) (λ x. cond {A = ℕ} (q x) 1 0) xs
    (λ x isin. one_of (p x) (q x) (goes x isin))

-- one more does
pub count_grows : {X : Type 0} (p q : X → Bool) (x : X) (xs : List X) → IsIn x xs
    → ((y : X) → IsIn y xs → p y ≡ true → q y ≡ true) → p x ≡ false → q x ≡ true
    → count_by p xs + 1 ≤ count_by q xs
count_grows p q x xs isin goes fails meets =
    sum_grows (λ y. cond {A = ℕ} (p y) 1 0) (λ y. cond {A = ℕ} (q y) 1 0) x xs isin
    (λ y is. one_of (p y) (q y) (goes y is)) more
  where
    more : cond {A = ℕ} (p x) 1 0 + 1 ≤ cond {A = ℕ} (q x) 1 0
    more =
        subst (λ (b : Bool). cond {A = ℕ} b 1 0 + 1 ≤ cond {A = ℕ} (q x) 1 0) (sym fails)
        (subst (λ (c : Bool). 0 + 1 ≤ cond {A = ℕ} c 1 0) (sym meets) (omega arith))

-- ---- the numbers below one

pub below_low : (f g : ℕ → ℕ) (n : ℕ) → ((k : ℕ) → k < n → f k ≤ g k)
    → sum_by f (numbers_below n) ≤ sum_by g (numbers_below n)
below_low f g zero each = omega arith
below_low f g (suc n) each =
    let one : f n ≤ g n = each n (omega arith) in
    let rest : sum_by f (numbers_below n) ≤ sum_by g (numbers_below n) =
    below_low f g n (λ k low. each k (omega (arith, low))) in
    omega (arith, one, rest, sum_by_push f (numbers_below n) n, sum_by_push g (numbers_below n) n)

-- one term changes by so much, and no other grows less
pub below_step : (f g : ℕ → ℕ) (s a b n : ℕ) → ((k : ℕ) → (s == k) ≡ false → f k ≤ g k) → f s + a ≤ g s + b → s < n
    → sum_by f (numbers_below n) + a ≤ sum_by g (numbers_below n) + b
below_step f g s a b zero others one low = absurd (omega (arith, low))
below_step f g s a b (suc n) others one low =
    by (s == n) refl (λ less. below_step f g s a b n others one less)
  where
    by : (same : Bool) → (s == n) ≡ same
        → (s < n → sum_by f (numbers_below n) + a ≤ sum_by g (numbers_below n) + b)
        → sum_by f (numbers_below (suc n)) + a ≤ sum_by g (numbers_below (suc n)) + b
    by true same more =
        let here : f n + a ≤ g n + b = subst (λ (k : ℕ). f k + a ≤ g k + b) (eqb-true s n same) one in
        let rest : sum_by f (numbers_below n) ≤ sum_by g (numbers_below n) =
        below_low f g n (λ k less. others k (apart k less)) in
        omega (arith, here, rest, sum_by_push f (numbers_below n) n, sum_by_push g (numbers_below n) n)
      where
        apart : (k : ℕ) → k < n → (s == k) ≡ false
        apart k less = grind (arith, eqb_tells s k, eqb-true s n same, less)
    by false other more =
        let here : f n ≤ g n = others n other in
        let less : s < n = grind (arith, low, eqb_tells s n, other) in
        let rest : sum_by f (numbers_below n) + a ≤ sum_by g (numbers_below n) + b = more less in
        omega (arith, here, rest, sum_by_push f (numbers_below n) n, sum_by_push g (numbers_below n) n)
