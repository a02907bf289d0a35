-- What holds of each number of a list that a filter keeps.
use Rattle.std.proofs.Common.{◌≡◌, ℕ, ◌≤◌, ◌<◌, Bool, true, false, Some, List, [], ◌∷◌, ◌++◌, suc, zero, refl, sym, ◌∙◌, ap, arith}
use Rattle.std.specs.Prelude.{◌&&◌, ◌||◌, ◌==◌, if◌then◌else◌, filter, find}
use Rattle.std.specs.List.{list_all, list_any}
use Rattle.std.proofs.lemmas.Bool.{and_parts, and_from, eqb-true, eq-eqb, ne_eqb, or_right, or_left}
use Rattle.bosh_base.specs.Cloud.{numbers_to}
use Rattle.laws_rows.proofs.FilterLemmas.{filter_more}

-- one that is found is not filtered out
pub find_filter : (p q : ℕ → Bool) (ks : List ℕ) (v : ℕ) → find q ks ≡ Some v → (q v ≡ true → p v ≡ true) →
    filter p ks ≡ [] → ⊥
find_filter p q [] v is more none = cc
find_filter p q (k ∷ ks) v is more none =
    by_tests (find_filter p q ks v) (q k) refl (p k) refl is none
  where
    by_tests : (find q ks ≡ Some v → (q v ≡ true → p v ≡ true) → filter p ks ≡ [] → ⊥) → (b : Bool) → q k ≡ b →
        (c : Bool) → p k ≡ c → (if b then Some k else find q ks) ≡ Some v →
        (if c then k ∷ filter p ks else filter p ks) ≡ [] → ⊥
    by_tests others b holds true passes is none = cc
    by_tests others true holds false passes is none =
        let same : k ≡ v = cc in
        let also : p v ≡ true = more (ap q (sym same) ∙ holds) in
        let no : p v ≡ false = ap p (sym same) ∙ passes in cc
    by_tests others false holds false passes is none = others is more none

any_in : (k : ℕ) (front : List ℕ) → list_any (λ j. j == k) (front ++ k ∷ []) ≡ true
any_in k [] = or_left (k == k) false (eq-eqb k k refl)
any_in k (j ∷ front) = or_right (j == k) (list_any (λ it. it == k) (front ++ k ∷ [])) (any_in k front)

any_more : (p : ℕ → Bool) (xs ys : List ℕ) → list_any p xs ≡ true → list_any p (xs ++ ys) ≡ true
any_more p [] ys is = absurd cc
any_more p (x ∷ xs) ys is = by_first (any_more p xs ys) (p x) is
  where
    by_first : (list_any p xs ≡ true → list_any p (xs ++ ys) ≡ true) → (b : Bool) → (b || list_any p xs) ≡ true →
        (b || list_any p (xs ++ ys)) ≡ true
    by_first others true is = refl
    by_first others false is = others is

-- a number that passes, of those from 1 to n, is in what is left
pub kept_number : (p : ℕ → Bool) (n k : ℕ) → 0 < k → k ≤ n → p k ≡ true →
    list_any (λ j. j == k) (filter p (numbers_to n)) ≡ true
kept_number p zero k first last is = absurd (omega arith)
kept_number p (suc n) k first last is =
    ap (list_any (λ j. j == k)) (filter_more p (numbers_to n) (suc n))
    ∙ by_last (kept_number p n k first) (suc n == k) refl
  where
    by_last : (k ≤ n → p k ≡ true → list_any (λ j. j == k) (filter p (numbers_to n)) ≡ true) → (b : Bool) →
        (suc n == k) ≡ b → list_any (λ j. j == k) (filter p (numbers_to n) ++ filter p (suc n ∷ [])) ≡ true
    by_last others true same =
        let it : suc n ≡ k = eqb-true (suc n) k same in
        ap (λ (b : Bool). list_any (λ j. j == k) (filter p (numbers_to n) ++ (if b then suc n ∷ [] else [])))
        (ap p it ∙ is)
        ∙ (λ i. list_any (λ j. j == k) (filter p (numbers_to n) ++ it i ∷ [])) ∙ any_in k (filter p (numbers_to n))
    by_last others false other =
        any_more (λ j. j == k) (filter p (numbers_to n)) (filter p (suc n ∷ [])) (others (below n k last other) is)
      where
        below : (n k : ℕ) → k ≤ suc n → (suc n == k) ≡ false → k ≤ n
        below n k last other = grind (arith, ne_eqb, eq-eqb (suc n) k, last, other)

-- what holds of all that is left holds of one that passes
pub all_kept : (r : ℕ → Bool) (ks : List ℕ) (k : ℕ) → list_all r ks ≡ true → list_any (λ j. j == k) ks ≡ true → r k ≡
    true
all_kept r [] k all is = absurd cc
all_kept r (j ∷ ks) k all is =
    let parts : (r j ≡ true) × (list_all r ks ≡ true) = and_parts (r j) (list_all r ks) all in
    by_first (all_kept r ks k parts.1) parts.0 (j == k) refl is
  where
    by_first : (list_any (λ it. it == k) ks ≡ true → r k ≡ true) → r j ≡ true → (b : Bool) → (j == k) ≡ b →
        (b || list_any (λ it. it == k) ks) ≡ true → r k ≡ true
    by_first others holds true same is = ap r (sym (eqb-true j k same)) ∙ holds
    by_first others holds false other is = others is

-- what is left passes
pub any_passes : (p : ℕ → Bool) (k : ℕ) (ks : List ℕ) → list_any (λ j. j == k) (filter p ks) ≡ true → p k ≡ true
any_passes p k [] is = absurd cc
any_passes p k (x ∷ xs) is = by_test (any_passes p k xs) (p x) refl is
  where
    by_test : (list_any (λ j. j == k) (filter p xs) ≡ true → p k ≡ true) → (b : Bool) → p x ≡ b →
        list_any (λ j. j == k) (if b then x ∷ filter p xs else filter p xs) ≡ true → p k ≡ true
    by_test others true holds is = by_first (x == k) refl is
      where
        by_first : (b : Bool) → (x == k) ≡ b → (b || list_any (λ j. j == k) (filter p xs)) ≡ true → p k ≡ true
        by_first true same is = ap p (sym (eqb-true x k same)) ∙ holds
        by_first false other is = others is
    by_test others false holds is = others is

same_tests : (a b : Bool) → (a ≡ true → b ≡ true) → (b ≡ true → a ≡ true) → a ≡ b
same_tests true b to from = sym (to refl)
same_tests false true to from = from refl
same_tests false false to from = refl

-- whether a number from 1 to n is in what is left is whether it passes
pub kept_passes : (p : ℕ → Bool) (n k : ℕ) → 0 < k → k ≤ n →
    list_any (λ j. j == k) (filter p (numbers_to n)) ≡ p k
kept_passes p n k first last =
    same_tests (list_any (λ j. j == k) (filter p (numbers_to n))) (p k) (any_passes p k (numbers_to n))
    (kept_number p n k first last)

filter_passes : (q : ℕ → Bool) (k : ℕ) (ks : List ℕ) → list_any (λ j. j == k) ks ≡ true → q k ≡ true →
    list_any (λ j. j == k) (filter q ks) ≡ true
filter_passes q k [] is holds = absurd cc
filter_passes q k (x ∷ xs) is holds = by_tests (λ is. filter_passes q k xs is holds) (x == k) refl (q x) refl is
  where
    by_tests : (list_any (λ j. j == k) xs ≡ true → list_any (λ j. j == k) (filter q xs) ≡ true) → (b : Bool) →
        (x == k) ≡ b → (c : Bool) → q x ≡ c → (b || list_any (λ j. j == k) xs) ≡ true →
        list_any (λ j. j == k) (if c then x ∷ filter q xs else filter q xs) ≡ true
    by_tests others true same true passes is = or_left (x == k) _ same
    by_tests others true same false passes is =
        absurd (let also : q x ≡ true = ap q (eqb-true x k same) ∙ holds in cc)
    by_tests others false other true passes is = or_right (x == k) _ (others is)
    by_tests others false other false passes is = others is

-- .. of two filters
pub kept_twice : (p q : ℕ → Bool) (n k : ℕ) → 0 < k → k ≤ n →
    list_any (λ j. j == k) (filter q (filter p (numbers_to n))) ≡ (p k && q k)
kept_twice p q n k first last =
    same_tests (list_any (λ j. j == k) (filter q (filter p (numbers_to n)))) (p k && q k)
    (λ is. and_from (p k) (q k) (any_first (numbers_to n) is) (any_passes q k (filter p (numbers_to n)) is))
    (λ both.
    let parts : (p k ≡ true) × (q k ≡ true) = and_parts (p k) (q k) both in
    filter_passes q k (filter p (numbers_to n)) (kept_number p n k first last parts.0) parts.1)
  where
    dropped : (ks : List ℕ) → list_any (λ j. j == k) (filter q ks) ≡ true → list_any (λ j. j == k) ks ≡ true
    dropped [] is = is
    dropped (x ∷ xs) is = by_test (dropped xs) (q x) is
      where
        by_test : (list_any (λ j. j == k) (filter q xs) ≡ true → list_any (λ j. j == k) xs ≡ true) → (b : Bool) →
            list_any (λ j. j == k) (if b then x ∷ filter q xs else filter q xs) ≡ true →
            ((x == k) || list_any (λ j. j == k) xs) ≡ true
        by_test others true is = by_first (x == k) is
          where
            by_first : (b : Bool) → (b || list_any (λ j. j == k) (filter q xs)) ≡ true →
                (b || list_any (λ j. j == k) xs) ≡ true
            by_first true is = refl
            by_first false is = others is
        by_test others false is = or_right (x == k) _ (others is)

    any_first : (ks : List ℕ) → list_any (λ j. j == k) (filter q (filter p ks)) ≡ true → p k ≡ true
    any_first ks is = any_passes p k ks (dropped (filter p ks) is)
