-- Numbers from 1 on, and what a filter keeps of a list of them.
use Rattle.std.proofs.Common.{◌≡◌, ℕ, ◌+◌, ◌≤◌, Bool, true, false, List, [], ◌∷◌, ◌++◌, suc, zero, refl, sym, ◌∙◌, ap, subst, arith, add-one}
use Rattle.std.specs.Prelude.{◌&&◌, ◌||◌, ◌==◌, nat_eq, nat_le, not, if◌then◌else◌, filter}
use Rattle.std.specs.List.{list_all}
use Rattle.std.specs.Cmp.Lexicographic.{pointwise}
use Rattle.std.proofs.lemmas.Bool.{and_parts, and_from, eqb-true, leb-true, le-leb}
use Rattle.bosh_base.specs.Cloud.{numbers_to}

pub numbers-more : (n : ℕ) → numbers_to (n + 1) ≡ numbers_to n ++ (n + 1) ∷ []
numbers-more n = subst (λ (m : ℕ). numbers_to m ≡ numbers_to n ++ m ∷ []) (sym (add-one n)) refl

pub numbers_within : (n m : ℕ) → n ≤ m → list_all (λ k. nat_le k m) (numbers_to n) ≡ true
numbers_within zero m low = refl
numbers_within (suc n) m low =
    all_more (λ k. nat_le k m) (numbers_to n) (suc n) (numbers_within n m (omega arith)) (le-leb (suc n) m low)
  where
    all_more : (p : ℕ → Bool) (ks : List ℕ) (k : ℕ) → list_all p ks ≡ true → p k ≡ true → list_all p (ks ++ k ∷ []) ≡
        true
    all_more p [] k all is = and_from (p k) true is refl
    all_more p (j ∷ ks) k all is =
        let parts : (p j ≡ true) × (list_all p ks ≡ true) = and_parts (p j) (list_all p ks) all in
        and_from (p j) (list_all p (ks ++ k ∷ [])) parts.0 (all_more p ks k parts.1 is)

pub filter_within : (p q : ℕ → Bool) (n : ℕ) (ks : List ℕ) → list_all (λ k. nat_le k n) ks ≡ true →
    ((k : ℕ) → k ≤ n → q k ≡ p k) → filter q ks ≡ filter p ks
filter_within p q n [] low same = refl
filter_within p q n (k ∷ ks) low same =
    let parts : (nat_le k n ≡ true) × (list_all (λ k. nat_le k n) ks ≡ true) = and_parts (nat_le k n) _ low in
    λ i. if same k (leb-true k n parts.0) i then k ∷ filter_within p q n ks parts.1 same i
    else filter_within p q n ks parts.1 same i

pub filter_more : (p : ℕ → Bool) (ks : List ℕ) (k : ℕ) → filter p (ks ++ k ∷ []) ≡ filter p ks ++ filter p (k ∷ [])
filter_more p [] k = refl
filter_more p (j ∷ ks) k = by_test (p j) (filter_more p ks k)
  where
    by_test : (b : Bool) → filter p (ks ++ k ∷ []) ≡ filter p ks ++ filter p (k ∷ []) →
        (if b then j ∷ filter p (ks ++ k ∷ []) else filter p (ks ++ k ∷ []))
        ≡ (if b then j ∷ filter p ks else filter p ks) ++ filter p (k ∷ [])
    by_test true others = ap (λ rest. j ∷ rest) others
    by_test false others = others

pub none_listed : (ks : List ℕ) → pointwise nat_eq ks [] ≡ true → ks ≡ []
none_listed [] is = refl
none_listed (k ∷ ks) is = absurd cc

-- each that passes is the one that is listed
pub listed_one : (p : ℕ → Bool) (v : ℕ) (ks : List ℕ) → pointwise nat_eq (filter p ks) (v ∷ []) ≡ true →
    list_all (λ k. not (p k) || k == v) ks ≡ true
listed_one p v [] is = refl
listed_one p v (k ∷ ks) is = by_test (λ is. listed_one p v ks is) (p k) refl is
  where
    nothing : (ks : List ℕ) → filter p ks ≡ [] → list_all (λ k. not (p k) || k == v) ks ≡ true
    nothing [] none = refl
    nothing (k ∷ ks) none = by_one (λ none. nothing ks none) (p k) refl none
      where
        by_one : (filter p ks ≡ [] → list_all (λ k. not (p k) || k == v) ks ≡ true) → (b : Bool) → p k ≡ b →
            (if b then k ∷ filter p ks else filter p ks) ≡ [] →
            ((not (p k) || k == v) && list_all (λ k. not (p k) || k == v) ks) ≡ true
        by_one others true holds none = absurd cc
        by_one others false holds none =
            and_from (not (p k) || k == v) _ (ap (λ b. not b || k == v) holds) (others none)

    by_test : (pointwise nat_eq (filter p ks) (v ∷ []) ≡ true → list_all (λ k. not (p k) || k == v) ks ≡ true) →
        (b : Bool) → p k ≡ b → pointwise nat_eq (if b then k ∷ filter p ks else filter p ks) (v ∷ []) ≡ true →
        ((not (p k) || k == v) && list_all (λ k. not (p k) || k == v) ks) ≡ true
    by_test others true holds is =
        let parts : ((k == v) ≡ true) × (pointwise nat_eq (filter p ks) [] ≡ true) =
        and_parts (k == v) (pointwise nat_eq (filter p ks) []) is in
        and_from (not (p k) || k == v) _ (ap (λ b. not (p k) || b) parts.0 ∙ or_true (not (p k)))
        (nothing ks (none_listed (filter p ks) parts.1))
      where
        or_true : (b : Bool) → (b || true) ≡ true
        or_true true = refl
        or_true false = refl
    by_test others false holds is =
        and_from (not (p k) || k == v) _ (ap (λ b. not b || k == v) holds) (others is)

-- none passes where those that do must be the one, and the one does not
pub filter_but : (p q : ℕ → Bool) (v : ℕ) (ks : List ℕ) → list_all (λ k. not (p k) || k == v) ks ≡ true →
    ((k : ℕ) → q k ≡ true → p k ≡ true) → q v ≡ false → filter q ks ≡ []
filter_but p q v [] all less none = refl
filter_but p q v (k ∷ ks) all less none =
    let parts : ((not (p k) || k == v) ≡ true) × (list_all (λ k. not (p k) || k == v) ks ≡ true) =
    and_parts (not (p k) || k == v) _ all in
    ap (λ (b : Bool). if b then k ∷ filter q ks else filter q ks) (by_test (q k) refl parts.0)
    ∙ filter_but p q v ks parts.1 less none
  where
    by_test : (b : Bool) → q k ≡ b → (not (p k) || k == v) ≡ true → b ≡ false
    by_test true holds one =
        let passes : p k ≡ true = less k holds in
        let same : (k == v) ≡ true = sym (ap (λ b. not b || k == v) passes) ∙ one in
        absurd (let here : q v ≡ true = ap q (sym (eqb-true k v same)) ∙ holds in cc)
    by_test false holds one = refl
