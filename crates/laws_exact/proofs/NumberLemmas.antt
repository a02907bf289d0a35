-- Numbers from 1 on, of which at most one is left.
use Rattle.laws_items.proofs.ListedLemmas.{numbered_in}
use Rattle.std.proofs.Common.{◌≡◌, ◌∙◌, ℕ, ◌<◌, ◌≤◌, zero, suc, Bool, true, false, List, [], ◌∷◌, ◌++◌}
use Rattle.std.proofs.Common.{filter, ap, refl, sym, subst, arith, inl, inr, append-nil}
use Rattle.std.specs.Prelude.{◌⊎◌, if◌then◌else◌, nat_le, nat_lt}
use Rattle.std.proofs.lemmas.Bool.{and_parts, false≢true, leb-true, ltb-true}
use Rattle.bosh_base.specs.Cloud.{numbers_to}
use Rattle.laws_effects.specs.Orderly.{is_created}
use Rattle.laws_rows.proofs.FilterLemmas.{filter_more}
use Rattle.laws_exact.proofs.ListLemmas.{in_parts, of_filtered}
use Rattle.laws_items.proofs.ListLemmas.{in_back, in_front}
use Rattle.laws_items.specs.Lists.{IsIn}
use Rattle.bosh_history.specs.Exact.{are_at_most_one}

-- ---- which numbers there are

pub created_in : (last n : ℕ) → is_created last n ≡ true → IsIn n (numbers_to last)
created_in last n is =
    let (first, rest) = and_parts (nat_lt 0 n) (nat_le n last) is in
    let low : 0 < n = ltb-true 0 n first in
    numbered_in n last (omega arith) (leb-true n last rest)

within : (n last : ℕ) → IsIn n (numbers_to last) → n ≤ last
within n zero is = absurd is
within n (suc last) is = by (in_parts n (numbers_to last) (suc last ∷ []) is) (within n last)
  where
    by : IsIn n (numbers_to last) ⊎ IsIn n (suc last ∷ []) → (IsIn n (numbers_to last) → n ≤ last) → n ≤ suc last
    by (inl is) more = let low : n ≤ last = more is in omega arith
    by (inr (inl same)) more = grind (arith, same)
    by (inr (inr is)) more = absurd is

-- ---- those that are left

pub none_in : {X : Type 0} (xs : List X) → ((x : X) → IsIn x xs → ⊥) → xs ≡ []
none_in [] none = refl
none_in (x ∷ xs) none = absurd (none x (inl refl))

-- each that passes is the same number, so at most one is left
pub one_left : (p : ℕ → Bool) (v n : ℕ) → ((k : ℕ) → IsIn k (filter p (numbers_to n)) → k ≡ v)
    → are_at_most_one (filter p (numbers_to n)) ≡ true
one_left p v zero each = refl
one_left p v (suc n) each =
    ap are_at_most_one (filter_more p (numbers_to n) (suc n)) ∙ by (p (suc n)) refl (one_left p v n)
  where
    front : (k : ℕ) → IsIn k (filter p (numbers_to n)) → k ≡ v
    front k is =
        each k (subst (λ ks. IsIn k ks) (sym (filter_more p (numbers_to n) (suc n)))
        (in_front k (filter p (numbers_to n)) (filter p (suc n ∷ [])) is))

    last_is : p (suc n) ≡ true → suc n ≡ v
    last_is passes =
        each (suc n) (subst (λ ks. IsIn (suc n) ks) (sym (filter_more p (numbers_to n) (suc n)))
        (in_back (suc n) (filter p (numbers_to n)) (filter p (suc n ∷ []))
        (subst (λ (b : Bool). IsIn (suc n) (if b then suc n ∷ [] else [])) (sym passes) (inl refl))))

    empty : suc n ≡ v → filter p (numbers_to n) ≡ []
    empty last =
        none_in (filter p (numbers_to n))
        (λ k is.
        let same : k ≡ v = front k is in
        let low : k ≤ n = within k n (of_filtered p k (numbers_to n) is).0 in
        grind (arith, same, low, last))

    by : (b : Bool) → p (suc n) ≡ b
        → (((k : ℕ) → IsIn k (filter p (numbers_to n)) → k ≡ v) → are_at_most_one (filter p (numbers_to n)) ≡ true)
        → are_at_most_one (filter p (numbers_to n) ++ (if p (suc n) then suc n ∷ [] else [])) ≡ true
    by true passes more =
        (λ i. are_at_most_one (empty (last_is passes) i ++ (if passes i then suc n ∷ [] else [])))
    by false fails more =
        (λ i. are_at_most_one (filter p (numbers_to n) ++ (if fails i then suc n ∷ [] else [])))
        ∙ ap are_at_most_one (append-nil (filter p (numbers_to n))) ∙ more front

-- .. and where that number passes, it alone is left
pub just_one : (v : ℕ) (xs : List ℕ) → are_at_most_one xs ≡ true → IsIn v xs → xs ≡ v ∷ []
just_one v [] one is = absurd is
just_one v (x ∷ []) one (inl same) = ap (λ k. k ∷ []) same
just_one v (x ∷ []) one (inr is) = absurd is
just_one v (x ∷ y ∷ xs) one is = absurd (false≢true one)
