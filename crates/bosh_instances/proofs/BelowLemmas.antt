-- The numbers below one.
use Rattle.std.proofs.Common.{◌≡◌, ◌∙◌, ℕ, zero, suc, ◌+◌, ◌<◌, Bool, true, false, [], ◌∷◌, ◌++◌, Option, Some, None, find, length, get_or, length-append, add-one, arith, ap, refl, subst, sym, inl, inr}
use Rattle.std.specs.Option.{option_or}
use Rattle.std.proofs.Math.ListN.{get_or-append}
use Rattle.std.proofs.Math.Seq.{get_or-append_seam}
use Rattle.std.proofs.lemmas.Bool.{cases_lt}
use Rattle.std.proofs.lemmas.List.Folds.{find-append}
use Rattle.bosh_wants.specs.Wants.{below}

pub below-length : (n : ℕ) → length (below n) ≡ n
below-length zero = refl
below-length (suc n) = let e = below-length n in let l = length-append (below n) (n ∷ []) in omega (arith, e, l)

-- they stand by their order
pub below-at : (n i d : ℕ) → i < n → get_or (below n) i d ≡ i
below-at zero i d h = absurd (omega (arith, h))
below-at (suc n) i d h =
    elim (cases_lt i n) [
      | inl less ↦
          let within : i < length (below n) = subst (λ (m : ℕ). i < m) (sym (below-length n)) less in
          get_or-append (below n) (n ∷ []) d i within ∙ below-at n i d less
      | inr past ↦
          let same : i ≡ n = omega (arith, past, h) in
          let end : length (below n) ≡ i = below-length n ∙ sym same in
          subst (λ (j : ℕ). get_or (below n ++ n ∷ []) j d ≡ i) end (get_or-append_seam (below n) n [] d ∙ sym same)
    ]

-- the first that passes a test
pub find-below : (test : ℕ → Bool) (n i : ℕ) → find test (below i) ≡ None → test i ≡ true → i < n → find test (below n) ≡ Some i
find-below test zero i none passes h = absurd (omega (arith, h))
find-below test (suc n) i none passes h =
    elim (cases_lt i n) [
      | inl less ↦
          find-append test (below n) (n ∷ [])
          ∙ ap (λ (found : Option ℕ). option_or found (find test (n ∷ []))) (find-below test n i none passes less)
      | inr past ↦
          let same : i ≡ n = omega (arith, past, h) in
          let here : find test (below i ++ i ∷ []) ≡ Some i =
          find-append test (below i) (i ∷ []) ∙ (ap (λ (found : Option ℕ). option_or found (find test (i ∷ []))) none ∙ rw passes refl) in
          subst (λ (m : ℕ). find test (below m ++ m ∷ []) ≡ Some i) same here
    ]

-- one more that does not pass it
pub find-below-more : (test : ℕ → Bool) (i : ℕ) → find test (below i) ≡ None → test i ≡ false → find test (below (i + 1)) ≡ None
find-below-more test i none fails =
    let longer : find test (below (suc i)) ≡ None =
    find-append test (below i) (i ∷ []) ∙ (ap (λ (found : Option ℕ). option_or found (find test (i ∷ []))) none ∙ rw fails refl) in
    rw (add-one) longer
