-- One more item of a fold, and all of them, counted or not.
use Rattle.std.proofs.Common.{◌≡◌, ◌∙◌, ℕ, ◌+◌, ◌<◌, ◌≤◌, List, [], ◌∷◌, ap, arith, get_or, length, refl, suc, subst, sym, take, zero}
use Rattle.std.specs.Prelude.{fold}
use Rattle.std.specs.List.{enumerate_from}
use Rattle.std.proofs.lemmas.List.{take_all}
use Rattle.std.proofs.lemmas.List.FromFn.{get_or-enumerate_from, length-enumerate_from}
use Rattle.std.proofs.lemmas.List.Sums.{fold_more}

-- an item counts with its place
pub one_more : {A X : Type 0} (step : A → ℕ × X → A) (a : A) (items : List X) (k : ℕ) (it : X) → k < length items
    → it ≡ get_or items k it
    → fold step a (take (k + 1) (enumerate_from 0 items)) ≡ step (fold step a (take k (enumerate_from 0 items))) (k, it)
one_more {A} {X} step a items k it below is =
    let entries : List (ℕ × X) = enumerate_from 0 items in
    let inside : k < length entries = subst (λ n. k < n) (sym (length-enumerate_from 0 items)) below in
    let number : 0 + k ≡ k = omega arith in
    fold_more step a entries k (k, it) inside
    ∙ ap (step (fold step a (take k entries)))
    (get_or-enumerate_from 0 items k (k, it) below ∙ (λ i. (number i, sym is i)))

pub all_done : {A X : Type 0} (step : A → ℕ × X → A) (a : A) (items : List X) (k : ℕ) → length items ≤ k
    → fold step a (take k (enumerate_from 0 items)) ≡ fold step a (enumerate_from 0 items)
all_done step a items k all =
    ap (fold step a) (take_all k (enumerate_from 0 items)
    (subst (λ n. n ≤ k) (sym (length-enumerate_from 0 items)) all))

pub same_item : {X : Type 0} (items : List X) (k : ℕ) (d : X) → get_or items k (get_or items k d) ≡ get_or items k d
same_item [] k d = refl
same_item (x ∷ items) zero d = refl
same_item (x ∷ items) (suc k) d = same_item items k d

-- a copied item counts with its place
pub one_copy_more : {A X : Type 0} (step : A → ℕ × X → A) (a : A) (items : List X) (k : ℕ) (d : X) → k < length items
    → fold step a (take (k + 1) (enumerate_from 0 items))
    ≡ step (fold step a (take k (enumerate_from 0 items))) (k, get_or items k d)
one_copy_more step a items k d below = one_more step a items k (get_or items k d) below (sym (same_item items k d))

-- ---- of a loop

pub counted_on : {A X : Type 0} (step : A → ℕ × X → A) (a : A) (items : List X) (k : ℕ) (it : X) (now after : A) → k < length items
    → it ≡ get_or items k it → now ≡ fold step a (take k (enumerate_from 0 items)) → after ≡ step now (k, it)
    → after ≡ fold step a (take (k + 1) (enumerate_from 0 items))
counted_on step a items k it now after below is so_far done =
    done ∙ ap (λ before. step before (k, it)) so_far ∙ sym (one_more step a items k it below is)

pub gone_on : {A X : Type 0} (step : A → X → A) (a : A) (items : List X) (k : ℕ) (it : X) (now after : A) → k < length items
    → it ≡ get_or items k it → now ≡ fold step a (take k items) → after ≡ step now it
    → after ≡ fold step a (take (k + 1) items)
gone_on step a items k it now after below is so_far done =
    done ∙ ap (λ before. step before it) so_far ∙ ap (step (fold step a (take k items))) is ∙ sym (fold_more step a items k it below)
