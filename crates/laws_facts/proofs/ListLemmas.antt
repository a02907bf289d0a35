-- Lists in which no item stands twice, and what is among them.
use Rattle.std.proofs.Common.{◌≡◌, ℕ, Bool, true, false, ◌&&◌, List, [], ◌∷◌, ◌++◌, refl, ◌∙◌, arith}
use Rattle.std.specs.Prelude.{not, ◌||◌, ◌⊎◌, ◌≢◌}
use Rattle.std.specs.Bool.{Decides}
use Rattle.std.specs.Str.{bytes_eq}
use Rattle.std.proofs.lemmas.Bool.Decides.{Decides-eqb}
use Rattle.std.proofs.lemmas.List.Folds.{list_any-append}
use Rattle.bosh_base.specs.Exact.{Decides-list}
use Rattle.bosh_history.specs.Words.{is_among, without}
use Rattle.bosh_rows.specs.SoundSnapshot.{are_distinct}

-- a test of equality says so, or that there is none
abbrev pub Tells : {A : Type 0} → (A → A → Bool) → A → A → Type 0
Tells same a b = ((same a b ≡ true) × (a ≡ b)) ⊎ ((same a b ≡ false) × (a ≢ b))

pub bytes_tells : (a b : List ℕ) → Tells bytes_eq a b
bytes_tells a b = let d : Decides (bytes_eq a b) (a ≡ b) = Decides-list Decides-eqb a b in grind (arith)

module _ {A : Type 0} (same : A → A → Bool) (tells : (a b : A) → Tells same a b) where
  pub among_one_more : (x a : A) (items : List A)
      → is_among same x (items ++ a ∷ []) ≡ (is_among same x items || same x a)
  among_one_more x a items = list_any-append (same x) items (a ∷ []) ∙ grind (arith)

  pub among_without : (x a : A) (items : List A)
      → is_among same x (without same a items) ≡ (is_among same x items && not (same a x))
  among_without x a [] = refl
  among_without x a (b ∷ items) = grind (arith, among_without x a items, tells a b, tells x b, tells a x)

  pub distinct_one_more : (a : A) (items : List A) → are_distinct same items ≡ true → is_among same a items ≡ false
      → are_distinct same (items ++ a ∷ []) ≡ true
  distinct_one_more a [] apart other = refl
  distinct_one_more a (b ∷ items) apart other =
      grind (arith, distinct_one_more a items, among_one_more b a items, tells a b, tells b a)

  pub distinct_without : (a : A) (items : List A) → are_distinct same items ≡ true
      → are_distinct same (without same a items) ≡ true
  distinct_without a [] apart = refl
  distinct_without a (b ∷ items) apart = grind (arith, distinct_without a items, among_without b a items)
