-- The variants of an enum are told apart by their places.
use Rattle.std.proofs.Common.{◌≡◌, ℕ, suc, Bool, true, List, [], ◌∷◌, ◌++◌, Some, sym, ap, subst, ◌∙◌, inl, inr}
use Rattle.std.proofs.lemmas.Bool.{cases_eq, eq-eqb, ne_eqb}
use Rattle.bosh_entry.specs.Reading.{IsBytes, Reader, byte_at, variant_at, one_of_at}
use Rattle.bosh_entry.proofs.CodingLemmas.{Takes, IsMaking, IsCoding, bind_some, byte_takes}

-- a variant: its place and its fields
pub record IsVariant {A : Type 0} (spelling : A → List ℕ) (test : A → Bool) (place : ℕ) (reading : Reader A) : Type 0 where
  pub takes : (bytes : List ℕ) (x : A × List ℕ) → IsBytes bytes → reading bytes ≡ Some x → Takes (place ∷ bytes) (spelling x.0) x.1 × (test x.0 ≡ true)

pub variant_law : {P A : Type 0} {s : P → List ℕ} {f : P → Bool} {make : P → A} {r : Reader A} {spelling : A → List ℕ} {test : A → Bool} {place : ℕ} → IsMaking s f make r
    → ((p : P) → spelling (make p) ≡ place ∷ s p) → ((p : P) → test (make p) ≡ f p) → IsVariant spelling test place r
variant_law {P} {A} {s} {f} {make} {r} {spelling} {test} {place} law spelled tested = record {
  takes = λ bytes x fits e.
      let one = law.takes bytes x fits e in
      let whole : spelling x.0 ≡ place ∷ s one.0 = ap spelling (sym one.1) ∙ spelled one.0 in (
        record { parts = ap (λ (t : List ℕ). place ∷ t) one.2.parts ∙ ap (λ (t : List ℕ). t ++ x.1) (sym whole); rest_fits = one.2.rest_fits },
        ap test (sym one.1) ∙ tested one.0 ∙ one.3,
      );
}

-- each of the variants, from a place on
abbrev pub AreVariants : {A : Type 0} → (A → List ℕ) → (A → Bool) → ℕ → List (Reader A) → Type 0
AreVariants s f place [] = Unit {0}
AreVariants s f place (r ∷ rs) = IsVariant s f place r × AreVariants s f (suc place) rs

pub variants_take : {A : Type 0} (s : A → List ℕ) (f : A → Bool) (place : ℕ) (rs : List (Reader A)) → AreVariants s f place rs
    → (b : ℕ) (bytes : List ℕ) (x : A × List ℕ) → IsBytes bytes → variant_at place rs b bytes ≡ Some x → Takes (b ∷ bytes) (s x.0) x.1 × (f x.0 ≡ true)
variants_take s f place [] each b bytes x fits e = absurd cc
variants_take {A} s f place (r ∷ rs) each b bytes x fits e =
    elim (cases_eq b place) [
      | inl same ↦
          let here : r bytes ≡ Some x = rw (eq-eqb b place same) at e in
          subst (λ (p : ℕ). Takes (p ∷ bytes) (s x.0) x.1 × (f x.0 ≡ true)) (sym same) (each.0.takes bytes x fits here)
      | inr other ↦
          let later : variant_at (suc place) rs b bytes ≡ Some x = rw (ne_eqb b place other) at e in
          variants_take s f (suc place) rs each.1 b bytes x fits later
    ]

pub one_of_law : {A : Type 0} {s : A → List ℕ} {f : A → Bool} (rs : List (Reader A)) → AreVariants s f 0 rs → ((a : A) (rest : List ℕ) → f a ≡ true → one_of_at rs (s a ++ rest) ≡ Some (a, rest)) → IsCoding s f (one_of_at rs)
one_of_law {A} {s} {f} rs each again = record {
  takes = λ bytes x fits e.
      let b = bind_some (byte_at bytes) (λ (b : ℕ × List ℕ). variant_at 0 rs b.0 b.1) x e in
      let one = byte_takes bytes b.0 fits b.1 in
      let two = variants_take s f 0 rs each b.0.0 b.0.1 x one.0.rest_fits b.2 in
      (record { parts = one.0.parts ∙ two.0.parts; rest_fits = two.0.rest_fits }, two.1);
  again = again;
}
