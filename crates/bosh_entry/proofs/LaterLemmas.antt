-- What the older format has not is read as it was spelled, in both formats.
use Rattle.std.proofs.Common.{◌≡◌, ℕ, Bool, true, false, List, [], ◌∷◌, Option, Some, None, refl, sym, ap, subst}
use Rattle.std.specs.Prelude.{not}
use Rattle.std.specs.Option.{is_none}
use Rattle.bosh_entry.specs.declared.format.Format.{Format}
use Rattle.bosh_entry.specs.declared.format.Format.TheVariants.{Older, Present}
use Rattle.bosh_entry.specs.Reading.{Reader}
use Rattle.bosh_entry.specs.Later.{later, is_later, later_at, present_at, is_nil}
use Rattle.bosh_entry.proofs.CodingLemmas.{IsCoding, Takes, some_is}
use Rattle.bosh_entry.proofs.VariantLemmas.{IsVariant}

pub none_is : {A : Type 0} (o : Option A) → is_none o ≡ true → o ≡ None
none_is None h = refl
none_is (Some a) h = absurd cc

pub nil_is : {A : Type 0} (items : List A) → is_nil items ≡ true → items ≡ []
nil_is [] h = refl
nil_is (a ∷ items) h = absurd cc

pub false_is : (b : Bool) → not b ≡ true → b ≡ false
false_is false h = refl
false_is true h = absurd cc

-- a field, and the value that it has in the older format
pub later_law : {A : Type 0} {s : A → List ℕ} {f : A → Bool} {r : Reader A} (is_absent : A → Bool) (absent : A) → ((a : A) → is_absent a ≡ true → a ≡ absent) → is_absent absent ≡ true
    → IsCoding s f r → (format : Format) → IsCoding (later s format) (is_later is_absent f format) (later_at absent r format)
unfolding later_at
later_law {A} {s} {f} {r} is_absent absent only absent_is law Older = record {
  takes = λ bytes x fits e.
      subst (λ (y : A × List ℕ). Takes bytes [] y.1 × (is_absent y.0 ≡ true)) (some_is (absent, bytes) x e) (record { parts = refl; rest_fits = fits }, absent_is);
  again = λ a rest h. ap (λ (b : A). Some (b, rest)) (sym (only a h));
}
later_law is_absent absent only absent_is law Present = record { takes = law.takes; again = law.again }

-- a variant
pub present_law : {A : Type 0} {s : A → List ℕ} {f : A → Bool} {place : ℕ} {r : Reader A} (format : Format) → (format ≡ Present → IsVariant s f place r) → IsVariant s f place (present_at format r)
unfolding present_at
present_law Older variant = record { takes = λ bytes x fits e. absurd cc }
present_law Present variant = record { takes = (variant refl).takes }
