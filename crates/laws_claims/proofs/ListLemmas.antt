-- Membership of filtered lists, and what is counted of them.
use Rattle.std.proofs.Common.{◌≡◌, ◌∙◌, Bool, true, false, List, [], ◌∷◌}
use Rattle.std.proofs.Common.{filter, ap, refl, sym, arith, inl, inr}
use Rattle.std.specs.Prelude.{if◌then◌else◌, count_by}
use Rattle.laws_items.specs.Lists.{IsIn}

pub of_filtered : {X : Type 0} (p : X → Bool) (x : X) (xs : List X) → IsIn x (filter p xs) → IsIn x xs × (p x ≡ true)
of_filtered p x [] is = absurd is
of_filtered p x (y ∷ xs) is = by (p y) refl (of_filtered p x xs) is
  where
    by : (b : Bool) → p y ≡ b → (IsIn x (filter p xs) → IsIn x xs × (p x ≡ true))
        → IsIn x (if b then y ∷ filter p xs else filter p xs) → IsIn x (y ∷ xs) × (p x ≡ true)
    by true meets more (inl same) = (inl same, ap p (sym same) ∙ meets)
    by true meets more (inr is) = let it : IsIn x xs × (p x ≡ true) = more is in (inr it.0, it.1)
    by false fails more is = let it : IsIn x xs × (p x ≡ true) = more is in (inr it.0, it.1)

-- none is counted where none is met
pub none_counted : {X : Type 0} (p : X → Bool) (xs : List X) → ((x : X) → IsIn x xs → p x ≡ false) → count_by p xs ≡ 0
none_counted p [] each = refl
none_counted p (x ∷ xs) each = grind (arith, each x (inl refl), none_counted p xs (λ y is. each y (inr is)))
