-- Tests that tell values apart.
use Rattle.std.specs.Prelude.{◌≡◌, Bool, Option, Some, None, List}
use Rattle.std.proofs.Common.{refl, ap}
use Rattle.std.specs.Bool.{Decides}
use Rattle.std.specs.Option.{option_eq}
use Rattle.std.specs.Cmp.Lexicographic.{pointwise, pointwise_decides}

-- where the elements' test decides `≡`, so does the options'
pub Decides-option : {A : Type 0} {E : A → A → Bool} → ((a b : A) → Decides (E a b) (a ≡ b)) → (a b : Option A) → Decides (option_eq E a b) (a ≡ b)
Decides-option d None None = (λ _. refl, λ _. refl)
Decides-option d None (Some b) = (λ h. cc, λ h. cc)
Decides-option d (Some a) None = (λ h. cc, λ h. cc)
Decides-option d (Some a) (Some b) = (λ h. ap Some ((d a b).0 h), λ h. (d a b).1 cc)

-- where the items' test decides `≡`, so does the lists'
pub Decides-list : {A : Type 0} {E : A → A → Bool} → ((a b : A) → Decides (E a b) (a ≡ b)) → (xs ys : List A) → Decides (pointwise E xs ys) (xs ≡ ys)
Decides-list d xs ys = pointwise_decides d xs ys
