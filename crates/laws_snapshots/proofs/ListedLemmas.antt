-- Lists of what is recorded: records stand in order where their names do.
use Rattle.std.proofs.Common.{◌≡◌, ◌∙◌, ◌&&◌, List, [], ◌∷◌, map, refl}
use Rattle.std.specs.declared.cmp.Ordering.{Ordering}
use Rattle.std.specs.declared.cmp.Ordering.TheVariants.{Equal, Greater, Less}
use Rattle.bosh_rows.specs.SoundSnapshot.{are_in_order, is_less}
use Rattle.laws_row_facts.specs.Words.{are_ascending, is_before}

less_is_before : (o : Ordering) → is_less o ≡ is_before o
less_is_before Less = refl
less_is_before Equal = refl
less_is_before Greater = refl

-- what stands in order ascends
pub in_order : {A : Type 0} (cmp : A → A → Ordering) (items : List A)
    → are_in_order (λ (a b : A). is_less (cmp a b)) items ≡ are_ascending cmp items
in_order cmp [] = refl
in_order cmp (a ∷ []) = refl
in_order cmp (a ∷ b ∷ items) = λ i. less_is_before (cmp a b) i && in_order cmp (b ∷ items) i

-- records stand in order where their names do
pub ordered_named : {X R : Type 0} (cmp : X → X → Ordering) (name_of : R → X) (rs : List R)
    → are_in_order (λ (a b : R). is_less (cmp (name_of a) (name_of b))) rs ≡ are_ascending cmp (map name_of rs)
ordered_named {X} {R} cmp name_of rs = in_order (λ (a b : R). cmp (name_of a) (name_of b)) rs ∙ named rs
  where
    named : (rs : List R)
        → are_ascending (λ (a b : R). cmp (name_of a) (name_of b)) rs ≡ are_ascending cmp (map name_of rs)
    named [] = refl
    named (a ∷ []) = refl
    named (a ∷ b ∷ rs) = λ i. is_before (cmp (name_of a) (name_of b)) && named (b ∷ rs) i
