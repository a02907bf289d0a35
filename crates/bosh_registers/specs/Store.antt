-- What it does to a store of bodies that a body is put at its end.
use Rattle.std.specs.Prelude.{◌≡◌, ◌⊎◌, ℕ, Bool, true, false, List, [], ◌∷◌, ◌++◌, Option, Some, IfSome, Result, Ok, Err}
use Rattle.bosh_registers.specs.declared.put_fault.PutFault.{PutFault}
use Rattle.bosh_registers.specs.declared.put_fault.PutFault.TheVariants.{StoreFailed, Memory}
use Rattle.bosh_ports.specs.Faults.{Rose}

-- A body stands at the end of the bodies, where the store tells them. A store that fails is broken, with the bodies
-- as they were or with this one more; for want of memory they stay.
abbrev pub Appends : {L T : Type 0} → (L → Option (List (List ℕ))) → (L → ℕ) → (L → Bool) → Result T PutFault →
    L → List ℕ → L → Type 0
Appends bodies faults is_broken (Ok value) was body now =
    (is_broken now ≡ false) × IfSome (bodies was) (λ list. bodies now ≡ Some (list ++ body ∷ []))
Appends bodies faults is_broken (Err StoreFailed) was body now =
    (is_broken now ≡ true) × Rose (faults was) (faults now)
    × IfSome (bodies was) (λ list. (bodies now ≡ Some list) ⊎ (bodies now ≡ Some (list ++ body ∷ [])))
Appends bodies faults is_broken (Err Memory) was body now =
    (is_broken now ≡ false) × IfSome (bodies was) (λ list. bodies now ≡ Some list)
