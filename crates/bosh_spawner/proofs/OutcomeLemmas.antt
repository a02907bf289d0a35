-- One more input, and what comes of it.
use Rattle.std.proofs.Common.{◌≡◌, ℕ, zero, suc, ◌≤◌, List, [], ◌∷◌, ◌++◌, length, Option, Some, None, slice_get, refl, ap, arith}
use Rattle.bosh_spawner.specs.MemSpawner.{outcome_at, outcomes}

pub outcomes_push : (outputs : List (Option (List ℕ))) (asked : List (List ℕ)) (input : List ℕ) → outcomes outputs (asked ++ input ∷ []) ≡ outcomes outputs asked ++ outcome_at outputs (length asked) ∷ []
outcomes_push [] [] input = refl
outcomes_push (o ∷ outputs) [] input = refl
outcomes_push [] (a ∷ asked) input = ap (λ os. None ∷ os) (outcomes_push [] asked input)
outcomes_push (o ∷ outputs) (a ∷ asked) input = ap (λ os. o ∷ os) (outcomes_push outputs asked input)

pub outcome_there : (outputs : List (Option (List ℕ))) (place : ℕ) (o : Option (List ℕ)) → slice_get outputs place ≡ Some o → outcome_at outputs place ≡ o
outcome_there [] place o h = absurd (cc)
outcome_there (x ∷ outputs) zero o h = cc
outcome_there (x ∷ outputs) (suc place) o h = outcome_there outputs place o h

pub outcome_past : (outputs : List (Option (List ℕ))) (place : ℕ) → length outputs ≤ place → outcome_at outputs place ≡ None
outcome_past [] place h = refl
outcome_past (x ∷ outputs) zero h = absurd (omega arith)
outcome_past (x ∷ outputs) (suc place) h = outcome_past outputs place (omega arith)
