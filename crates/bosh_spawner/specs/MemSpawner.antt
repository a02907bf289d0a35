-- A spawner in memory: what it is made of, what it was asked, and what came of that.
use Rattle.std.specs.Prelude.{◌≡◌, ℕ, zero, suc, ◌<◌, ◌≤◌, List, [], ◌∷◌, ◌++◌, length, Option, Some, None, Result, Ok, Err, Vec}
use Rattle.std.specs.declared.alloc.Global.{Global}
use Rattle.bosh_ports.specs.Faults.{count_with}
use Rattle.bosh_spawner.specs.declared.spawner.TheConstants.{MOST_BYTES}
use Rattle.bosh_spawner.specs.declared.spawner.SpawnFault.{SpawnFault}
use Rattle.bosh_spawner.specs.declared.spawner.SpawnFault.TheVariants.{Failed, TooLong, Memory}

-- the outputs that it gives one after the other, the inputs that it was asked, and how often it failed
pub record SpawnerState : Type 0 where
  pub outputs : List (Option (List ℕ))
  pub asked : List (List ℕ)
  pub faults : ℕ

-- what comes of the input at a place, counted from 0: none where the output is missing, and past the end
abbrev pub outcome_at : List (Option (List ℕ)) → ℕ → Option (List ℕ)
outcome_at [] place = None
outcome_at (output ∷ outputs) zero = output
outcome_at (output ∷ outputs) (suc place) = outcome_at outputs place

-- what came of each input that was asked
abbrev pub outcomes : List (Option (List ℕ)) → List (List ℕ) → List (Option (List ℕ))
outcomes outputs [] = []
outcomes [] (input ∷ inputs) = None ∷ outcomes [] inputs
outcomes (output ∷ outputs) (input ∷ inputs) = output ∷ outcomes outputs inputs

-- a call answers what comes of its input, or that there is no memory
abbrev pub Answers : Option (List ℕ) → Result (Vec ℕ Global) SpawnFault → Type 0
Answers (Some output) (Ok bytes) = (bytes.items ≡ output) × (length output ≤ MOST_BYTES)
Answers None (Ok bytes) = ⊥
Answers outcome (Err Failed) = outcome ≡ None
Answers (Some output) (Err TooLong) = MOST_BYTES < length output
Answers None (Err TooLong) = ⊥
Answers outcome (Err Memory) = Unit {0}

-- what it is after a call
abbrev pub after : {T : Type 0} → SpawnerState → List ℕ → Result T SpawnFault → SpawnerState
after s input (Err Memory) = s
after s input (Err Failed) = record s { asked = s.asked ++ input ∷ []; faults = count_with s.faults 1 }
after s input answer = record s { asked = s.asked ++ input ∷ [] }
