-- What a call of `ask` says of the inputs that were asked, and of what came of them.
use Rattle.std.specs.Prelude.{◌≡◌, ℕ, ◌<◌, ◌≤◌, List, [], ◌∷◌, ◌++◌, length, Option, Some, None, Result, Ok, Err, Vec}
use Rattle.std.specs.declared.alloc.Global.{Global}
use Rattle.bosh_ports.specs.Faults.{Rose}
use Rattle.bosh_spawner.specs.declared.spawner.TheConstants.{MOST_BYTES}
use Rattle.bosh_spawner.specs.declared.spawner.SpawnFault.{SpawnFault}
use Rattle.bosh_spawner.specs.declared.spawner.SpawnFault.TheVariants.{Failed, TooLong, Memory}

-- the input stands at the end of those that were asked, unless there was no memory to ask it (this project's profile)
abbrev pub Asks : {T : Type 0} → Result T SpawnFault → List (List ℕ) → List ℕ → Option (List (List ℕ)) → Type 0
Asks (Err Memory) before input after = after ≡ Some before
Asks answer before input after = after ≡ Some (before ++ input ∷ [])

-- What came of the input stands at the end: the output that the call gave, an output that is too long, or none after a
-- failure (this project's profile).
abbrev pub Tells : Result (Vec ℕ Global) SpawnFault → List (Option (List ℕ)) → Option (List (Option (List ℕ))) → Type 0
Tells (Ok output) before after = after ≡ Some (before ++ Some output.items ∷ [])
Tells (Err Failed) before after = after ≡ Some (before ++ None ∷ [])
Tells (Err TooLong) before after = (output : List ℕ) × (MOST_BYTES < length output) × (after ≡ Some (before ++ Some output ∷ []))
Tells (Err Memory) before after = after ≡ Some before

-- an output that is given is not too long
abbrev pub FitsOutput : Result (Vec ℕ Global) SpawnFault → Type 0
FitsOutput (Ok output) = length output.items ≤ MOST_BYTES
FitsOutput (Err fault) = Unit {0}

-- a call fails only where the count of faults rose
abbrev pub FailsByCount : {T : Type 0} → Result T SpawnFault → ℕ → ℕ → Type 0
FailsByCount (Err Failed) before after = Rose before after
FailsByCount answer before after = Unit {0}
