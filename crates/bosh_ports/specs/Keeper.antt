-- What a call on a keeper says of its list of bodies and of its state.
use Rattle.std.specs.Prelude.{◌≡◌, ◌⊎◌, ℕ, Bool, true, false, List, slice_get, Option, Some, Result, Ok, Err, Vec}
use Rattle.std.specs.declared.alloc.Global.{Global}
use Rattle.bosh_ports.specs.Faults.{Rose}
use Rattle.bosh_ports.specs.declared.keeper.KeepFault.{KeepFault}
use Rattle.bosh_ports.specs.declared.keeper.KeepFault.TheVariants.{Failed, Broken, Memory}

-- a call fails only where the count of faults rose
abbrev pub FailsByCount : {T : Type 0} → Result T KeepFault → ℕ → ℕ → Type 0
FailsByCount (Err Failed) before after = Rose before after
FailsByCount answer before after = Unit {0}

-- Whether the keeper was broken, and whether it is now: `Broken` comes exactly where it was, a failure breaks it, and
-- any other answer leaves it whole.
abbrev pub TellsBroken : {T : Type 0} → Result T KeepFault → Bool → Bool → Type 0
TellsBroken (Ok value) was is = (was ≡ false) × (is ≡ false)
TellsBroken (Err Failed) was is = (was ≡ false) × (is ≡ true)
TellsBroken (Err Broken) was is = (was ≡ true) × (is ≡ true)
TellsBroken (Err Memory) was is = (was ≡ false) × (is ≡ false)

-- the same of a reload, which mends a broken keeper and is harmless on a whole one
abbrev pub TellsMended : {T : Type 0} → Result T KeepFault → Bool → Bool → Type 0
TellsMended (Ok value) was is = is ≡ false
TellsMended (Err Failed) was is = is ≡ true
TellsMended (Err Broken) was is = ⊥
TellsMended (Err Memory) was is = is ≡ was

-- The list that a call leaves which is to make one list of another: the new one, after a failure the old or the new
-- one, and else the old one.
abbrev pub Leaves : {T : Type 0} → Result T KeepFault → List (List ℕ) → List (List ℕ) → Option (List (List ℕ)) → Type 0
Leaves (Ok value) before intended after = after ≡ Some intended
Leaves (Err Failed) before intended after = (after ≡ Some before) ⊎ (after ≡ Some intended)
Leaves (Err Broken) before intended after = after ≡ Some before
Leaves (Err Memory) before intended after = after ≡ Some before

-- a body that was read is the one at that place
abbrev pub IsBodyAt : Result (Vec ℕ Global) KeepFault → List (List ℕ) → ℕ → Type 0
IsBodyAt (Ok body) bodies k = slice_get bodies k ≡ Some body.items
IsBodyAt (Err fault) bodies k = Unit {0}
