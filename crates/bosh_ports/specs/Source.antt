-- What a call of `take` says of the bytes that are left in a source.
use Rattle.std.specs.Prelude.{◌≡◌, ℕ, ◌≤◌, List, [], ◌++◌, length, take, Option, Some, IsSomeAnd}
use Rattle.bosh_ports.specs.Faults.{Rose}
use Rattle.bosh_ports.specs.declared.source.Taken.{Taken}
use Rattle.bosh_ports.specs.declared.source.Taken.TheVariants.{Bytes, End, Failed}

-- an answer of bytes is one at least and no more than the buffer has room for
abbrev pub FitsBuffer : Taken → List ℕ → Type 0
FitsBuffer (Bytes n) buffer = (1 ≤ n) × (n ≤ length buffer)
FitsBuffer answer buffer = Unit {0}

-- a call fails exactly where the count of faults rises
abbrev pub FailsByCount : Taken → ℕ → ℕ → Type 0
FailsByCount Failed before after = Rose before after
FailsByCount answer before after = after ≡ before

-- The bytes move from the front of what is left to the front of the buffer, the end comes where nothing is left,
-- and a failed call leaves what was left.
abbrev pub Moves : Taken → List ℕ → Option (List ℕ) → List ℕ → Type 0
Moves (Bytes n) before after buffer = IsSomeAnd after (λ rest. before ≡ take n buffer ++ rest)
Moves End before after buffer = (before ≡ []) × (after ≡ Some [])
Moves Failed before after buffer = after ≡ Some before
