-- What a call of `put` says of the bytes that were written to a sink.
use Rattle.std.specs.Prelude.{ℕ, ◌≤◌, List, ◌++◌, length, take}
use Rattle.bosh_ports.specs.Faults.{Rose}
use Rattle.bosh_ports.specs.declared.sink.Put.{Put}
use Rattle.bosh_ports.specs.declared.sink.Put.TheVariants.{Took, Failed}

-- an answer of bytes is one at least and no more than the piece has
abbrev pub FitsPiece : Put → List ℕ → Type 0
FitsPiece (Took n) piece = (1 ≤ n) × (n ≤ length piece)
FitsPiece Failed piece = Unit {0}

-- a call fails only where the count of faults rose
abbrev pub FailsByCount : Put → ℕ → ℕ → Type 0
FailsByCount Failed before after = Rose before after
FailsByCount (Took n) before after = Unit {0}

-- what was written, with the bytes that the call took at its end: none where it failed
abbrev pub written_after : Put → List ℕ → List ℕ → List ℕ
written_after (Took n) before piece = before ++ take n piece
written_after Failed before piece = before
