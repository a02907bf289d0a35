-- A source in memory: what it will give, and which call it fails.
use Rattle.std.specs.Prelude.{◌≡◌, ℕ, List, [], length, drop, min, Option}
use Rattle.bosh_ports.specs.Failing.{IsNext, calls_after}
use Rattle.bosh_ports.specs.Faults.{count_with}
use Rattle.bosh_ports.specs.declared.source.Taken.{Taken}
use Rattle.bosh_ports.specs.declared.source.Taken.TheVariants.{Bytes, End, Failed}

-- the bytes left, how many a call gives at most, the calls up to the failing one, and the faults so far
pub record SourceState : Type 0 where
  pub left : List ℕ
  pub piece : ℕ
  pub failing : Option ℕ
  pub faults : ℕ

-- as many as the piece, the room and what is left allow
abbrev pub share : SourceState → ℕ → ℕ
share source room = min source.piece (min room (length source.left))

-- the failing call fails; every other gives its share, and the end where nothing is left
abbrev pub AnswersInTurn : SourceState → ℕ → Taken → Type 0
AnswersInTurn source room Failed = IsNext source.failing
AnswersInTurn source room End = (IsNext source.failing → ⊥) × (source.left ≡ [])
AnswersInTurn source room (Bytes n) = (IsNext source.failing → ⊥) × (n ≡ share source room)

-- the source after an answer
abbrev pub source_after : SourceState → Taken → SourceState
source_after source (Bytes n) = record source { left = drop n source.left; failing = calls_after source.failing }
source_after source End = record source { failing = calls_after source.failing }
source_after source Failed = record source { failing = calls_after source.failing; faults = count_with source.faults 1 }
