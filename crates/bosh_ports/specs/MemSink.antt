-- A sink in memory: what it has taken, which call it fails, and when it is short of memory.
use Rattle.std.specs.Prelude.{◌≡◌, ◌⊎◌, ℕ, ◌+◌, ◌<◌, List, length, min, Option, if◌then◌else◌}
use Rattle.bosh_ports.specs.Failing.{IsNext, calls_after, is_next}
use Rattle.bosh_ports.specs.Faults.{count_with}
use Rattle.bosh_ports.specs.Sink.{written_after}
use Rattle.bosh_ports.specs.declared.sink.Put.{Put}
use Rattle.bosh_ports.specs.declared.sink.Put.TheVariants.{Took, Failed}

-- the bytes written, how many a call takes at most, the calls up to the failing one, the faults so far, how many of
-- them were for want of memory, and how many bytes it has the memory for
pub record SinkState : Type 0 where
  pub written : List ℕ
  pub piece : ℕ
  pub failing : Option ℕ
  pub faults : ℕ
  pub starved : ℕ
  pub room : ℕ

-- how many bytes of a piece a call takes that does not fail
abbrev pub share : SinkState → List ℕ → ℕ
share sink bytes = min sink.piece (length bytes)

-- Every call but the failing one takes as many bytes as the sink's piece allows. Another call fails only where the
-- memory that the sink has does not hold them: a sink with room enough never fails of itself.
abbrev pub AnswersInTurn : SinkState → List ℕ → Put → Type 0
AnswersInTurn sink bytes (Took n) = (IsNext sink.failing → ⊥) × (n ≡ share sink bytes)
AnswersInTurn sink bytes Failed = IsNext sink.failing ⊎ (sink.room < length sink.written + share sink bytes)

-- the faults after an answer
abbrev pub faults_after : ℕ → Put → ℕ
faults_after faults (Took n) = faults
faults_after faults Failed = count_with faults 1

-- the wants of memory after an answer: a failure is one, but for that of the failing call
abbrev pub starved_after : SinkState → Put → ℕ
starved_after sink (Took n) = sink.starved
starved_after sink Failed = if is_next sink.failing then sink.starved else count_with sink.starved 1

-- the sink after an answer, where it then has memory for so many bytes
abbrev pub sink_after : SinkState → List ℕ → Put → ℕ → SinkState
sink_after sink bytes answer room = record {
  written = written_after answer sink.written bytes;
  piece = sink.piece;
  failing = calls_after sink.failing;
  faults = faults_after sink.faults answer;
  starved = starved_after sink answer;
  room = room;
}
