-- The turns of a session: a turn is a command with those that it carries out at once (this project's profile).
use Rattle.std.specs.Prelude.{◌≡◌, ℕ, ◌+◌, ◌≤◌, List, [], ◌∷◌, length}
use Rattle.bosh_base.specs.declared.moves.Move.{Move}
use Rattle.bosh_input.specs.Ended.{bounded_request}
use Rattle.bosh_input.specs.declared.request.Request as request
use Rattle.bosh_transcript.specs.Extents.{extent_of, most_others}
use Rattle.bosh_transcript.specs.Segments.{IsCutSegment, IsSegment}
use Rattle.bosh_transcript.specs.declared.extent.Extent.{Extent}

-- A command, as it stands in the input, the others that it carried out at once, and their moves.
pub record Turn : Type 0 where
  pub command : request.Request
  pub others : List request.Request
  pub segment : List Move

-- what its command is answered with
abbrev pub extent_in : Turn → Extent
extent_in turn = extent_of (bounded_request turn.command).asked

-- all commands of a turn, in order
abbrev pub commands_of : Turn → List request.Request
commands_of turn = turn.command ∷ turn.others

-- A command of a number was carried out with others, and these are their moves.
pub record IsDone (extent : Extent) (number : ℕ) (others : List request.Request) (segment : List Move) : Type 0 where
  pub few : length others ≤ most_others extent
  pub moves : IsSegment extent number (length others) segment

-- .. up to an event
pub record IsCut (extent : Extent) (number : ℕ) (others : List request.Request) (segment : List Move) : Type 0 where
  pub few : length others ≤ most_others extent
  pub moves : IsCutSegment extent number (length others) segment

abbrev pub IsTurn : ℕ → Turn → Type 0
IsTurn number turn = IsDone (extent_in turn) number turn.others turn.segment

abbrev pub IsCutTurn : ℕ → Turn → Type 0
IsCutTurn number turn = IsCut (extent_in turn) number turn.others turn.segment

-- it has all the others that it may carry out at once
abbrev pub IsFull : Turn → Type 0
IsFull turn = length turn.others ≡ most_others (extent_in turn)

-- turns one after the other, the first of which has the number after this one
abbrev pub AreTurns : ℕ → List Turn → Type 0
AreTurns number [] = Unit {0}
AreTurns number (turn ∷ more) =
    IsTurn (number + 1) turn × AreTurns (number + length (commands_of turn)) more
