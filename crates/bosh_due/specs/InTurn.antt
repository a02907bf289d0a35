-- The turns of a session, one after the other: each is made over what those before it have left (this project's
-- profile).
use Rattle.std.specs.Prelude.{◌≡◌, ◌≤◌, ℕ, ◌+◌, Bool, false, List, [], ◌∷◌, ◌++◌, flat_map, length, map, sum_by}
use Rattle.std.specs.Prelude.{Option, Some, None, IfSome}
use Rattle.bosh_answers.specs.declared.files.KeptFile.{KeptFile}
use Rattle.bosh_base.specs.declared.moves.Move.{Move}
use Rattle.bosh_base.specs.declared.moves.Move.TheVariants as moves
use Rattle.bosh_due.specs.Before.{before_of}
use Rattle.bosh_due.specs.Causes.{HasCauses, StoreFailures, without_last_stop}
use Rattle.bosh_due.specs.Files.{FilesRead, Shelved}
use Rattle.bosh_due.specs.HaltedBy.HaltedBy.{no_line}
use Rattle.bosh_due.specs.Restarting.{interruptions}
use Rattle.bosh_due.specs.Turns.{IsCutBy, MakesTurn, TurnRead, kept_after}
use Rattle.bosh_due.specs.UnderWay.{UnderWay}
use Rattle.bosh_due.specs.UnderWay.UnderWay.{idle}
use Rattle.bosh_due.specs.Waiting.{Waits, with_line}
use Rattle.bosh_history.specs.Learn.{known_of}
use Rattle.bosh_history.specs.Moments.{Opening}
use Rattle.bosh_input.specs.Ended.{bounded_request}
use Rattle.bosh_input.specs.declared.request.Request.{Request}
use Rattle.bosh_ports.specs.Faults.{count_with}
use Rattle.bosh_transcript.specs.declared.status.Status.{Status}
use Rattle.bosh_transcript.specs.declared.status.Status.TheVariants as statuses

-- what a turn read, the files that it found, how often the stores failed in it, and its moves
pub record TurnMade : Type 0 where
  pub read : TurnRead
  pub files : FilesRead
  pub failed : StoreFailures
  pub segment : List Move

-- where a session stands between two turns
pub record SessionSoFar : Type 0 where
  -- what was done so far
  pub said : List Move
  -- what is under way on a director that has halted
  pub under_way : UnderWay
  -- the files that blocks kept
  pub kept : List KeptFile
  -- how many commands were read
  pub commands : ℕ
  -- a turn found that the input has no more
  pub has_ended : Bool
  -- the lines that wait to let appends and calls fail, or to stop the director
  pub waits : Waits

-- the input goes on: a turn has the next number, and finds the files that were kept, and those of the shelf, where that
-- has told them before
pub record GoesOnFrom (shelf : Option Shelved) (was : SessionSoFar) (turn : TurnMade) : Type 0 where
  pub is_open : was.has_ended ≡ false
  pub has_number : turn.read.first.number ≡ was.commands + 1
  pub has_kept : turn.files.kept ≡ was.kept
  pub has_shelf : IfSome shelf (λ there. turn.files.shelf ≡ Some there)

-- .. and once it is made
abbrev pub session_after : SessionSoFar → TurnMade → UnderWay → Waits → SessionSoFar
session_after was turn left waits = record {
  said = was.said ++ turn.segment;
  under_way = left;
  kept = kept_after turn.read.first.request was.kept;
  commands = was.commands + (1 + length turn.read.others);
  has_ended = turn.read.is_end;
  waits = with_line turn.read.first.request.asked waits;
}

-- these moves of a turn have their causes
abbrev pub IsCaused : Opening → SessionSoFar → TurnMade → List Move → Waits → Type 0
IsCaused o was turn segment waits =
    HasCauses turn.failed (before_of o was.said was.under_way).moment was.waits turn.read.first.request.asked segment waits

-- .. and so do all of a turn that was cut off, but for a last stop for want of memory
abbrev pub IsCausedUpTo : Opening → SessionSoFar → TurnMade → Waits → Type 0
IsCausedUpTo o was turn waits =
    IsCaused o was turn
    (without_last_stop turn.read.first.request.asked (before_of o was.said was.under_way).moment turn.segment) waits

-- a turn is made, and the others go on from there
pub record MakesNextTurn
    (Rest : SessionSoFar → Type 0) (o : Opening) (shelf : Option Shelved) (was : SessionSoFar) (turn : TurnMade) :
    Type 0
  where
    pub left : UnderWay
    pub waits : Waits
    pub goes_on : GoesOnFrom shelf was turn
    pub makes : MakesTurn (before_of o was.said was.under_way) turn.files turn.read turn.segment left
    pub causes : IsCaused o was turn turn.segment waits
    pub others : Rest (session_after was turn left waits)

-- .. or an event cuts it off
pub record MakesLastTurn
    (status : Status) (o : Opening) (shelf : Option Shelved) (was : SessionSoFar) (turn : TurnMade) : Type 0 where
  pub left : UnderWay
  pub waits : Waits
  pub goes_on : GoesOnFrom shelf was turn
  pub cut_by : IsCutBy status (before_of o was.said was.under_way) turn.files turn.read turn.segment left
  pub causes : IsCausedUpTo o was turn waits

-- .. or none is cut off: the input ended; or an event came as the next command was read, of an input that was not seen to
-- end. The output fails in a turn alone.
abbrev pub EndsBetween : Status → SessionSoFar → Type 0
EndsBetween statuses.Good was = Unit {0}
EndsBetween statuses.Failed was = Unit {0}
EndsBetween statuses.Source was = was.has_ended ≡ false
EndsBetween statuses.Limit was = was.has_ended ≡ false
EndsBetween statuses.Memory was = was.has_ended ≡ false
EndsBetween status was = ⊥

abbrev pub MakesLast : Status → Opening → Option Shelved → SessionSoFar → Option TurnMade → Type 0
MakesLast status o shelf was None = EndsBetween status was
MakesLast status o shelf was (Some turn) = MakesLastTurn status o shelf was turn

-- one after the other
abbrev pub MakesTurns : Status → Opening → Option Shelved → SessionSoFar → List TurnMade → Option TurnMade → Type 0
MakesTurns status o shelf was [] cut = MakesLast status o shelf was cut
MakesTurns status o shelf was (turn ∷ turns) cut =
    MakesNextTurn (λ next. MakesTurns status o shelf next turns cut) o shelf was turn

-- ---- a session

-- a director that is loaded ends each task that it finds open
abbrev pub loaded_moves : Opening → List Move
loaded_moves o = map (λ end. moves.Note end) (interruptions (known_of o.entries))

-- .. and then nothing is under way, and no line waits
abbrev pub at_first : Opening → SessionSoFar
at_first o = record {
  said = loaded_moves o;
  under_way = idle;
  kept = [];
  commands = 0;
  has_ended = false;
  waits = record { lines = []; halted_by = no_line };
}

-- the commands that a turn read
abbrev pub requests_in : TurnMade → List Request
requests_in turn = turn.read.first.request ∷ map (λ it. it.request) turn.read.others

-- the turns, and the one that was cut off
abbrev pub with_last : List TurnMade → Option TurnMade → List TurnMade
with_last turns (Some turn) = turns ++ turn ∷ []
with_last turns None = turns

-- the counts of the faults of the shelf, of the director's store and of the cloud's
pub record Counts : Type 0 where
  pub shelf : ℕ
  pub director : ℕ
  pub cloud : ℕ

-- Each of them failed in the turns as often as its count rose from before to after, at most. A count that stands at its
-- last number does not tell how often.
pub record FailAsCounted (before after : Counts) (turns : List TurnMade) : Type 0 where
  pub shelf : count_with before.shelf (sum_by (λ turn. turn.files.failures) turns) ≤ after.shelf
  pub director : count_with before.director (sum_by (λ turn. turn.failed.director) turns) ≤ after.director
  pub cloud : count_with before.cloud (sum_by (λ turn. turn.failed.cloud) turns) ≤ after.cloud

-- The moves of a session from an opening pair on: those of its load, of its turns, and of one that was cut off, or none.
-- The turns read these commands, which are those of its input, in order; a block of too many bytes makes a line no command.
-- The counts are those after the load and after the session. The status is that with which it ends; which of the two a
-- session has that ended as its input did is told by its replies alone.
pub record MakesSession
    (status : Status) (o : Opening) (requests : List Request) (moves : List Move) (shelf : Option Shelved) (before after : Counts)
    (turns : List TurnMade) (cut : Option TurnMade) : Type 0
  where
    pub read : map bounded_request requests ≡ flat_map requests_in (with_last turns cut)
    pub are : moves ≡ loaded_moves o ++ flat_map (λ turn. turn.segment) (with_last turns cut)
    pub makes : MakesTurns status o shelf (at_first o) turns cut
    pub failed : FailAsCounted before after (with_last turns cut)
