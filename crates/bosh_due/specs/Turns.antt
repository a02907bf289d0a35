-- The moves of one turn of a session, with its replies, and what it leaves under way (this project's profile).
use Rattle.std.specs.Prelude.{◌≡◌, ◌≤◌, ℕ, ◌+◌, Bool, false, true, List, [], ◌∷◌, ◌++◌, length, nat_lt, Result, Ok, Err}
use Rattle.bosh_answers.specs.declared.files.KeptFile.{KeptFile}
use Rattle.bosh_base.specs.declared.moves.Move.{Move}
use Rattle.bosh_base.specs.declared.moves.Move.TheVariants as moves
use Rattle.bosh_base.specs.declared.reply.Reply.{Reply}
use Rattle.bosh_base.specs.declared.reply.Reply.TheVariants as replies
use Rattle.bosh_due.specs.Before.{Before}
use Rattle.bosh_due.specs.Due.{DueAt, MakesAt}
use Rattle.bosh_due.specs.Files.{FilesRead, put}
use Rattle.bosh_due.specs.Generating.{IsGenerated, IsGeneratedUpTo, said_reply}
use Rattle.bosh_due.specs.Together.{IsCutOpening, IsCutRun, IsTogether, Numbered}
use Rattle.bosh_due.specs.UnderWay.{UnderWay}
use Rattle.bosh_input.specs.declared.request.Request.{Request}
use Rattle.bosh_line_words.specs.declared.fault.LineFault.{LineFault}
use Rattle.bosh_lines.specs.declared.command.Command.{Command}
use Rattle.bosh_lines.specs.declared.command.Command.TheVariants as commands
use Rattle.bosh_report.specs.Reply.{text_of}
use Rattle.bosh_transcript.specs.declared.status.Status.{Status}
use Rattle.bosh_transcript.specs.declared.status.Status.TheVariants as statuses

-- ---- what a turn reads

pub record TurnRead : Type 0 where
  pub first : Numbered
  -- the commands that are carried out at once with it
  pub others : List Numbered
  -- the input ended before there were as many of these as the line says
  pub is_end : Bool

-- commands have the numbers from one on
abbrev pub AreNumbered : ℕ → List Numbered → Type 0
AreNumbered from [] = Unit {0}
AreNumbered from (it ∷ others) = (it.number ≡ from) × AreNumbered (from + 1) others

-- as many others are taken as the line says, at most
pub record TakesSome (count : ℕ) (read : TurnRead) : Type 0 where
  pub few : length read.others ≤ count
  pub numbered : AreNumbered (read.first.number + 1) read.others

-- .. or all that the input has left
pub record TakesAll (count : ℕ) (read : TurnRead) : Type 0 where
  pub some : TakesSome count read
  pub ends : read.is_end ≡ nat_lt (length read.others) count

-- none is taken, and so the input is not seen to end
pub record TakesNone (read : TurnRead) : Type 0 where
  pub none : read.others ≡ []
  pub goes_on : read.is_end ≡ false

-- ---- turns

-- a command alone: its moves, and then its reply
pub record IsAlone
    (b : Before) (files : FilesRead) (number : ℕ) (asked : Result Command LineFault) (segment : List Move)
    (now : UnderWay) : Type 0
  where
    pub more : List Move
    pub reply : Reply
    pub is : segment ≡ more ++ said_reply number reply ∷ []
    pub due : DueAt b files asked more reply now

-- a command with those that it takes along
pub record IsAtOnce
    (b : Before) (files : FilesRead) (count : ℕ) (read : TurnRead) (segment : List Move) (now : UnderWay) : Type 0
  where
    pub takes : TakesAll count read
    pub together : IsTogether b files read.first.number read.others segment now

-- .. by the command that it is
abbrev pub MakesTurnBy : Before → FilesRead → Command → TurnRead → List Move → UnderWay → Type 0
MakesTurnBy b files (commands.Together count) read segment now = IsAtOnce b files count read segment now
MakesTurnBy b files (commands.Generate instances) read segment now =
    TakesNone read × IsGenerated b read.first.number instances segment now
MakesTurnBy b files command read segment now =
    TakesNone read × IsAlone b files read.first.number (Ok command) segment now

-- .. or none
abbrev pub MakesTurnAt : Before → FilesRead → Result Command LineFault → TurnRead → List Move → UnderWay → Type 0
MakesTurnAt b files (Ok command) read segment now = MakesTurnBy b files command read segment now
MakesTurnAt b files (Err fault) read segment now =
    TakesNone read × IsAlone b files read.first.number (Err fault) segment now

-- what a turn read is carried out
abbrev pub MakesTurn : Before → FilesRead → TurnRead → List Move → UnderWay → Type 0
MakesTurn b files read segment now = MakesTurnAt b files read.first.request.asked read segment now

-- ---- up to an event

-- a command that takes no others along: the moves that it may make
abbrev pub MakesUpToBy : Before → FilesRead → ℕ → Command → List Move → UnderWay → Type 0
MakesUpToBy b files number (commands.Generate instances) segment now = IsGeneratedUpTo b number instances segment now
MakesUpToBy b files number command segment now = MakesAt b files (Ok command) segment now

-- .. or a line that is no command
abbrev pub MakesUpTo : Before → FilesRead → ℕ → Result Command LineFault → List Move → UnderWay → Type 0
MakesUpTo b files number (Ok command) segment now = MakesUpToBy b files number command segment now
MakesUpTo b files number (Err fault) segment now = MakesAt b files (Err fault) segment now

-- A line is still reading the commands that it takes along: it has printed nothing, and done nothing.
pub record IsCutReading (b : Before) (count : ℕ) (read : TurnRead) (segment : List Move) (now : UnderWay) : Type 0 where
  pub asked : read.first.request.asked ≡ Ok (commands.Together count)
  pub takes : TakesSome count read
  pub goes_on : read.is_end ≡ false
  pub is : segment ≡ said_reply read.first.number replies.Nothing ∷ []
  pub stays : now ≡ b.under_way

-- A turn that an event cut off: it has all its moves and replies; or its command has no reply, or not all of its
-- replies; or it was still reading those that it takes along; or one of these has no reply.
pub data MakesTurnUpTo
    (b : Before) (files : FilesRead) (read : TurnRead) (segment : List Move) (now : UnderWay) : Type 0
  where
    told : MakesTurn b files read segment now → MakesTurnUpTo b files read segment now
    untold :
        TakesNone read → MakesUpTo b files read.first.number read.first.request.asked segment now →
        MakesTurnUpTo b files read segment now
    in_reading : (count : ℕ) → IsCutReading b count read segment now → MakesTurnUpTo b files read segment now
    in_openings :
        (count : ℕ) → read.first.request.asked ≡ Ok (commands.Together count) → TakesAll count read →
        IsCutOpening b files read.first.number read.others segment now → MakesTurnUpTo b files read segment now
    in_run :
        (count : ℕ) → read.first.request.asked ≡ Ok (commands.Together count) → TakesAll count read →
        IsCutRun b files read.first.number read.others segment now → MakesTurnUpTo b files read segment now

-- ---- by the event

-- the last of these moves is a reply that has a text
abbrev pub ends_with_text : List Move → Bool
ends_with_text [] = false
ends_with_text (moves.Said said ∷ []) = nat_lt 0 (length (text_of said.reply))
ends_with_text (move ∷ more) = ends_with_text more

-- the output failed as the last reply was written; of one without a text nothing is
pub record IsCutWriting (b : Before) (files : FilesRead) (read : TurnRead) (segment : List Move) (now : UnderWay) : Type 0
  where
    pub makes : MakesTurnUpTo b files read segment now
    pub told_last : ends_with_text segment ≡ true

-- the input failed, or had more than a session takes, before there were as many others as the line says
pub record IsCutByInput (b : Before) (read : TurnRead) (segment : List Move) (now : UnderWay) : Type 0 where
  pub count : ℕ
  pub reading : IsCutReading b count read segment now
  pub too_few : nat_lt (length read.others) count ≡ true

-- A status of an event may cut a turn off. A session that ended as its input did, or did not begin, has no such turn.
abbrev pub IsCutBy : Status → Before → FilesRead → TurnRead → List Move → UnderWay → Type 0
IsCutBy statuses.Memory b files read segment now = MakesTurnUpTo b files read segment now
IsCutBy statuses.Sink b files read segment now = IsCutWriting b files read segment now
IsCutBy statuses.Source b files read segment now = IsCutByInput b read segment now
IsCutBy statuses.Limit b files read segment now = IsCutByInput b read segment now
IsCutBy status b files read segment now = ⊥

-- ---- the files that are kept

abbrev pub kept_by : Result Command LineFault → List ℕ → List KeptFile → List KeptFile
kept_by (Ok (commands.File path)) block kept = put (record { path = path; text = block }) kept
kept_by asked block kept = kept

-- .. after a command
abbrev pub kept_after : Request → List KeptFile → List KeptFile
kept_after request kept = kept_by request.asked request.block kept
