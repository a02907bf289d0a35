-- Openings without a reply, turns that read too little or are cut off, and deployments that are made.
use Rattle.std.specs.Prelude.{◌≡◌, ◌++◌, ◌-◌, ℕ, Bool, false, List, [], ◌∷◌, Ok}
use Rattle.bosh_base.specs.declared.entry.Entry.TheVariants as entries
use Rattle.bosh_base.specs.declared.moves.Move.{Move}
use Rattle.bosh_base.specs.declared.moves.Move.TheVariants.{Note}
use Rattle.bosh_base.specs.declared.reply.Reply.{Reply}
use Rattle.bosh_base.specs.declared.reply.Reply.TheVariants as replies
use Rattle.bosh_due.specs.Before.{Before}
use Rattle.bosh_due.specs.Due.{MakesBy}
use Rattle.bosh_due.specs.Generating.{IsGeneratedUpTo, said_reply}
use Rattle.bosh_due.specs.Together.{ComesAt, IsCutRun, OpensAtMost}
use Rattle.bosh_due.specs.Turns.{IsCutBy, MakesTurnUpTo, TurnRead}
use Rattle.bosh_due.specs.UnderWay.{UnderWay}
use Rattle.bosh_due.specs.UnderWay.UnderWay.{idle}
use Rattle.bosh_lines.specs.declared.command.Command.{Command}
use Rattle.bosh_lines.specs.declared.command.Command.TheVariants as commands
use Rattle.bosh_transcript.specs.declared.status.Status.TheVariants.{Sink}
use Rattle.examples_histories.specs.Scenes.{Builder, History, part, prepared}
use Rattle.examples_replies.specs.AtOnce.{asks, clean_up}
use Rattle.examples_replies.specs.Kept.{at_a_halt}
use Rattle.examples_replies.specs.Replies.{stopped_reply}
use Rattle.examples_replies.specs.Scenes.{at, no_files, start}

-- a command that is carried out at once with others makes these moves, and has no reply
abbrev pub OpensUntold : Command → List Move → UnderWay → Type 0
OpensUntold command more now = OpensAtMost (ComesAt (start prepared 2) no_files (Ok command)) (start prepared 2) more now

-- .. and so does one alone
abbrev pub MakesUntold : Command → List Move → UnderWay → Type 0
MakesUntold command more now = MakesBy (start prepared 2) no_files command more now

abbrev pub clean_up_opened : Move
clean_up_opened = Note (entries.TaskOpen clean_up)

-- of two commands one was read
abbrev pub one_of_two : Bool → TurnRead
one_of_two is_end = record {
  first = asks 4 (commands.Together 2);
  others = asks 5 commands.CleanUp ∷ [];
  is_end = is_end;
}

-- a line that makes three instances is told that the director has halted, under this number
abbrev pub IsRefusedUnder : ℕ → UnderWay → Type 0
IsRefusedUnder number now = IsGeneratedUpTo at_a_halt 5 3 (said_reply number stopped_reply ∷ []) now

-- of two commands one was read as the line was cut off, which made these moves
abbrev pub IsCutInReading : List Move → UnderWay → Type 0
IsCutInReading segment now = MakesTurnUpTo (start prepared 2) no_files (one_of_two false) segment now

-- the output fails behind this reply of a command that is carried out alone
abbrev pub FailsBehind : Before → Command → Reply → Type 0
FailsBehind b command reply =
    IsCutBy Sink b no_files (record { first = asks 4 command; others = []; is_end = false }) (said_reply 4 reply ∷ [])
    idle

-- a line that takes one command along, whose task opens, was cut off behind these moves of its run, and these replies
abbrev pub IsCutBehind : List Move → List Move → Type 0
IsCutBehind run told =
    IsCutRun (start prepared 2) no_files 4 (asks 5 commands.CleanUp ∷ [])
    (said_reply 4 replies.Nothing ∷ clean_up_opened ∷ (run ++ told)) idle

-- a line that takes a clean-up along is not cut off so that the moves from one place of a history to another are its run,
-- counted from 1, behind the one that opens its task
abbrev pub NeverCutBehind : History → ℕ → ℕ → Type 0
NeverCutBehind history first last =
    (built : Builder) (segment : List Move) (now : UnderWay)
    (cut : IsCutRun (at prepared (first - 2) (history built)) no_files 4 (asks 5 commands.CleanUp ∷ []) segment now) →
    cut.openings ≡ part (first - 1) (first - 1) (history built) → cut.run ≡ part first last (history built) → ⊥

abbrev pub ended : Move
ended = Note (entries.TaskDone 1)

abbrev pub told_end : Reply → Move
told_end reply = said_reply 5 reply
