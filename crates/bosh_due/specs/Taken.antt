-- What becomes of the calls that are open as a line stops the director in one of them: they have their effects or have
-- none, as the line says, one after the other, and a line that lets one fail may take its effect away (this project's
-- profile).
use Rattle.std.specs.Prelude.{◌&&◌, ◌==◌, ◌++◌, ℕ, Bool, true, false, List, [], ◌∷◌, filter, find, fold, Option, Some, None}
use Rattle.std.specs.Option.{option_and_then}
use Rattle.bosh_agent.specs.Compiled.{compiled_digest}
use Rattle.bosh_base.specs.CallStep.{takes_effect}
use Rattle.bosh_base.specs.Cloud.{numbers_to}
use Rattle.bosh_base.specs.declared.call.Call.{Call}
use Rattle.bosh_base.specs.declared.entry.Begin.{Begin}
use Rattle.bosh_base.specs.declared.entry.Entry.{Entry}
use Rattle.bosh_due.specs.Room.{is_unperformed}
use Rattle.bosh_due.specs.Waiting.{WaitingLine, after_one, fails_call, names_next}
use Rattle.bosh_fates.specs.declared.fate.Fate.{Fate}
use Rattle.bosh_fates.specs.declared.fate.Fate.TheVariants.{Late, Lose}
use Rattle.bosh_history.specs.Moments.{Moment, OpenCall, taking}
use Rattle.bosh_history.specs.Words.{holds}
use Rattle.bosh_lines.specs.declared.command.Command.{Command}
use Rattle.bosh_lines.specs.declared.command.Command.TheVariants as commands
use Rattle.bosh_lines.specs.declared.command.StopCall.{StopCall}
use Rattle.bosh_lines.specs.declared.word.Others.{Others}
use Rattle.bosh_lines.specs.declared.word.Others.TheVariants.{Done, Undone}
use Rattle.bosh_lines.specs.declared.word.When.{When}
use Rattle.bosh_lines.specs.declared.word.When.TheVariants.{After, Before}

-- ---- the effect of a call

-- a call that fails has no effect, or the one that it would have had
abbrev pub has_effect_by : Fate → List Entry → Call → Bool
has_effect_by Lose effects call = false
has_effect_by Late effects call = takes_effect compiled_digest effects call

-- .. and so has one that no line lets fail
abbrev pub has_effect_under : Option Fate → List Entry → Call → Bool
has_effect_under (Some fate) effects call = has_effect_by fate effects call
has_effect_under None effects call = takes_effect compiled_digest effects call

abbrev pub fate_by : Command → Option Fate
fate_by (commands.FailCall doom) = Some doom.fate
fate_by command = None

-- how the first line lets a call fail that names it
abbrev pub fate_of : Begin → List WaitingLine → Option Fate
fate_of call lines = option_and_then (λ line. fate_by line.command) (find (names_next (fails_call call)) lines)

-- it has an effect now
abbrev pub has_effect_now : Moment → List WaitingLine → Begin → Bool
has_effect_now m lines call = has_effect_under (fate_of call lines) m.effects call.call

-- ---- which calls come to it

-- the call in which the director stops comes to its effect unless it stops before that
abbrev pub takes_it : When → Bool
takes_it Before = false
takes_it After = true

-- .. and the others come to theirs where the line says so
abbrev pub takes_others : Others → Bool
takes_others Undone = false
takes_others Done = true

abbrev pub may_take : StopCall → Bool → Bool
may_take it true = takes_it it.when
may_take it false = takes_others it.others

-- .. that are open, and that the cloud has not performed
abbrev pub is_coming : StopCall → ℕ → ℕ → OpenCall → Bool
is_coming it stopped n call = is_unperformed call && may_take it (n == stopped)

-- by number, where the director stops in the call of this one
abbrev pub coming : StopCall → Moment → ℕ → List ℕ
coming it m stopped = filter (λ n. holds (is_coming it stopped n) (m.calls n)) (numbers_to m.known.last_call)

-- ---- one after the other

pub record Taken : Type 0 where
  pub moment : Moment
  -- the lines that wait on
  pub lines : List WaitingLine
  -- the calls that had their effects
  pub took : List ℕ

-- no call has come to its effect yet
abbrev pub none_taken : Moment → List WaitingLine → Taken
none_taken m lines = record { moment = m; lines = lines; took = [] }

-- one had its effect, or had none
abbrev pub taken_if : Bool → ℕ → Taken → Taken
taken_if true n was = record was { moment = taking was.moment n; took = was.took ++ n ∷ [] }
taken_if false n was = was

-- lines that let it fail have then named it
abbrev pub with_passed : Begin → Taken → Taken
with_passed call was = record was { lines = after_one (fails_call call) was.lines }

abbrev pub with_open : Taken → ℕ → Option OpenCall → Taken
with_open was n (Some call) =
    with_passed call.begin (taken_if (has_effect_now was.moment was.lines call.begin) n was)
with_open was n None = was

-- the call of a number
abbrev pub with_call : Taken → ℕ → Taken
with_call was n = with_open was n (was.moment.calls n)

-- all of them, in order
abbrev pub with_calls : Taken → List ℕ → Taken
with_calls was numbers = fold with_call was numbers

-- ---- the cloud's store fails

-- the call of a number comes to an effect, which the cloud's store is to keep
abbrev pub is_to_be_kept : Taken → ℕ → Bool
is_to_be_kept was n = holds (λ call. has_effect_now was.moment was.lines call.begin) (was.moment.calls n)

abbrev pub with_lost : Taken → Option OpenCall → Taken
with_lost was (Some call) = with_passed call.begin was
with_lost was None = was

-- that store fails, so that it is not known whether the call had its effect
abbrev pub with_failure : Taken → ℕ → Taken
with_failure was n = with_lost was (was.moment.calls n)
