-- Lines that wait to let appends and calls fail or to stop the director, and moves that they are the cause of.
use Rattle.std.specs.Prelude.{ℕ, Bool, false, List, [], ◌∷◌, Option, None, Some, Ok}
use Rattle.bosh_base.specs.declared.answer.Answer.{Answer}
use Rattle.bosh_base.specs.declared.method.Method.{Method}
use Rattle.bosh_base.specs.declared.moves.Move.{Move}
use Rattle.bosh_due.specs.Causes.{HasCauses, HaveCauses, StoreFailures, without_last_stop}
use Rattle.bosh_due.specs.HaltedBy.{HaltedBy}
use Rattle.bosh_due.specs.HaltedBy.HaltedBy.{in_append, in_call, no_line}
use Rattle.bosh_due.specs.InTurn.{MakesSession, TurnMade}
use Rattle.bosh_due.specs.Waiting.{WaitingLine, Waits}
use Rattle.bosh_fates.specs.declared.fate.Fate.TheVariants.{Lose}
use Rattle.bosh_history.specs.Moments.{Moment, nothing}
use Rattle.bosh_lines.specs.declared.command.Command.{Command}
use Rattle.bosh_lines.specs.declared.command.Command.TheVariants as commands
use Rattle.bosh_lines.specs.declared.command.StopCall.{StopCall}
use Rattle.bosh_lines.specs.declared.word.Others.TheVariants.{Undone}
use Rattle.bosh_lines.specs.declared.word.When.{When}
use Rattle.bosh_lines.specs.declared.word.When.TheVariants.{Before}
use Rattle.bosh_transcript.specs.declared.status.Status.{Status}
use Rattle.bosh_transcript.specs.declared.status.Status.TheVariants.{Memory}
use Rattle.examples_histories.specs.Failed.{failed}
use Rattle.examples_histories.specs.Scenes.{Builder, did, prepared}
use Rattle.examples_replies.specs.AtOnce.{asks}
use Rattle.examples_replies.specs.CutOff.{clean_up_opened}
use Rattle.examples_replies.specs.OneTurn.{counted, none_failed}
use Rattle.examples_replies.specs.Scenes.{at, no_files}

-- ---- what waits

-- none does, and this halted the director
abbrev pub none_wait_after : HaltedBy → Waits
none_wait_after by = record { lines = []; halted_by = by }

abbrev pub none_wait : Waits
none_wait = none_wait_after no_line

abbrev pub waiting : Command → ℕ → WaitingLine
waiting command left = record { command = command; left = left }

-- these do
abbrev pub all_wait : List WaitingLine → Waits
all_wait lines = record { lines = lines; halted_by = no_line }

-- one line does, for an append or a call that is so many from now
abbrev pub one_waits : Command → ℕ → Waits
one_waits command left = all_wait (waiting command left ∷ [])

-- the first append is to fail
abbrev pub fail_append : Command
fail_append = commands.FailStore Lose 1

-- the director is to stop before an append, or behind it
abbrev pub stop_at_append : When → ℕ → Command
stop_at_append when appends = commands.StopStore when appends

abbrev pub stop_append : ℕ → Command
stop_append appends = stop_at_append Before appends

-- a call of a method is to fail, whose ever it is
abbrev pub fail_call : Method → ℕ → Command
fail_call method calls =
    commands.FailCall (record { method = method; owner = None; calls = calls; fate = Lose })

-- the director is to stop in one, and the others that are open are to have no effect
abbrev pub stop_in : When → Method → ℕ → StopCall
stop_in when method calls = record { when = when; method = method; owner = None; calls = calls; others = Undone }

-- .. before it
abbrev pub stop_call : Method → ℕ → Command
stop_call method calls = commands.StopCall (stop_in Before method calls)

-- an append is to fail, and the director is to stop at the same
abbrev pub both_at_once : Waits
both_at_once = all_wait (waiting fail_append 1 ∷ waiting (stop_append 1) 1 ∷ [])

-- ---- moves

-- these moves have their causes, where the stores failed so often, and leave this
abbrev pub AreCausedBy : StoreFailures → Waits → List Move → Waits → Type 0
AreCausedBy stores was more now = HaveCauses stores prepared was more now

-- .. where no store failed
abbrev pub AreCaused : Waits → List Move → Waits → Type 0
AreCaused was more now = AreCausedBy none_failed was more now

abbrev pub AreUncausedBy : StoreFailures → Waits → List Move → Type 0
AreUncausedBy stores was more = (now : Waits) → AreCausedBy stores was more now → ⊥

abbrev pub AreUncaused : Waits → List Move → Type 0
AreUncaused was more = AreUncausedBy none_failed was more

-- so is a move behind so many of a history in which a machine is started for the second time by the call 6, which fails
abbrev pub IsCausedAfter : ℕ → Waits → Move → Waits → Type 0
IsCausedAfter count was move now =
    (built : Builder) → HaveCauses none_failed (at prepared count (failed built)).moment was (move ∷ []) now

abbrev pub IsUncausedAfter : ℕ → Waits → Move → Type 0
IsUncausedAfter count was move =
    (built : Builder) (now : Waits) →
    HaveCauses none_failed (at prepared count (failed built)).moment was (move ∷ []) now → ⊥

-- the call is performed, with its effect or without it, and answered so
abbrev pub performed_with : Bool → Answer → Move
performed_with effect answer = did 6 effect answer

abbrev pub performed : Answer → Move
performed answer = performed_with false answer

-- a line at an append halted the director, which may find this
abbrev pub MayFindAfter : Option Bool → Move → Type 0
MayFindAfter is_there found = AreCaused (none_wait_after (in_append is_there)) (found ∷ []) none_wait

abbrev pub NeverFindsAfter : Option Bool → Move → Type 0
NeverFindsAfter is_there found = AreUncaused (none_wait_after (in_append is_there)) (found ∷ [])

-- .. and so a call, where these had their effects, and it is not known of one more
abbrev pub MayFindIn : List ℕ → Option ℕ → Move → Type 0
MayFindIn took last found = AreCaused (none_wait_after (in_call took last)) (found ∷ []) none_wait

abbrev pub NeverFindsIn : List ℕ → Option ℕ → Move → Type 0
NeverFindsIn took last found = AreUncaused (none_wait_after (in_call took last)) (found ∷ [])

-- ---- a session that is cut off

-- the task of the first line opened, and these moves came behind that
abbrev pub cut_behind : List Move → TurnMade
cut_behind more = record {
  read = record { first = asks 1 commands.CleanUp; others = []; is_end = false };
  files = no_files;
  failed = none_failed;
  segment = clean_up_opened ∷ more;
}

-- with this status, though no store failed and no line asked for it
abbrev pub IsCutOffAs : Status → List Move → Type 0
IsCutOffAs status more =
    MakesSession status nothing ((asks 1 commands.CleanUp).request ∷ []) (clean_up_opened ∷ more) (Some [])
    (counted 0) (counted 0) [] (Some (cut_behind more))

abbrev pub IsCutOffBehind : List Move → Type 0
IsCutOffBehind more = IsCutOffAs Memory more

-- a command was cut off with these moves, though no store failed and no line asked for it
abbrev pub IsGivenUp : Command → Moment → List Move → Type 0
IsGivenUp command m more =
    HasCauses none_failed m none_wait (Ok command) (without_last_stop (Ok command) m more) none_wait
