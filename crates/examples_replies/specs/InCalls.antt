-- Lines that wait for calls, as the director halts in one.
use Rattle.std.specs.Prelude.{ℕ, List, []}
use Rattle.bosh_base.specs.declared.call.Call.TheVariants.{CreateVm}
use Rattle.bosh_base.specs.declared.entry.Begin.{Begin}
use Rattle.bosh_base.specs.declared.entry.Entry.TheVariants as entries
use Rattle.bosh_base.specs.declared.method.Method.TheVariants as methods
use Rattle.bosh_base.specs.declared.moves.Move.{Move}
use Rattle.bosh_base.specs.declared.moves.Move.TheVariants.{Note}
use Rattle.bosh_base.specs.declared.owner.Owner.TheVariants.{Instance}
use Rattle.bosh_due.specs.Causes.{HaveCauses, StoreFailures}
use Rattle.bosh_due.specs.Waiting.{WaitingLine, Waits}
use Rattle.bosh_history.specs.Moments.{Moment, noting}
use Rattle.bosh_lines.specs.declared.command.Command.TheVariants as commands
use Rattle.bosh_lines.specs.declared.word.When.{When}
use Rattle.examples_histories.specs.Scenes.{prepared}
use Rattle.examples_histories.specs.Values.{plain, web, z1}
use Rattle.examples_replies.specs.Caused.{all_wait, fail_call, stop_in, waiting}

-- a machine is created by the call of a number
abbrev pub creation : ℕ → Begin
creation n = record { n = n; task = 1; worker = 0; owner = Instance (web 0); call = CreateVm (plain z1 10) [] }

-- the first call is open
abbrev pub begun : Moment
begun = noting prepared (entries.Begin (creation 1))

-- the next one begins
abbrev pub begins_again : Move
begins_again = Note (entries.Begin (creation 2))

-- the next creation is to fail, or to stop the director
abbrev pub fails : WaitingLine
fails = waiting (fail_call methods.CreateVm 1) 1

abbrev pub stops : When → WaitingLine
stops when = waiting (commands.StopCall (stop_in when methods.CreateVm 1)) 1

-- the cloud's store failed so often
abbrev pub cloud_failed : ℕ → StoreFailures
cloud_failed count = record { director = 0; cloud = count }

-- where the first call is open and these lines wait, these moves have their causes, and these lines wait then
abbrev pub LeaveWaiting : ℕ → List WaitingLine → List Move → List WaitingLine → Type 0
LeaveWaiting failures lines more left =
    HaveCauses (cloud_failed failures) begun (all_wait lines) more (all_wait left)

abbrev pub HaveNoCause : ℕ → List WaitingLine → List Move → Type 0
HaveNoCause failures lines more =
    (now : Waits) → HaveCauses (cloud_failed failures) begun (all_wait lines) more now → ⊥
