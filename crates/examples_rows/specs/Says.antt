-- What is said of a row by an example.
use Rattle.std.specs.Prelude.{◌≡◌, ℕ, Option, Some, None}
use Rattle.bosh_base.specs.declared.answer.Answer.{Answer}
use Rattle.bosh_base.specs.declared.call.Call.{Call}
use Rattle.bosh_base.specs.declared.goal.GoalRow.{GoalRow}
use Rattle.bosh_base.specs.declared.method.Method.{Method}
use Rattle.bosh_base.specs.declared.row.Row.{Row}
use Rattle.bosh_rows.specs.After.{after}
use Rattle.bosh_rows.specs.CallOf.{call_of}
use Rattle.bosh_rows.specs.NextStep.{next_step}
use Rattle.bosh_rows.specs.Standing.{IsStanding}
use Rattle.bosh_rows.specs.declared.step.Step.{Step}
use Rattle.examples_rows.specs.Rows.{in_doubt, plain_step, step_on}

-- the next step is this one, and it is this call
pub record IsStepOf (want : Option GoalRow) (row : Row) (step : Step) (call : Call) : Type 0 where
  pub is_next : next_step want row ≡ Some step
  pub is_call : call_of step want row ≡ Some call

-- .. of a step that names no disk
abbrev pub Comes : Option GoalRow → Row → Method → Call → Type 0
Comes want row method call = IsStepOf want row (plain_step method) call

-- .. of a step on a disk
abbrev pub ComesOn : Option GoalRow → Row → Method → ℕ → Call → Type 0
ComesOn want row method d call = IsStepOf want row (step_on method d) call

-- no step is left
abbrev pub Rests : Option GoalRow → Row → Type 0
Rests want row = next_step want row ≡ None

abbrev pub IsNotStanding : Option GoalRow → Row → Type 0
IsNotStanding want row = IsStanding want row → ⊥

-- call 7 leaves a row in doubt, and the answer makes another of it
abbrev pub Answered : Call → Answer → Row → Row → Type 0
Answered call answer before is = after 7 call answer (in_doubt call before) ≡ is
