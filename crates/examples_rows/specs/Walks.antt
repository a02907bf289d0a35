-- The calls that bring an instance to where it is wanted, one after the other, with their answers.
use Rattle.std.specs.Prelude.{◌≡◌, ℕ, ◌+◌, Option, Some, None, List, [], ◌∷◌}
use Rattle.bosh_base.specs.declared.answer.Answer.{Answer}
use Rattle.bosh_base.specs.declared.answer.Answer.TheVariants.{Done}
use Rattle.bosh_base.specs.declared.call.Call.{Call}
use Rattle.bosh_base.specs.declared.goal.GoalRow.{GoalRow}
use Rattle.bosh_base.specs.declared.row.Row.{Row}
use Rattle.bosh_rows.specs.After.{after, begun_row, updated_row}
use Rattle.bosh_rows.specs.CallOf.{next_call}
use Rattle.bosh_rows.specs.NextStep.{next_step}
use Rattle.bosh_rows.specs.Standing.{IsStanding}

pub record Made : Type 0 where
  pub call : Call
  pub answer : Answer

abbrev pub made : Call → Answer → Made
made call answer = record { call = call; answer = answer }

abbrev pub done : Call → Made
done call = made call Done

-- each is the call of the next step, from number n on, and then no step is left
abbrev pub Walks : Option GoalRow → ℕ → List Made → Row → Type 0
Walks want n [] row = next_step want row ≡ None
Walks want n (it ∷ others) row =
    (next_call want row ≡ Some it.call) × Walks want (n + 1) others (after n it.call it.answer (begun_row n it.call row))

abbrev pub walked : ℕ → List Made → Row → Row
walked n [] row = row
walked n (it ∷ others) row = walked (n + 1) others (after n it.call it.answer (begun_row n it.call row))

-- .. and once the update is done, the instance stands
pub record Arrives (want : GoalRow) (n : ℕ) (calls : List Made) (row : Row) : Type 0 where
  pub walks : Walks (Some want) n calls row
  pub stands : IsStanding (Some want) (updated_row want (walked n calls row))
