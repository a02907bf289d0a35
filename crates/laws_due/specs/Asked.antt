-- What may come of what is asked of a director (this project's profile).
use Rattle.std.specs.Prelude.{◌≡◌, true, false}
use Rattle.bosh_asks.specs.declared.ask.Ask.{Ask}
use Rattle.bosh_asks.specs.declared.fault.BookFault.TheVariants.{Stopped}
use Rattle.bosh_due.specs.Before.{Before}
use Rattle.bosh_due.specs.Openings.{planned_outcome}
use Rattle.bosh_due.specs.Outcomes.{Outcome}
use Rattle.bosh_due.specs.Outcomes.Outcome.{Refuses}
use Rattle.bosh_due.specs.Plans.{Plan}
use Rattle.bosh_refusals.specs.Told.{book_told}
use Rattle.laws_planned.specs.Planned.{PlansAsk}

-- it has halted; or a task opens for what is asked, or that is refused for the first cause in order
pub data ComesOfAsk (b : Before) (ask : Ask) (outcome : Outcome) : Type 0 where
  halted : b.moment.halted ≡ true → outcome ≡ Refuses (book_told Stopped) → ComesOfAsk b ask outcome
  going_on :
      (plan : Plan) → b.moment.halted ≡ false → PlansAsk b.moment.known ask plan → outcome ≡ planned_outcome b ask plan →
      ComesOfAsk b ask outcome
