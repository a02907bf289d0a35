use Rattle.laws_planned.proofs.PlanLemmas.{refused_as}
use Rattle.laws_planned.proofs.ReadLemmas.{planned_over}
use Rattle.laws_planned.proofs.plans.what_is_refused_is_planned.Goals as goal

pub returns : goal.returns
returns c = λ m told records ask fault stands agrees facts viewed refuses cause.
    refused_as m.known records (planned_over m told records stands agrees facts viewed) ask fault refuses cause
