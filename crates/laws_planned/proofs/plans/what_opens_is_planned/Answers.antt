use Rattle.std.proofs.Common.{◌∙◌}
use Rattle.laws_planned.proofs.OpeningLemmas.{opens_as, plans_as}
use Rattle.laws_planned.proofs.ReadLemmas.{planned_over}
use Rattle.laws_views.proofs.OpenLemmas.{may_open}
use Rattle.laws_views.proofs.ReadLemmas.{next_known, reads_known}
use Rattle.laws_views.proofs.ViewLemmas.{stands_at}
use Rattle.laws_planned.proofs.plans.what_opens_is_planned.Goals as goal

pub returns : goal.returns
returns c = λ m told records ask o stands agrees facts viewed few planned.
    let next = next_known m told.calls told.snapped records facts (stands_at m told records stands agrees) few in (
      plans_as m.known records (planned_over m told records stands agrees facts viewed) ask o planned,
      opens_as m.known records ask o planned (planned.number ∙ next)
          (may_open m records facts (reads_known m told records stands agrees facts) next ask o planned),
    )
