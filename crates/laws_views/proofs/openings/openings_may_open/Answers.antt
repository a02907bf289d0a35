use Rattle.laws_views.proofs.OpenLemmas.{may_open}
use Rattle.laws_views.proofs.ReadLemmas.{next_known, reads_known}
use Rattle.laws_views.proofs.ViewLemmas.{stands_at}
use Rattle.laws_views.proofs.openings.openings_may_open.Goals as goal

pub returns : goal.returns
returns c = λ m told records ask o stands agrees facts few planned.
    may_open m records facts (reads_known m told records stands agrees facts)
    (next_known m told.calls told.snapped records facts (stands_at m told records stands agrees) few) ask o planned
