use Rattle.laws_sites.proofs.OpenedLemmas.{task_refused}
use Rattle.laws_sites.proofs.openings.a_good_site_that_opens_no_task_stays_good.Goals as goal

pub returns : goal.returns
returns g c = λ outside o ask fault fit good checked refuses calls.
    task_refused outside g.K.Keeper.bodies g.L.Keeper.bodies g.K.Keeper.faults o c.args.was.now c.args.now.now fit
    good calls ask fault checked refuses
