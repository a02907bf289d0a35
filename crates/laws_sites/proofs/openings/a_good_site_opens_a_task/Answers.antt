use Rattle.laws_sites.proofs.OpenedLemmas.{task_good}
use Rattle.laws_sites.proofs.openings.a_good_site_opens_a_task.Goals as goal
use Rattle.laws_stands_kept.proofs.KeptLemmas.{one_more_stands}

pub returns : goal.returns
returns g c = λ outside o ask task fit good checked opens calls.
    task_good outside g.K.Keeper.bodies g.L.Keeper.bodies g.K.Keeper.faults o c.args.was.now c.args.now.now fit
    good calls one_more_stands ask task checked opens
