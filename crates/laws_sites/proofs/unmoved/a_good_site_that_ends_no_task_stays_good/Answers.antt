use Rattle.laws_sites.proofs.StoppedLemmas.{end_stopped_good}
use Rattle.laws_sites.proofs.unmoved.a_good_site_that_ends_no_task_stays_good.Goals as goal

pub returns : goal.returns
returns g c = λ outside o task fault.
    end_stopped_good g.K.Keeper.bodies g.L.Keeper.bodies g.K.Keeper.faults outside o c.args.was.now c.args.now.now task
    fault
