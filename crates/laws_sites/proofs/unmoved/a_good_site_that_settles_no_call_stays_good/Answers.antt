use Rattle.laws_sites.proofs.StoppedLemmas.{settling_stopped_good}
use Rattle.laws_sites.proofs.unmoved.a_good_site_that_settles_no_call_stays_good.Goals as goal

pub returns : goal.returns
returns g c = λ outside o call fault.
    settling_stopped_good g.K.Keeper.bodies g.L.Keeper.bodies g.K.Keeper.faults outside o c.args.was.now c.args.mid.now
    c.args.now.now call fault
