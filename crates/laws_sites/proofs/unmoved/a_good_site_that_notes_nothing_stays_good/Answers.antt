use Rattle.laws_sites.proofs.StoppedLemmas.{still_good}
use Rattle.laws_sites.proofs.unmoved.a_good_site_that_notes_nothing_stays_good.Goals as goal

pub returns : goal.returns
returns g c = λ outside o.
    still_good g.K.Keeper.bodies g.L.Keeper.bodies g.K.Keeper.faults outside o c.args.was.now c.args.now.now
