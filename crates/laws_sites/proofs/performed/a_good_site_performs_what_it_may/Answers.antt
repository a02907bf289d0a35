use Rattle.laws_sites.proofs.PerformedLemmas.{performed_good}
use Rattle.laws_sites.proofs.performed.a_good_site_performs_what_it_may.Goals as goal

pub returns : goal.returns
returns g c = λ outside o permit answer.
    performed_good outside g.K.Keeper.bodies g.L.Keeper.bodies g.L.Keeper.faults o c.args.was.now c.args.now.now permit answer
