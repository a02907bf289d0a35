use Rattle.laws_sites.proofs.RefusedLemmas.{refused_good}
use Rattle.laws_sites.proofs.refused.a_good_site_that_refuses_a_call_stays_good.Goals as goal

pub returns : goal.returns
returns g c = λ outside o permit fault fit built good free refuses.
    refused_good outside g.K.Keeper.bodies g.L.Keeper.bodies g.L.Keeper.faults o c.args.was.now c.args.now.now permit fit
    built good free fault refuses
