use Rattle.laws_sites.proofs.RefusedLemmas.{abandoned_good}
use Rattle.laws_sites.proofs.refused.a_good_site_stops_in_a_call.Goals as goal

pub returns : goal.returns
returns g c = λ outside o permit fault fit built good free refuses abandons.
    abandoned_good outside g.K.Keeper.bodies g.L.Keeper.bodies g.L.Keeper.faults o c.args.was.now c.args.mid.now permit fit
    built good free fault c.args.now.now refuses abandons
