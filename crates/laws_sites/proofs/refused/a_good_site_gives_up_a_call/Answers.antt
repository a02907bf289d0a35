use Rattle.laws_sites.proofs.HaltLemmas.{gives_up_good}
use Rattle.laws_sites.proofs.refused.a_good_site_gives_up_a_call.Goals as goal

pub returns : goal.returns
returns g c = λ outside o.
    gives_up_good outside g.K.Keeper.bodies g.L.Keeper.bodies o c.args.was.now c.args.now.now
