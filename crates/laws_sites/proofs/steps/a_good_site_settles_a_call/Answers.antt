use Rattle.laws_sites.proofs.NoteLemmas.{settled_good}
use Rattle.laws_sites.proofs.steps.a_good_site_settles_a_call.Goals as goal
use Rattle.laws_stands_kept.proofs.KeptLemmas.{one_more_stands}

pub returns : goal.returns
returns g c = λ outside o call.
    settled_good one_more_stands outside g.K.Keeper.bodies g.L.Keeper.bodies g.K.Keeper.faults o c.args.was.now
    c.args.now.now call
