use Rattle.laws_sites.proofs.ChainLemmas.{carried_good}
use Rattle.laws_sites.proofs.steps.a_good_site_is_good_after_a_drive.Goals as goal
use Rattle.laws_stands_kept.proofs.KeptLemmas.{one_more_stands}

pub returns : goal.returns
returns g c = λ outside o tasks worker result fit built.
    carried_good one_more_stands g.K.Keeper.bodies g.K.Keeper.faults g.L.Keeper.bodies g.L.Keeper.faults outside built
    o fit tasks worker c.args.was.now result c.args.now.now
