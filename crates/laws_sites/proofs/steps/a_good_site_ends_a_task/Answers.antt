use Rattle.laws_sites.proofs.EndLemmas.{ended_good}
use Rattle.laws_sites.proofs.steps.a_good_site_ends_a_task.Goals as goal
use Rattle.laws_stands_kept.proofs.KeptLemmas.{one_more_stands}

pub returns : goal.returns
returns g c = λ outside o task end fit good ends calls.
    ended_good one_more_stands g.K.Keeper.bodies g.L.Keeper.bodies g.K.Keeper.faults outside o c.args.was.now
    c.args.now.now task end fit good calls ends
