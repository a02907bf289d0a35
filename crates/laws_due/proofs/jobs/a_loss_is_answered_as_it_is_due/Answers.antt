use Rattle.laws_due.proofs.JobLemmas.{loss_due}
use Rattle.laws_due.proofs.jobs.a_loss_is_answered_as_it_is_due.Goals as goal

pub returns : goal.returns
returns g c = λ outside o under inst how result fit good lost refused.
    loss_due outside g.K.Keeper.bodies g.L.Keeper.bodies o under c.args.was.now fit good inst how c.args.now.now
    g.L.Keeper.faults result lost refused
