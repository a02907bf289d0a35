use Rattle.laws_due.proofs.JobLemmas.{write_due}
use Rattle.laws_due.proofs.jobs.a_write_is_answered_as_it_is_due.Goals as goal

pub returns : goal.returns
returns g c = λ outside o under inst text result fit good wrote refused.
    write_due outside g.K.Keeper.bodies g.L.Keeper.bodies o under c.args.was.now fit good inst text c.args.now.now
    g.L.Keeper.faults result wrote refused
