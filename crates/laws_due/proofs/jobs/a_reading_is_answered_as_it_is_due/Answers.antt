use Rattle.laws_due.proofs.JobLemmas.{read_due}
use Rattle.laws_due.proofs.jobs.a_reading_is_answered_as_it_is_due.Goals as goal

pub returns : goal.returns
returns g c = λ outside o under inst result fit good read refused.
    read_due outside g.K.Keeper.bodies g.L.Keeper.bodies o under c.args.site.now fit good inst result read refused
