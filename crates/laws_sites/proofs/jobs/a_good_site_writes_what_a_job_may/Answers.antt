use Rattle.laws_sites.proofs.WrittenLemmas.{write_refused_good, wrote_good}
use Rattle.laws_sites.proofs.jobs.a_good_site_writes_what_a_job_may.Goals as goal

pub returns-clause-written : goal.returns-clause-written
returns-clause-written g c = λ outside o inst text disk fit good is changes.
    wrote_good outside g.K.Keeper.bodies g.L.Keeper.bodies g.L.Keeper.faults o c.args.was.now c.args.now.now fit good inst
    text disk changes.running is changes

pub returns-clause-refused : goal.returns-clause-refused
returns-clause-refused g c = λ outside o inst text fault fit good.
    write_refused_good outside g.K.Keeper.bodies g.L.Keeper.bodies g.L.Keeper.faults o c.args.was.now c.args.now.now fit
    good inst text fault
