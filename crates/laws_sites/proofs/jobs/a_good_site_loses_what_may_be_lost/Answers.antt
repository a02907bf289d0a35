use Rattle.laws_sites.proofs.WrittenLemmas.{loss_refused_good, lost_good}
use Rattle.laws_sites.proofs.jobs.a_good_site_loses_what_may_be_lost.Goals as goal

pub returns-clause-lost : goal.returns-clause-lost
returns-clause-lost g c = λ outside o inst loss fit good is changes.
    lost_good outside g.K.Keeper.bodies g.L.Keeper.bodies g.L.Keeper.faults o c.args.was.now c.args.now.now fit good inst
    loss changes.running is changes

pub returns-clause-refused : goal.returns-clause-refused
returns-clause-refused g c = λ outside o inst whole fault fit good.
    loss_refused_good outside g.K.Keeper.bodies g.L.Keeper.bodies g.L.Keeper.faults o c.args.was.now c.args.now.now fit
    good inst whole fault
