use Rattle.std.proofs.Common.{None, Ok, refl}
use Rattle.laws_restarts.proofs.RestartLemmas.{goes_on_good}
use Rattle.laws_restarts.proofs.UnreadLemmas.{refused_good}
use Rattle.laws_restarts.proofs.restarts.a_good_site_starts_anew.Goals as goal

pub returns-clause-restarted : goal.returns-clause-restarted
returns-clause-restarted g c = λ outside o fit good restarts.
    goes_on_good outside g.K.Keeper.bodies g.K.Keeper.faults g.K.Keeper.is_broken g.L.Keeper.bodies g.L.Keeper.faults o
    c.args.was.now c.args.now.now fit good (Ok tt) None restarts refl refl

pub returns-clause-refused : goal.returns-clause-refused
returns-clause-refused g c = λ outside o fault fit good.
    refused_good outside g.K.Keeper.bodies g.K.Keeper.faults g.K.Keeper.is_broken g.L.Keeper.bodies g.L.Keeper.faults o
    c.args.was.now c.args.now.now fit good fault
