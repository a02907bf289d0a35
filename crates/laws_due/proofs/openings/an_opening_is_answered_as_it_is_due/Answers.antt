use Rattle.laws_due.proofs.OpenedLemmas.{opening_due}
use Rattle.laws_due.proofs.openings.an_opening_is_answered_as_it_is_due.Goals as goal

pub returns : goal.returns
returns g c = λ outside o under ask result fit good counted opens refused fault pends.
    opening_due outside g.K.Keeper.bodies g.L.Keeper.bodies g.K.Keeper.faults o under c.args.was.now c.args.now.now fit good counted ask
    result opens refused fault pends
