use Rattle.laws_due.proofs.StemcellLemmas.{stemcell_due}
use Rattle.laws_due.proofs.uploads.a_stemcell_is_answered_as_it_is_due.Goals as goal

pub returns : goal.returns
returns g c = λ outside o under stemcell result good is notes refused fault pends.
    stemcell_due outside g.K.Keeper.bodies g.L.Keeper.bodies g.K.Keeper.faults o under c.args.was.now c.args.now.now good stemcell result is
    notes refused fault pends
