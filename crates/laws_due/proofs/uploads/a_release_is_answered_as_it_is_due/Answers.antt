use Rattle.laws_due.proofs.UploadLemmas.{release_due}
use Rattle.laws_due.proofs.uploads.a_release_is_answered_as_it_is_due.Goals as goal

pub returns : goal.returns
returns g c = λ outside o under release result good is notes refused fault pends.
    release_due outside g.K.Keeper.bodies g.L.Keeper.bodies g.K.Keeper.faults o under c.args.was.now c.args.now.now good release result is
    notes refused fault pends
