use Rattle.laws_due.proofs.StemcellLemmas.{config_due}
use Rattle.laws_due.proofs.uploads.a_config_is_answered_as_it_is_due.Goals as goal

pub returns : goal.returns
returns g c = λ outside o under text result good spells notes refused fault pends.
    config_due outside g.K.Keeper.bodies g.L.Keeper.bodies g.K.Keeper.faults o under c.args.was.now c.args.now.now good text spells
    result notes refused fault pends
