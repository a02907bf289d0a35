use Rattle.laws_sites.proofs.KeepLemmas.{armed_good, same_parts_good}
use Rattle.laws_sites.proofs.kept.a_good_site_is_armed.Goals as goal

pub returns-clause-armed : goal.returns-clause-armed
returns-clause-armed g c = λ outside o trap good.
    armed_good outside g.K.Keeper.bodies g.L.Keeper.bodies o c.args.was.now c.args.now.now good trap

pub returns-clause-refused : goal.returns-clause-refused
returns-clause-refused g c = λ outside o.
    same_parts_good outside g.K.Keeper.bodies g.L.Keeper.bodies o c.args.was.now c.args.now.now
