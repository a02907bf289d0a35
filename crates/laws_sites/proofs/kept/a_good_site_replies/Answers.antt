use Rattle.laws_sites.proofs.KeepLemmas.{said_good, unsaid_good}
use Rattle.laws_sites.proofs.kept.a_good_site_replies.Goals as goal

pub returns-clause-said : goal.returns-clause-said
returns-clause-said g c = λ outside o reply good.
    said_good outside g.K.Keeper.bodies g.L.Keeper.bodies o c.args.was.now c.args.now.now good reply

pub returns-clause-refused : goal.returns-clause-refused
returns-clause-refused g c = λ outside o good.
    unsaid_good outside g.K.Keeper.bodies g.L.Keeper.bodies o c.args.was.now c.args.now.now good
