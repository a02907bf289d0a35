use Rattle.laws_restarts.proofs.LeftLemmas.{leaves_fit}
use Rattle.laws_restarts.proofs.left.what_a_good_site_leaves_is_fit.Goals as goal

pub returns : goal.returns
returns g c = λ outside o list cloud_list entries effects fit good.
    leaves_fit outside g.K.Keeper.bodies g.L.Keeper.bodies o c.args.site.now fit good list cloud_list entries effects
