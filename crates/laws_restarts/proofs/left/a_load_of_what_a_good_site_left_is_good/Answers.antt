use Rattle.laws_restarts.proofs.LeftLemmas.{load_good}
use Rattle.laws_restarts.proofs.left.a_load_of_what_a_good_site_left_is_good.Goals as goal

pub returns : goal.returns
returns g c = λ outside before fit good.
    load_good outside g.K.Keeper.bodies g.L.Keeper.bodies before c.args.was.now fit good g.K.Keeper.faults
    g.K.Keeper.is_broken g.L.Keeper.faults c.args.now.now
