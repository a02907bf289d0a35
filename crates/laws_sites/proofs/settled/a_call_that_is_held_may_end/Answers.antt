use Rattle.laws_sites.proofs.HeldLemmas.{held_may_end}
use Rattle.laws_sites.proofs.settled.a_call_that_is_held_may_end.Goals as goal

pub returns : goal.returns
returns g c = λ outside o call.
    held_may_end outside g.K.Keeper.bodies g.L.Keeper.bodies o c.args.site.now call
