use Rattle.laws_waits.proofs.HandLemmas.{carried_at_hand}
use Rattle.laws_waits.proofs.hands.no_call_is_open_between_commands.Goals as goal

pub returns : goal.returns
returns g c = λ tasks worker result.
    carried_at_hand g.K.Keeper.bodies g.K.Keeper.faults g.L.Keeper.bodies g.L.Keeper.faults tasks worker c.args.was.now
    result c.args.now.now
