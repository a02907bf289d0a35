use Rattle.laws_waits.proofs.HandLemmas.{reached_at_hand, step_at_hand}
use Rattle.laws_waits.proofs.hands.what_is_open_is_at_hand.Goals as goal

pub returns-clause-step : goal.returns-clause-step
returns-clause-step g c = λ tasks worker place next.
    step_at_hand g.K.Keeper.bodies g.K.Keeper.faults g.L.Keeper.bodies g.L.Keeper.faults tasks worker c.args.was.now place
    c.args.now.now next

pub returns-clause-steps : goal.returns-clause-steps
returns-clause-steps g c = λ tasks worker place next.
    reached_at_hand g.K.Keeper.bodies g.K.Keeper.faults g.L.Keeper.bodies g.L.Keeper.faults tasks worker c.args.was.now
    place c.args.now.now next
