use Rattle.laws_sites.proofs.ChainLemmas.{reached_good, step_good, stopped_good}
use Rattle.laws_sites.proofs.steps.a_good_site_is_good_after_each_step.Goals as goal
use Rattle.laws_stands_kept.proofs.KeptLemmas.{one_more_stands}

pub returns-clause-step : goal.returns-clause-step
returns-clause-step g c = λ outside o tasks worker place next fit built.
    step_good one_more_stands g.K.Keeper.bodies g.K.Keeper.faults g.L.Keeper.bodies g.L.Keeper.faults outside built o
    fit tasks worker c.args.was.now place c.args.now.now next

pub returns-clause-steps : goal.returns-clause-steps
returns-clause-steps g c = λ outside o tasks worker place next fit built.
    reached_good one_more_stands g.K.Keeper.bodies g.K.Keeper.faults g.L.Keeper.bodies g.L.Keeper.faults outside built
    o fit tasks worker c.args.was.now place c.args.now.now next

pub returns-clause-stopped : goal.returns-clause-stopped
returns-clause-stopped g c = λ outside o tasks worker place fault fit built.
    stopped_good one_more_stands g.K.Keeper.bodies g.K.Keeper.faults g.L.Keeper.bodies g.L.Keeper.faults outside built
    o fit tasks worker c.args.was.now place fault c.args.now.now
