use Rattle.std.proofs.Common.{◌∙◌, sym}
use Rattle.laws_stands_kept.proofs.KeptLemmas.{one_more_stands}
use Rattle.laws_waits.proofs.SiteLemmas.{awaits_now, awaits_there, open_there, were_open}
use Rattle.laws_waits.proofs.waiting.a_worker_waits_only_for_open_calls.Goals as goal

pub returns-clause-awaits : goal.returns-clause-awaits
returns-clause-awaits g c = λ outside o task worker.
    awaits_now one_more_stands g.K.Keeper.bodies g.L.Keeper.bodies g.K.Keeper.faults outside o c.args.was.now
    c.args.now.now task worker

pub returns-clause-were_open : goal.returns-clause-were_open
returns-clause-were_open g c = λ outside o task worker.
    were_open one_more_stands g.K.Keeper.bodies g.L.Keeper.bodies g.K.Keeper.faults outside o c.args.was.now
    c.args.now.now task worker

pub returns-clause-are_open : goal.returns-clause-are_open
returns-clause-are_open g c = λ outside o task worker fit good claimed none.
    were_open one_more_stands g.K.Keeper.bodies g.L.Keeper.bodies g.K.Keeper.faults outside o c.args.was.now
    c.args.now.now task worker fit good claimed.0 (sym claimed.1 ∙ none)

pub returns-clause-awaits_there : goal.returns-clause-awaits_there
returns-clause-awaits_there g c = λ outside o task worker.
    awaits_there g.K.Keeper.bodies g.L.Keeper.bodies g.K.Keeper.faults outside o c.args.was.now c.args.now.now task worker

pub returns-clause-are_open_there : goal.returns-clause-are_open_there
returns-clause-are_open_there g c = λ outside o task worker.
    open_there g.K.Keeper.bodies g.L.Keeper.bodies g.K.Keeper.faults outside o c.args.was.now c.args.now.now task worker
