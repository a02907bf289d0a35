use Rattle.std.proofs.Common.{refl}
use Rattle.bosh_world.proofs.CallLemmas.{claim_halted, claim_lost, claim_unasked, notes_nothing}
use Rattle.bosh_world.specs.declared.fault.SiteFault.TheVariants.{Memory}
use Rattle.bosh_world.proofs.site.Site.claim.Goals as goal

pub returns-in_err-check_running-clause-refused : goal.returns-in_err-check_running-clause-refused
returns-in_err-check_running-clause-refused g c =
    claim_unasked g.K.Keeper.bodies g.K.Keeper.faults c.args.self.now _ c.args.task c.args.worker c.from_residual.result
    refl refl
    (claim_halted g.K.Keeper.bodies g.K.Keeper.faults c.args.self.now _ c.from_residual.result
    c.in_err-check_running.field-0.0 c.from_residual.ensures.1 c.in_err-check_running.ensures.halted refl)

pub returns-in_err-reserve-clause-refused : goal.returns-in_err-reserve-clause-refused
returns-in_err-reserve-clause-refused g c =
    claim_unasked g.K.Keeper.bodies g.K.Keeper.faults c.args.self.now _ c.args.task c.args.worker
    c.from_residual-in_err-reserve.result refl refl
    (claim_lost g.K.Keeper.bodies g.K.Keeper.faults c.args.self.now _ c.from_residual-in_err-reserve.result
    Memory c.from_residual-in_err-reserve.ensures.1 refl
    c.in_ok-check_running.ensures.runs
    (notes_nothing g.K.Keeper.bodies g.K.Keeper.faults c.args.self.now _ c.in_ok-check_running.ensures.runs
    (λ j. c.args.self.now.book) (λ j. c.args.self.now.cloud) (λ j. c.args.self.now.history)
    (λ j. c.args.self.now.traps.items) (λ j. c.args.self.now.opening)))
