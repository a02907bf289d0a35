use Rattle.std.proofs.Common.{refl, subst}
use Rattle.bosh_book.specs.declared.claim.Claim.{Claim}
use Rattle.bosh_crew.proofs.CarryLemmas.{over_then, stopped_at_once}
use Rattle.bosh_crew.specs.Carried.{HasClaimed}
use Rattle.bosh_crew.specs.Carried.Stops.{in_claim}
use Rattle.bosh_crew.specs.declared.place.Place.TheVariants.{Empty}
use Rattle.bosh_world.specs.Told.{IsGiven}
use Rattle.bosh_crew.proofs.step.claim.Goals as goal

pub returns-in-Ok-Work-clause-advances : goal.returns-in-Ok-Work-clause-advances
returns-in-Ok-Work-clause-advances g c =
    subst (λ (claim : Claim). HasClaimed g.K.Keeper.bodies g.K.Keeper.faults c.args.task c.args.worker c.args.site.now claim
    c.claim.new.self) c.in-Ok-Work.field-0-is (c.in-Ok-Work.ensures.claims, c.in-Ok-Work.ensures.calls)

pub returns-in-Ok-Work-clause-at : goal.returns-in-Ok-Work-clause-at
returns-in-Ok-Work-clause-at g c =
    subst (λ (claim : Claim). IsGiven c.claim.new.self claim) c.in-Ok-Work.field-0-is c.in-Ok-Work.ensures.performable

pub returns-in-Ok-Over-clause-advances : goal.returns-in-Ok-Over-clause-advances
returns-in-Ok-Over-clause-advances g c =
    over_then g.K.Keeper.bodies g.K.Keeper.faults g.L.Keeper.bodies g.L.Keeper.faults c.args.task c.args.worker
    c.args.site.now c.claim.new.self c.end.new.site c.end.result
    (subst (λ (claim : Claim). HasClaimed g.K.Keeper.bodies g.K.Keeper.faults c.args.task c.args.worker c.args.site.now claim
    c.claim.new.self) c.in-Ok-Over.field-0-is (c.in-Ok-Over.ensures.claims, c.in-Ok-Over.ensures.calls))
    c.end.ensures.ends

pub returns-in-Ok-Wait-clause-advances : goal.returns-in-Ok-Wait-clause-advances
returns-in-Ok-Wait-clause-advances g c =
    subst (λ (claim : Claim). HasClaimed g.K.Keeper.bodies g.K.Keeper.faults c.args.task c.args.worker c.args.site.now claim
    c.claim.new.self) c.in-Ok-Wait.field-0-is (c.in-Ok-Wait.ensures.claims, c.in-Ok-Wait.ensures.calls)

pub returns-in-Err-clause-advances : goal.returns-in-Err-clause-advances
returns-in-Err-clause-advances g c = λ tasks there.
    stopped_at_once g.K.Keeper.bodies g.K.Keeper.faults g.L.Keeper.bodies g.L.Keeper.faults tasks c.args.worker
    c.args.site.now Empty c.in-Err.fault c.claim.new.self
    (in_claim c.args.task refl there c.in-Err.ensures.refused c.in-Err.ensures.fault c.in-Err.ensures.calls
    c.in-Err.ensures.pending)
