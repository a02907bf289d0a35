use Rattle.std.proofs.Common.{ap, subst, sym}
use Rattle.bosh_book.specs.declared.granted.Granted.{Granted}
use Rattle.bosh_crew.proofs.CarryLemmas.{stopped_at_once}
use Rattle.bosh_crew.specs.Carried.Stops.{in_call}
use Rattle.bosh_crew.specs.declared.place.Place.TheVariants as places
use Rattle.bosh_world.specs.Performing.{RefusesToPerform}
use Rattle.bosh_world.specs.Told.{IsPerformable}
use Rattle.bosh_crew.proofs.step.perform.Goals as goal

pub returns-in-Ok-clause-advances : goal.returns-in-Ok-clause-advances
returns-in-Ok-clause-advances g c = λ task worker. c.in-Ok.ensures.performed

pub returns-in-Err-clause-advances : goal.returns-in-Err-clause-advances
returns-in-Err-clause-advances g c = λ task worker tasks there.
    stopped_at_once g.K.Keeper.bodies g.K.Keeper.faults g.L.Keeper.bodies g.L.Keeper.faults tasks worker c.args.site.now
    (places.Granted c.args.permit) c.in-Err.fault c.abandon.new.self
    (in_call c.in-Err.permit c.perform.new.self (ap places.Granted (sym c.in-Err.ensures.refused.0))
    (subst (λ (p : Granted). IsPerformable c.args.site.now p) (sym c.in-Err.ensures.refused.0) c.requires)
    (subst (λ (p : Granted). RefusesToPerform g.L.Keeper.bodies g.L.Keeper.faults c.args.site.now p c.in-Err.fault
    c.perform.new.self) (sym c.in-Err.ensures.refused.0) c.in-Err.ensures.refused.1) c.abandon.ensures.abandons)
