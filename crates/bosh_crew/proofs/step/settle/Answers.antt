use Rattle.std.proofs.Common.{ap, subst, sym}
use Rattle.bosh_base.specs.declared.entry.Entry.TheVariants as entries
use Rattle.bosh_book.specs.Faults.{MayEnd}
use Rattle.bosh_crew.proofs.CarryLemmas.{stopped_at_once}
use Rattle.bosh_crew.specs.Carried.Stops.{in_settling}
use Rattle.bosh_crew.specs.declared.place.Place.TheVariants.{Held}
use Rattle.bosh_world.specs.Holds.{IsHeld}
use Rattle.bosh_world.specs.Pending.{IsAllowed, Pends}
use Rattle.bosh_world.specs.Refuses.{IsUnheld}
use Rattle.bosh_world.specs.declared.held.HeldCall.{HeldCall}
use Rattle.bosh_crew.proofs.step.settle.Goals as goal

pub returns-in-Ok-clause-advances : goal.returns-in-Ok-clause-advances
returns-in-Ok-clause-advances g c = λ task worker.
    (c.in-Ok.ensures.may_end, c.in-Ok.ensures.settled, c.in-Ok.ensures.calls)

pub returns-in-Err-clause-advances : goal.returns-in-Err-clause-advances
returns-in-Err-clause-advances g c = λ task worker tasks there.
    stopped_at_once g.K.Keeper.bodies g.K.Keeper.faults g.L.Keeper.bodies g.L.Keeper.faults tasks worker c.args.site.now
    (Held c.args.call) c.in-Err.fault c.abandon_held.new.self
    (in_settling c.in-Err.call c.settle.new.self (ap Held (sym c.in-Err.ensures.refused.0))
    (subst (λ (call : HeldCall). IsHeld c.args.site.now call) (sym c.in-Err.ensures.refused.0) c.requires)
    c.in-Err.ensures.refused.1
    (subst (λ (call : HeldCall). IsUnheld c.args.site.now call c.in-Err.fault) (sym c.in-Err.ensures.refused.0)
    c.in-Err.ensures.fault) c.in-Err.ensures.calls
    (subst (λ (call : HeldCall). Pends c.args.site.now (IsAllowed
    (MayEnd c.args.site.now.book call.permit call.answer)
    (entries.End (record { n = call.permit.n; answer = call.answer }))) c.settle.new.self)
    (sym c.in-Err.ensures.refused.0) c.in-Err.ensures.pending)
    c.abandon_held.ensures.abandons)
