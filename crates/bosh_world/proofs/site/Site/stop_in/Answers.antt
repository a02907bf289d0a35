use Rattle.std.proofs.Common.{◌∙◌, List, Some, ap, false, subst}
use Rattle.bosh_base.specs.Call.{method_of}
use Rattle.bosh_calls.specs.declared.calls.OpenCall.{OpenCall}
use Rattle.bosh_moves.proofs.SilentLemmas.{follows_silent}
use Rattle.bosh_traps.specs.Traps.{traps_after}
use Rattle.bosh_world.proofs.CallLemmas.{follows_at}
use Rattle.bosh_world.proofs.PerformLemmas.{stops_as}
use Rattle.bosh_world.specs.Stopping.{EachTakes}
use Rattle.bosh_world.proofs.site.Site.stop_in.Goals as goal

pub returns-clause-refused : goal.returns-clause-refused
returns-clause-refused g c =
    stops_as g.L.Keeper.bodies g.L.Keeper.faults c.args.self.now _ c.args.permit.now c.args.firing c.n.result c.in-Some.cause
    c.stop_fault.result c.n.ensures c.stop_fault.ensures c.requires.stopped c.in-Some.ensures.takes
    (subst (λ (cs : List OpenCall). EachTakes g.L.Keeper.bodies g.L.Keeper.faults c.args.self.now.book.records c.args.firing
    c.n.result false cs c.args.self.now.cloud (Some c.in-Some.cause) c.take_effects-came.new.cloud) c.unsettled.ensures
    c.in-Some.ensures.each)
    (c.see.ensures
    ∙ ap (λ m. traps_after m c.owner.result.now c.args.self.now.traps.items) (c.method.ensures ∙ ap method_of c.call.ensures)
    ∙ ap (λ o. traps_after (method_of c.args.permit.now.call) o c.args.self.now.traps.items) c.owner.ensures)
    c.args.self.now.is_site.is_of c.requires.running (λ j. c.args.self.now.book) (λ j. c.args.self.now.calls.unsettled)
    (λ j. c.args.self.now.opening)
    (follows_at c.args.self.now.history c.follow.new.self c.args.self.now.book.journal.entries c.entries.result.now
    c.take_effects-came.new.cloud.effects c.effects.result.now (Some c.in-Some.cause) c.entries.ensures c.effects.ensures
    c.follow.ensures.follows)

pub returns-clause-silent : goal.returns-clause-silent
returns-clause-silent g c =
    follows_silent c.args.self.now.history c.follow.new.self c.entries.result.now c.effects.result.now
    (Some c.in-Some.cause) c.follow.ensures.follows
