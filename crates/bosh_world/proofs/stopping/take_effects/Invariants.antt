use Rattle.std.proofs.Common.{false, drop, Option}
use Rattle.bosh_base.specs.declared.moves.Cause.{Cause}
use Rattle.bosh_cloud.specs.CloudView.{CloudView}
use Rattle.bosh_world.proofs.StopLemmas.{HasCome}
use Rattle.bosh_world.specs.Stopping.{EachTakes}
use Rattle.bosh_world.proofs.stopping.take_effects.Given as goal

-- what has come of the calls so far: what is to come of the others is what is to come of all
abbrev pub invariant-loop-call : goal.invariant-loop-call
invariant-loop-call g l =
    HasCome g.L.Keeper.bodies g.L.Keeper.faults l.initial.cloud l.came l.cloud
    × ((cause : Option Cause) (now : CloudView _) →
    EachTakes g.L.Keeper.bodies g.L.Keeper.faults l.book.records l.firing l.n l.came (drop l.call-index l.calls) l.cloud cause now →
    EachTakes g.L.Keeper.bodies g.L.Keeper.faults l.book.records l.firing l.n false l.calls l.initial.cloud cause now)
