use Rattle.std.proofs.Common.{◌≡◌, false}
use Rattle.bosh_cloud.proofs.ReadLemmas.{SoFar}
use Rattle.bosh_cloud.proofs.load.read_bodies.Given as goal

abbrev pub invariant-loop-place : goal.invariant-loop-place
invariant-loop-place g l =
    SoFar g.L.Keeper.bodies g.L.Keeper.faults l.fn.store l.store l.place l.place-end l.inventory
    × (g.L.Keeper.is_broken l.store ≡ false)
