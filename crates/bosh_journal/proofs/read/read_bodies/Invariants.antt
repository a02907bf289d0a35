use Rattle.std.proofs.Common.{◌≡◌, false}
use Rattle.bosh_journal.proofs.ReadLemmas.{SoFar}
use Rattle.bosh_journal.proofs.read.read_bodies.Given as goal

abbrev pub invariant-loop-place : goal.invariant-loop-place
invariant-loop-place g l =
    SoFar g.K.Keeper.bodies g.K.Keeper.faults l.fn.store l.store l.format l.place l.place-end l.entries.items
    × (g.K.Keeper.is_broken l.store ≡ false)
