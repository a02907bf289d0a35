use Rattle.std.proofs.Common.{◌≡◌}
use Rattle.std.specs.Slice.Iter.{iter_rest}
use Rattle.bosh_rows.specs.SoundSnapshot.{are_numbered}
use Rattle.bosh_claim.proofs.snapshot.are_numbered.Given as goal

abbrev pub invariant-loop-row : goal.invariant-loop-row
invariant-loop-row l = are_numbered l.last (iter_rest l.row-iterator) ≡ are_numbered 0 l.tasks
