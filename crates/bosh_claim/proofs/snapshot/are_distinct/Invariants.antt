use Rattle.std.proofs.Common.{◌≡◌, length}
use Rattle.bosh_rows.specs.SoundSnapshot.{are_distinct, same_disk}
use Rattle.bosh_claim.proofs.snapshot.are_distinct.Given as goal

abbrev pub invariant-loop-left : goal.invariant-loop-left
invariant-loop-left l = are_distinct same_disk l.left ≡ are_distinct same_disk l.disks

abbrev pub decreases-loop-left : goal.decreases-loop-left
decreases-loop-left l = length l.left
