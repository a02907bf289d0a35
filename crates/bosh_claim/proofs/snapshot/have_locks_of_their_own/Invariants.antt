use Rattle.std.proofs.Common.{◌≡◌, length}
use Rattle.bosh_rows.specs.SoundSnapshot.{have_locks_of_their_own}
use Rattle.bosh_claim.proofs.snapshot.have_locks_of_their_own.Given as goal

abbrev pub invariant-loop-left : goal.invariant-loop-left
invariant-loop-left l = have_locks_of_their_own l.left ≡ have_locks_of_their_own l.tasks

abbrev pub decreases-loop-left : goal.decreases-loop-left
decreases-loop-left l = length l.left
