use Rattle.std.proofs.Common.{◌≡◌, length}
use Rattle.bosh_rows.specs.SoundSnapshot.{are_distinct}
use Rattle.bosh_claim.proofs.listed.stand_once.Given as goal

abbrev pub invariant-loop-left : goal.invariant-loop-left
invariant-loop-left g l = are_distinct g.T.Single.same l.left ≡ are_distinct g.T.Single.same l.items

abbrev pub decreases-loop-left : goal.decreases-loop-left
decreases-loop-left g l = length l.left
