use Rattle.std.proofs.Common.{◌≡◌, length}
use Rattle.bosh_rows.specs.SoundSnapshot.{are_in_order}
use Rattle.bosh_claim.proofs.listed.are_in_order.Given as goal

abbrev pub invariant-loop-left : goal.invariant-loop-left
invariant-loop-left g l = are_in_order g.T.Listed.precedes l.left ≡ are_in_order g.T.Listed.precedes l.items

abbrev pub decreases-loop-left : goal.decreases-loop-left
decreases-loop-left g l = length l.left
