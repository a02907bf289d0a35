use Rattle.std.proofs.Common.{length}
use Rattle.bosh_release_order.proofs.number.Walk.give_number.Given as goal

abbrev pub decreases-loop-other : goal.decreases-loop-other
decreases-loop-other l = length l.self.waiting.items
