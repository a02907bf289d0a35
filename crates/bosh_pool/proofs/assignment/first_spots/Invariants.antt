use Rattle.std.proofs.Common.{take}
use Rattle.bosh_pool.specs.Search.{AreReady}
use Rattle.bosh_pool.proofs.assignment.first_spots.Given as goal

abbrev pub invariant-loop-i : goal.invariant-loop-i
invariant-loop-i l = AreReady (take l.i l.subnets) (take l.i l.closed) l.used l.spots.items
