use Rattle.std.proofs.Common.{take}
use Rattle.bosh_pool.specs.Closed.{AreAllClosed}
use Rattle.bosh_pool.proofs.closed.all_closed.Given as goal

abbrev pub invariant-loop-subnet : goal.invariant-loop-subnet
invariant-loop-subnet l = AreAllClosed (take l.subnet-index l.subnets) l.closed.items
