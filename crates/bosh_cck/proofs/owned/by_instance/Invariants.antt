use Rattle.std.proofs.Common.{take}
use Rattle.bosh_cck.specs.Tables.{AreOwned, all_there}
use Rattle.bosh_cck.proofs.owned.by_instance.Given as goal

abbrev pub invariant-loop-slot : goal.invariant-loop-slot
invariant-loop-slot l = AreOwned (all_there (take l.slot-index l.slots)) l.table
