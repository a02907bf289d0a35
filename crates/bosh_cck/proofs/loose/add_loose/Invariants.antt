use Rattle.std.proofs.Common.{◌≡◌, ◌++◌, take}
use Rattle.bosh_cck.specs.Loose.{is_loose_beside}
use Rattle.bosh_cck.specs.Problems.{loose_among}
use Rattle.bosh_cck.specs.Tables.{all_there, has}
use Rattle.bosh_cck.proofs.loose.add_loose.Given as goal

abbrev pub invariant-loop-slot : goal.invariant-loop-slot
invariant-loop-slot l =
    l.problems.items ≡ l.fn.problems.items
    ++ loose_among (is_loose_beside l.dep (has l.recorded) (has l.doubted)) (all_there (take l.slot-index l.slots))
