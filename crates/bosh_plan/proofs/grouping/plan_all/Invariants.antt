use Rattle.std.proofs.Common.{◌≡◌, ◌++◌, map}
use Rattle.std.specs.Vec.Iter.{into_iter_items}
use Rattle.bosh_plan.specs.Grouping.{planned}
use Rattle.bosh_plan.proofs.grouping.plan_all.Given as goal

abbrev pub invariant-loop-group : goal.invariant-loop-group
invariant-loop-group l =
    l.groups.items ++ map (planned l.opening) (into_iter_items l.group-iterator) ≡ map (planned l.opening) l.fn.members.items
