use Rattle.std.proofs.Common.{◌≡◌, ◌++◌}
use Rattle.std.specs.List.{flat_map}
use Rattle.bosh_wants.specs.Wants.{below, instance_wants}
use Rattle.bosh_wants.proofs.wanting.add_group.Given as goal

abbrev pub invariant-loop-index : goal.invariant-loop-index
invariant-loop-index l = l.wants.items ≡ l.initial.wants.items ++ flat_map (instance_wants l.dep l.rows l.group) (below l.index)
