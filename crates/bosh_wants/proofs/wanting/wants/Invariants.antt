use Rattle.std.proofs.Common.{◌≡◌, take}
use Rattle.bosh_wants.specs.Wants.{wants}
use Rattle.bosh_wants.proofs.wanting.wants.Given as goal

abbrev pub invariant-loop-group : goal.invariant-loop-group
invariant-loop-group l = l.wants.items ≡ wants l.dep l.rows (take l.group-index l.groups)
