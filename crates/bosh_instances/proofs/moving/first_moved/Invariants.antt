use Rattle.std.proofs.Common.{◌≡◌, None, find}
use Rattle.bosh_wants.specs.Wants.{below}
use Rattle.bosh_instances.specs.Moving.{moves}
use Rattle.bosh_instances.proofs.moving.first_moved.Given as goal

abbrev pub invariant-loop-index : goal.invariant-loop-index
invariant-loop-index l = find (moves l.dep l.rows l.group) (below l.index) ≡ None
