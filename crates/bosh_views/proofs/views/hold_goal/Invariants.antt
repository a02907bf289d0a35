use Rattle.std.proofs.Common.{◌≡◌, ◌++◌}
use Rattle.std.specs.Slice.Iter.{iter_rest}
use Rattle.bosh_views.specs.View.{held_by_wants}
use Rattle.bosh_views.proofs.views.hold_goal.Given as goal

abbrev pub invariant-loop-want : goal.invariant-loop-want
invariant-loop-want l =
    l.held.items ++ held_by_wants (iter_rest l.want-iterator) ≡ l.initial.held.items ++ held_by_wants l.goal.rows
