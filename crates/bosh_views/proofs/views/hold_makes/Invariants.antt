use Rattle.std.proofs.Common.{◌≡◌, ◌++◌}
use Rattle.std.specs.Slice.Iter.{iter_rest}
use Rattle.bosh_views.specs.View.{held_by_slots}
use Rattle.bosh_views.proofs.views.hold_makes.Given as goal

abbrev pub invariant-loop-make : goal.invariant-loop-make
invariant-loop-make l =
    l.held.items ++ held_by_slots l.task l.slot (iter_rest l.make-iterator)
    ≡ l.initial.held.items ++ held_by_slots l.task 0 l.goal.slots
