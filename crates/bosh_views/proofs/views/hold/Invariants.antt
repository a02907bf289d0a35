use Rattle.std.proofs.Common.{◌≡◌, ◌++◌}
use Rattle.std.specs.Slice.Iter.{iter_rest}
use Rattle.bosh_views.specs.View.{held_in}
use Rattle.bosh_views.proofs.views.hold.Given as goal

abbrev pub invariant-loop-it : goal.invariant-loop-it
invariant-loop-it l =
    l.held.items ++ held_in l.owner (iter_rest l.it-iterator) ≡ l.initial.held.items ++ held_in l.owner l.make.nets
