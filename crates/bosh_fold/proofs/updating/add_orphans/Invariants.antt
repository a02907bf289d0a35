use Rattle.std.proofs.Common.{◌≡◌}
use Rattle.std.specs.Vec.Iter.{into_iter_items}
use Rattle.bosh_fold.specs.Updates.{with_orphans}
use Rattle.bosh_fold.proofs.updating.add_orphans.Given as goal

abbrev pub invariant-loop-orphan : goal.invariant-loop-orphan
invariant-loop-orphan l =
    with_orphans (into_iter_items l.orphan-iterator) l.orphans.places.entries
    ≡ with_orphans l.fn.left.items l.initial.orphans.places.entries
