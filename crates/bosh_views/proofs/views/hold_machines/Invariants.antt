use Rattle.std.proofs.Common.{◌≡◌, ◌++◌}
use Rattle.bosh_views.specs.View.{held_by_machines}
use Rattle.bosh_views.proofs.views.hold_machines.Given as goal

abbrev pub invariant-loop-name : goal.invariant-loop-name
invariant-loop-name l =
    l.held.items ++ held_by_machines l.dep l.own l.name-iterator
    ≡ l.initial.held.items ++ held_by_machines l.dep l.own l.records.machines.places.entries
