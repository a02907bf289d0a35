use Rattle.std.proofs.Common.{◌≡◌, ◌++◌}
use Rattle.bosh_views.specs.View.{held_by_rows}
use Rattle.bosh_views.proofs.views.hold_rows.Given as goal

abbrev pub invariant-loop-inst : goal.invariant-loop-inst
invariant-loop-inst l =
    l.held.items ++ held_by_rows l.dep l.inst-iterator
    ≡ l.initial.held.items ++ held_by_rows l.dep l.records.instances.by_inst.entries
