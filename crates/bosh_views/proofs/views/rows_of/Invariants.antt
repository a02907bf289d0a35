use Rattle.std.proofs.Common.{◌≡◌, ◌++◌}
use Rattle.bosh_views.specs.View.{rows_of}
use Rattle.bosh_views.proofs.views.rows_of.Given as goal

abbrev pub invariant-loop-inst : goal.invariant-loop-inst
invariant-loop-inst l =
    l.rows.items ++ rows_of l.dep l.inst-iterator ≡ rows_of l.dep l.records.instances.by_inst.entries
