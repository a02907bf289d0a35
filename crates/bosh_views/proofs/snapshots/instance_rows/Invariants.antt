use Rattle.std.proofs.Common.{◌≡◌, ◌++◌}
use Rattle.bosh_views.specs.Snapshot.{recorded_rows}
use Rattle.bosh_views.proofs.snapshots.instance_rows.Given as goal

abbrev pub invariant-loop-instance : goal.invariant-loop-instance
invariant-loop-instance l =
    l.rows.items ++ recorded_rows l.instance-iterator ≡ recorded_rows l.records.instances.by_inst.entries
