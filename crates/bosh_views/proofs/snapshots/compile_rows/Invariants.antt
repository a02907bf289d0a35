use Rattle.std.proofs.Common.{◌≡◌, ◌++◌}
use Rattle.bosh_views.specs.Snapshot.{compile_rows}
use Rattle.bosh_views.proofs.snapshots.compile_rows.Given as goal

abbrev pub invariant-loop-machine : goal.invariant-loop-machine
invariant-loop-machine l =
    l.rows.items ++ compile_rows l.machine-iterator ≡ compile_rows l.records.machines.places.entries
