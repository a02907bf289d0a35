use Rattle.std.proofs.Common.{◌≡◌, ◌++◌}
use Rattle.bosh_records.specs.Table.{things}
use Rattle.bosh_views.proofs.snapshots.deployment_rows.Given as goal

abbrev pub invariant-loop-row : goal.invariant-loop-row
invariant-loop-row l = l.rows.items ++ things l.row-iterator ≡ things l.records.deployments.places.entries
