use Rattle.std.proofs.Common.{◌≡◌, ◌++◌}
use Rattle.bosh_views.specs.Snapshot.{loose_disks}
use Rattle.bosh_views.proofs.snapshots.orphan_rows.Given as goal

abbrev pub invariant-loop-loose : goal.invariant-loop-loose
invariant-loop-loose l = l.rows.items ++ loose_disks l.loose-iterator ≡ loose_disks l.records.orphans.places.entries
