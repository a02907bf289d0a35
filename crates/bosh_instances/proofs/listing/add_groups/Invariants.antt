use Rattle.bosh_files.proofs.TakenLemmas.{AreGathered}
use Rattle.bosh_instances.specs.Rows.{group_rows, row_bytes}
use Rattle.bosh_instances.proofs.listing.add_groups.Given as goal

abbrev pub invariant-loop-group : goal.invariant-loop-group
invariant-loop-group l =
    AreGathered (group_rows l.scene) row_bytes l.groups l.group-index l.initial.budget l.budget l.initial.rows.items l.rows.items
