use Rattle.bosh_files.proofs.TakenLemmas.{AreGathered}
use Rattle.bosh_instances.specs.Rows.{instance_row, row_bytes}
use Rattle.bosh_wants.specs.Wants.{below}
use Rattle.bosh_instances.proofs.listing.add_rows.Given as goal

abbrev pub invariant-loop-index : goal.invariant-loop-index
invariant-loop-index l =
    AreGathered (instance_row l.scene l.company.group.now l.company.jobs.now) row_bytes (below l.company.group.now.used.group.instances) l.index
    l.initial.budget l.budget l.initial.rows.items l.rows.items
