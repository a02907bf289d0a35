use Rattle.std.proofs.Common.{◌≡◌, take}
use Rattle.bosh_records.specs.Recorded.{recorded}
use Rattle.bosh_fold.specs.Anew.{tasks_read}
use Rattle.bosh_fold.proofs.anew.read_tasks.Given as goal

abbrev pub invariant-loop-row : goal.invariant-loop-row
invariant-loop-row l =
    recorded l.records ≡ tasks_read (take l.row-index l.rows) (recorded l.initial.records)
