use Rattle.std.proofs.Common.{◌≡◌, take}
use Rattle.std.specs.Prelude.{fold}
use Rattle.bosh_records.specs.Recorded.{recorded}
use Rattle.bosh_fold.specs.Anew.{wants_read}
use Rattle.bosh_fold.proofs.anew.read_deployments.Given as goal

abbrev pub invariant-loop-row : goal.invariant-loop-row
invariant-loop-row l =
    recorded l.records ≡ record (recorded l.initial.records) {
      instances = fold wants_read (recorded l.initial.records).instances (take l.row-index l.rows);
    }
