use Rattle.std.proofs.Common.{◌≡◌, take}
use Rattle.bosh_records.specs.Recorded.{kept, recorded}
use Rattle.bosh_plan.specs.Roomy.{roomy_for_disks}
use Rattle.bosh_plan.proofs.updating.ensure_disks.Given as goal

abbrev pub invariant-loop-orphan : goal.invariant-loop-orphan
invariant-loop-orphan l =
    (kept (recorded l.records) ≡ kept (recorded l.fn.records))
    × (recorded l.records ≡ roomy_for_disks (take l.orphan-index l.left) (recorded l.fn.records))
