use Rattle.std.proofs.Common.{◌≡◌, take}
use Rattle.std.specs.Prelude.{filter}
use Rattle.bosh_rows.specs.Disks.{stays}
use Rattle.bosh_rows.specs.Standing.{same_truth}
use Rattle.bosh_rows.proofs.update.disks_where.Given as goal

abbrev pub invariant-loop-disk : goal.invariant-loop-disk
invariant-loop-disk l =
    l.some ≡ filter (λ d. same_truth l.staying (stays l.want d)) (take l.disk-index l.disks)
