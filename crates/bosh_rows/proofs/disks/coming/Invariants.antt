use Rattle.std.proofs.Common.{◌≡◌, ◌&&◌}
use Rattle.std.specs.Option.{option_copied}
use Rattle.bosh_rows.specs.Disks.{is_new, is_right}
use Rattle.bosh_rows.proofs.DiskLemmas.{least_to}
use Rattle.bosh_rows.proofs.disks.coming.Given as goal

abbrev pub invariant-loop-disk : goal.invariant-loop-disk
invariant-loop-disk l =
    option_copied l.least ≡ least_to (λ d. is_new d && is_right l.wanted d) l.disks l.disk-index
