use Rattle.std.proofs.Common.{◌≡◌, ◌&&◌}
use Rattle.std.specs.Option.{option_copied}
use Rattle.bosh_rows.specs.Group.{is_in}
use Rattle.bosh_rows.proofs.DiskLemmas.{least_to}
use Rattle.bosh_rows.proofs.group.Group.letting_go.Given as goal

abbrev pub invariant-loop-disk : goal.invariant-loop-disk
invariant-loop-disk l =
    (option_copied l.mounted ≡ least_to (λ d. is_in l.self d && d.mounted) l.disks l.disk-index)
    × (option_copied l.attached ≡ least_to (λ d. is_in l.self d && d.attached) l.disks l.disk-index)
