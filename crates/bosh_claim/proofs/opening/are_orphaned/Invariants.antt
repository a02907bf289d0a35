use Rattle.std.proofs.Common.{◌≡◌, nat_eq}
use Rattle.std.specs.Cmp.Lexicographic.{pointwise}
use Rattle.bosh_claim.specs.Opening.{orphaned_in}
use Rattle.bosh_claim.proofs.opening.are_orphaned.Given as goal

abbrev pub invariant-loop-disk : goal.invariant-loop-disk
invariant-loop-disk l =
    pointwise nat_eq l.left (orphaned_in l.disk-iterator)
    ≡ pointwise nat_eq l.disks (orphaned_in l.records.orphans.places.entries)
