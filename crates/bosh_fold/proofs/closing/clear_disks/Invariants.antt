use Rattle.std.proofs.Common.{◌≡◌, take}
use Rattle.std.specs.Prelude.{fold}
use Rattle.bosh_fold.specs.Tasks.{deleting_cleared}
use Rattle.bosh_fold.proofs.closing.clear_disks.Given as goal

abbrev pub invariant-loop-disk : goal.invariant-loop-disk
invariant-loop-disk l = l.orphans.places.entries ≡ fold deleting_cleared l.initial.orphans.places.entries (take l.disk-index l.items)
