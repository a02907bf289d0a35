use Rattle.std.proofs.Common.{◌≡◌, take}
use Rattle.std.specs.Prelude.{fold}
use Rattle.bosh_fold.specs.Anew.{orphan_read}
use Rattle.bosh_fold.proofs.anew.read_orphans.Given as goal

abbrev pub invariant-loop-orphan : goal.invariant-loop-orphan
invariant-loop-orphan l =
    l.orphans.places.entries ≡ fold orphan_read l.initial.orphans.places.entries (take l.orphan-index l.all)
