use Rattle.std.proofs.Common.{◌≡◌, take}
use Rattle.std.specs.Prelude.{fold}
use Rattle.std.specs.List.{enumerate_from}
use Rattle.bosh_fold.specs.Tasks.{deleting_set}
use Rattle.bosh_fold.proofs.marks.set_deletings.Given as goal

abbrev pub invariant-loop-place : goal.invariant-loop-place
invariant-loop-place l =
    l.orphans.places.entries ≡ fold deleting_set l.initial.orphans.places.entries (take l.place (enumerate_from 0 l.items))
