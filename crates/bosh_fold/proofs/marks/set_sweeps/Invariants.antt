use Rattle.std.proofs.Common.{◌≡◌, take}
use Rattle.std.specs.Prelude.{fold}
use Rattle.std.specs.List.{enumerate_from}
use Rattle.bosh_fold.specs.Tasks.{sweep_set}
use Rattle.bosh_fold.proofs.marks.set_sweeps.Given as goal

abbrev pub invariant-loop-place : goal.invariant-loop-place
invariant-loop-place l =
    l.machines.places.entries ≡ fold sweep_set l.initial.machines.places.entries (take l.place (enumerate_from 0 l.items))
