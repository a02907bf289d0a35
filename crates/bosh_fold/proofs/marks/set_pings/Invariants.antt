use Rattle.std.proofs.Common.{◌≡◌, take}
use Rattle.std.specs.Prelude.{fold}
use Rattle.std.specs.List.{enumerate_from}
use Rattle.bosh_fold.specs.Tasks.{ping_set}
use Rattle.bosh_fold.proofs.marks.set_pings.Given as goal

abbrev pub invariant-loop-place : goal.invariant-loop-place
invariant-loop-place l =
    l.instances.by_inst.entries ≡ fold ping_set l.initial.instances.by_inst.entries (take l.place (enumerate_from 0 l.items))
