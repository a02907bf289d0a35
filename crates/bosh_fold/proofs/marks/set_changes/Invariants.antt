use Rattle.std.proofs.Common.{◌≡◌, take}
use Rattle.std.specs.Prelude.{fold}
use Rattle.std.specs.List.{enumerate_from}
use Rattle.bosh_fold.specs.Tasks.{group_set}
use Rattle.bosh_fold.proofs.marks.set_changes.Given as goal

abbrev pub invariant-loop-group : goal.invariant-loop-group
invariant-loop-group l =
    l.instances.by_inst.entries
    ≡ fold (group_set l.changed) l.initial.instances.by_inst.entries (take l.group (enumerate_from 0 l.groups))
