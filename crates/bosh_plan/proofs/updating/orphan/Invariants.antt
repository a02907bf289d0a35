use Rattle.std.proofs.Common.{◌≡◌, ◌++◌}
use Rattle.std.specs.Slice.Iter.{iter_rest}
use Rattle.bosh_plan.specs.Updated.{orphans_of}
use Rattle.bosh_plan.proofs.updating.orphan.Given as goal

abbrev pub invariant-loop-disk : goal.invariant-loop-disk
invariant-loop-disk l =
    l.left.items ++ orphans_of l.inst (iter_rest l.disk-iterator) ≡ l.initial.left.items ++ orphans_of l.inst l.disks
