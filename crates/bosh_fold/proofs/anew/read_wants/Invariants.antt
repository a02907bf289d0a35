use Rattle.std.proofs.Common.{◌≡◌}
use Rattle.std.specs.Prelude.{fold}
use Rattle.std.specs.Slice.Iter.{iter_rest}
use Rattle.bosh_plan.specs.Roomy.{want_room}
use Rattle.bosh_fold.proofs.anew.read_wants.Given as goal

abbrev pub invariant-loop-want : goal.invariant-loop-want
invariant-loop-want l =
    fold want_room l.instances.by_inst.entries (iter_rest l.want-iterator)
    ≡ fold want_room l.initial.instances.by_inst.entries l.goal.rows
