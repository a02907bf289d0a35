use Rattle.std.proofs.Common.{◌≡◌, ◌+◌, ◌<◌}
use Prim.Native.Nat.{◌^◌}
use Rattle.std.specs.Prelude.{fold}
use Rattle.std.specs.List.{enumerate_from}
use Rattle.std.specs.Slice.Iter.{iter_rest}
use Rattle.bosh_fold.specs.Tasks.{want_noted}
use Rattle.bosh_fold.proofs.wants.note_wants.Given as goal

abbrev pub invariant-loop-place : goal.invariant-loop-place
invariant-loop-place l =
    (fold want_noted l.instances.by_inst.entries (enumerate_from l.place (iter_rest l.want-iterator))
    ≡ fold want_noted l.initial.instances.by_inst.entries (enumerate_from 0 l.goal.rows))
    × (l.place + (goal.iterator-loop-place).remaining l.want-iterator < 2 ^ 64)
