use Rattle.std.proofs.Common.{◌≡◌}
use Rattle.std.specs.Prelude.{fold}
use Rattle.std.specs.Slice.Iter.{iter_rest}
use Rattle.bosh_records.specs.Recorded.{kept, recorded}
use Rattle.bosh_plan.specs.Roomy.{key_room, roomy_for_goal, want_room}
use Rattle.bosh_plan.proofs.opening.make_room.Given as goal

abbrev pub invariant-loop-want : goal.invariant-loop-want
invariant-loop-want l =
    (kept (recorded l.records) ≡ kept (recorded l.fn.records))
    × (record (recorded l.records) {
      instances = fold want_room (recorded l.records).instances (iter_rest l.want-iterator);
    } ≡ record (recorded l.fn.records) {
      instances = fold want_room (recorded l.fn.records).instances l.fn.goal.rows;
    })

abbrev pub invariant-loop-work : goal.invariant-loop-work
invariant-loop-work l =
    (kept (recorded l.records) ≡ kept (recorded l.fn.records))
    × (record (recorded l.records) { keys = fold key_room (recorded l.records).keys (iter_rest l.work-iterator) }
    ≡ roomy_for_goal l.fn.goal (recorded l.fn.records))
