use Rattle.std.proofs.Common.{length, ◌<◌, arith}
use Rattle.bosh_compile.proofs.PassLemmas.{one_more_advanced}
use Rattle.bosh_compile.proofs.level.advance.Goals as goal

pub loop-place-preserved : goal.loop-place-preserved
loop-place-preserved c =
    let in_progress : c.loop-place.place < length c.loop-place.progress = omega arith in
    one_more_advanced c.args.round c.args.nodes.now c.args.pending.now c.loop-place.place c.args.progress.now c.loop-place.progress c.loop-place.invariant
    c.index-nodes-place.result c.index-nodes-place.is c.loop-place-test.true in_progress c.as_slice.result.now c.as_slice.ensures (record { level = 0; met = 0 }) c.advanced.result c.advanced.ensures
