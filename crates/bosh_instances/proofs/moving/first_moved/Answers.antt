use Rattle.std.proofs.Common.{sym}
use Rattle.bosh_instances.specs.Moving.{moves}
use Rattle.bosh_instances.proofs.BelowLemmas.{find-below, find-below-more}
use Rattle.bosh_instances.proofs.moving.first_moved.Goals as goal

pub returns-then-moves : goal.returns-then-moves
returns-then-moves c =
    sym (find-below (moves c.args.dep.now c.args.rows.now c.args.group.now) c.args.group.now.instances c.loop-index.index
    c.loop-index.invariant (sym c.if-moves.ensures) c.loop-index-test.true)

pub loop-index-preserved : goal.loop-index-preserved
loop-index-preserved c =
    find-below-more (moves c.args.dep.now c.args.rows.now c.args.group.now) c.loop-index.index c.loop-index.invariant (sym c.if-moves.ensures)
