use Rattle.std.proofs.Common.{arith}
use Rattle.bosh_yaml.specs.Nodes.{nesting}
use Rattle.bosh_yaml.proofs.NestingLemmas.{nesting_more}
use Rattle.bosh_yaml.proofs.check.nesting.Goals as goal

pub loop-event-preserved : goal.loop-event-preserved
loop-event-preserved c =
    let l = c.loop-event in
    let more = nesting_more (nesting 0 c.args.events.now) l.deepest l.open l.event-index c.args.events.now c.event-item.result c.loop-event-test.true c.event-item.is l.invariant.1 l.invariant.2 in
    let after = c.open_after-open.ensures in
    rw (c.max-deepest.ensures, after.value) (omega (arith, after.next, after.value, l.invariant.0), omega arith, more)
