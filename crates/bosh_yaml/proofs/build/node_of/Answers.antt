use Rattle.std.proofs.Common.{[], None}
use Rattle.std.specs.Option.{option_map}
use Rattle.std.specs.Vec.Iter.{into_iter_items}
use Rattle.bosh_yaml.specs.Nodes.{Step, tree_from}
use Rattle.bosh_yaml.specs.View.{tree_of}
use Rattle.bosh_yaml.proofs.BuildLemmas.{event_keys, event_more, none_mapped}
use Rattle.bosh_yaml.proofs.build.node_of.Goals as goal

pub loop-event-preserved : goal.loop-event-preserved
loop-event-preserved c =
    let outer = c.loop-event.outer.items in
    let left = into_iter_items c.loop-event.event-iterator in
    let rest = into_iter_items c.next.new.self in
    let kept = c.loop-event.invariant in
    let next : Step = (option_map tree_of c.in_ok-whole.whole, c.take_event.new.outer.items) in
    let so_far = rw (none_mapped tree_of c.loop-event.whole c.if-is_some.ensures) at kept.2 in (
      c.in_ok-whole.ensures.new,
      event_keys c.in-Some.event outer next rest (rw c.in-Some.ensures.steps.0 at kept.1) c.in_ok-whole.ensures.gives,
      event_more (tree_from None [] c.args.events.items) c.in-Some.event outer next rest left c.in-Some.ensures.steps.0 so_far c.in_ok-whole.ensures.gives,
    )
