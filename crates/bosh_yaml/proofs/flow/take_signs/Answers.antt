use Rattle.std.specs.Vec.Iter.{into_iter_items}
use Rattle.bosh_yaml.proofs.FlowLemmas.{form_more}
use Rattle.bosh_yaml.proofs.flow.take_signs.Goals as goal

pub loop-sign-preserved : goal.loop-sign-preserved
loop-sign-preserved c =
    form_more _ c.args.line c.loop-sign.events.items c.turn.new.events.items c.loop-sign.nests.items c.pop_front.new.self.items c.turn.new.nests.items c.in-Some-pop_front.nest (into_iter_items c.loop-sign.sign-iterator) (into_iter_items c.next.new.self) c.in-Some.sign c.in-Some-pop_front.ensures.items c.in-Some.ensures.steps.0 c.loop-sign.invariant c.in_ok-turn.ensures
