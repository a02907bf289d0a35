use Rattle.bosh_sound.proofs.OrderLemmas.{all_rise, out_of_order, rise_more}
use Rattle.bosh_sound.proofs.names.are_in_order.Goals as goal
use Rattle.std.proofs.Common.{arith, sym, ◌∙◌}

pub loop-place-preserved : goal.loop-place-preserved
loop-place-preserved c =
    rise_more c.args.names.now c.loop-place.place c.index-names-place.result c.index-names-place-in-loop-place.result
    c.loop-place.auto.place c.loop-place-test.true c.index-names-place.is c.index-names-place-in-loop-place.is
    (sym c.is_before.ensures ∙ c.if-not-is_before.false) c.loop-place.invariant

pub returns-clause-yes : goal.returns-clause-yes
returns-clause-yes c = λ yes. all_rise c.args.names.now c.loop-place.place (omega arith) c.loop-place.invariant

pub returns-then-not-is_before-clause-no : goal.returns-then-not-is_before-clause-no
returns-then-not-is_before-clause-no c = λ no.
    out_of_order c.args.names.now c.loop-place.place c.index-names-place.result c.index-names-place-in-loop-place.result
    c.loop-place.auto.place c.loop-place-test.true c.index-names-place.is c.index-names-place-in-loop-place.is
    (sym c.is_before.ensures ∙ c.if-not-is_before.true)
