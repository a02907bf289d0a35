use Rattle.bosh_release_order.proofs.NumberLemmas.{first_on_cycle}
use Rattle.bosh_release_order.proofs.check.shown.Goals as goal

pub returns-then-branch : goal.returns-then-branch
returns-then-branch c =
    first_on_cycle c.args.graph.now c.args.numbers.now c.in-Some.place c.in-Some.ensures.first.1
    (c.never_rise.ensures c.if-never_rise.true) (c.in_ok-needs_itself.ensures c.if-branch.true)
