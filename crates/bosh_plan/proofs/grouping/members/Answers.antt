use Rattle.std.proofs.Common.{◌∙◌, [], ap, sym}
use Rattle.bosh_plan.specs.Grouping.{with_member}
use Rattle.bosh_plan.proofs.FoldLemmas.{all_done, one_more}
use Rattle.bosh_plan.proofs.grouping.members.Goals as goal

pub loop-place-preserved : goal.loop-place-preserved
loop-place-preserved c =
    let k = c.loop-place.place in
    let it = c.index-changed-place.result in
    c.in_ok-add.ensures
    ∙ ap (λ before. with_member c.args.changed.now before (k, it)) c.loop-place.invariant
    ∙ sym (one_more (with_member c.args.changed.now) [] c.args.changed.now k it c.loop-place-test.true c.index-changed-place.is)

pub returns : goal.returns
returns c =
    c.loop-place.invariant
    ∙ all_done (with_member c.args.changed.now) [] c.args.changed.now c.loop-place.place c.loop-place-test.false
