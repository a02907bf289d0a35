use Rattle.std.proofs.Common.{◌∙◌, ap, sym}
use Rattle.bosh_fold.specs.Tasks.{leaving_set}
use Rattle.bosh_plan.proofs.FoldLemmas.{all_done, one_more}
use Rattle.bosh_fold.proofs.marks.set_leavings.Goals as goal

pub loop-place-preserved : goal.loop-place-preserved
loop-place-preserved c =
    let k = c.loop-place.place in
    let it = c.index-items-place.result in
    c.set_leaving.ensures
    ∙ ap (λ before. leaving_set before (k, it)) c.loop-place.invariant
    ∙ sym (one_more leaving_set c.args.instances.now.by_inst.entries c.args.items.now k it c.loop-place-test.true c.index-items-place.is)

pub returns : goal.returns
returns c =
    c.loop-place.invariant
    ∙ all_done leaving_set c.args.instances.now.by_inst.entries c.args.items.now c.loop-place.place c.loop-place-test.false
