use Rattle.std.proofs.Common.{◌∙◌, ap, slice_index_or, sym}
use Rattle.bosh_fold.specs.Tasks.{change_set}
use Rattle.bosh_plan.proofs.FoldLemmas.{all_done, one_copy_more}
use Rattle.bosh_fold.proofs.marks.set_group.Goals as goal

pub loop-place-preserved : goal.loop-place-preserved
loop-place-preserved c =
    let k = c.loop-place.place in
    c.set_change.ensures
    ∙ ap (λ before. (change_set c.args.changed.now c.args.group) before (k, slice_index_or c.args.places.now k 0)) c.loop-place.invariant
    ∙ sym (one_copy_more (change_set c.args.changed.now c.args.group) c.args.instances.now.by_inst.entries c.args.places.now k 0 c.loop-place-test.true)

pub returns : goal.returns
returns c =
    c.loop-place.invariant
    ∙ all_done (change_set c.args.changed.now c.args.group) c.args.instances.now.by_inst.entries c.args.places.now c.loop-place.place c.loop-place-test.false
