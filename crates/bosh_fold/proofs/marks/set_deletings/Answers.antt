use Rattle.std.proofs.Common.{◌∙◌, ap, slice_index_or, sym}
use Rattle.bosh_fold.specs.Tasks.{deleting_set}
use Rattle.bosh_plan.proofs.FoldLemmas.{all_done, one_copy_more}
use Rattle.bosh_fold.proofs.marks.set_deletings.Goals as goal

pub loop-place-preserved : goal.loop-place-preserved
loop-place-preserved c =
    let k = c.loop-place.place in
    c.set_deleting.ensures
    ∙ ap (λ before. deleting_set before (k, slice_index_or c.args.items.now k 0)) c.loop-place.invariant
    ∙ sym (one_copy_more deleting_set c.args.orphans.now.places.entries c.args.items.now k 0 c.loop-place-test.true)

pub returns : goal.returns
returns c =
    c.loop-place.invariant
    ∙ all_done deleting_set c.args.orphans.now.places.entries c.args.items.now c.loop-place.place c.loop-place-test.false
