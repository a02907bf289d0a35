use Rattle.std.proofs.Common.{◌∙◌, ap, slice_index_or, sym}
use Rattle.std.proofs.lemmas.List.Sums.{fold_more}
use Rattle.bosh_fold.specs.Tasks.{deleting_cleared}
use Rattle.bosh_fold.proofs.closing.clear_disks.Goals as goal

pub loop-disk-preserved : goal.loop-disk-preserved
loop-disk-preserved c =
    let k = c.loop-disk.disk-index in
    c.set_deleting.ensures
    ∙ ap (λ before. deleting_cleared before (slice_index_or c.args.items.now k 0)) c.loop-disk.invariant
    ∙ sym (fold_more deleting_cleared c.args.orphans.now.places.entries c.args.items.now k 0 c.loop-disk-test.true)
