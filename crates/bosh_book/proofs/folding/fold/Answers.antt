use Rattle.std.proofs.Common.{◌∙◌, sym}
use Rattle.bosh_book.proofs.FoldsLemmas.{one_more_stands}
use Rattle.bosh_book.proofs.folding.fold.Goals as goal

pub loop-place-preserved : goal.loop-place-preserved
loop-place-preserved c =
    one_more_stands c.args.records.now c.loop-place.records c.apply.new.records c.args.entries.now c.loop-place.place
    c.index-entries-place.result c.loop-place-test.true c.index-entries-place.is c.loop-place.invariant
    (sym c.in_ok-may_stand.ensures.yes ∙ c.if-not-branch.false) c.in_ok-apply.ensures.learns
