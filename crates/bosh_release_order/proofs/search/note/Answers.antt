use Rattle.bosh_release_order.proofs.SearchLemmas.{notes_more}
use Rattle.bosh_release_order.proofs.search.note.Goals as goal

pub loop-need-preserved : goal.loop-need-preserved
loop-need-preserved c =
    notes_more c.args.needs.now c.loop-need.need-index _ _ _ _ _ _ _ c.loop-need-test.true c.loop-need.invariant c.in_ok-note_one.ensures
