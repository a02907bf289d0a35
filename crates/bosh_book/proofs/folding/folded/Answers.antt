use Rattle.bosh_book.proofs.FoldsLemmas.{recorded_if}
use Rattle.bosh_book.proofs.folding.folded.Goals as goal

pub returns-clause-recorded : goal.returns-clause-recorded
returns-clause-recorded c =
    recorded_if c.args.entries.now c.take_all-taken.new.records c.take_all-taken.result c.where_taken.result
    c.take_all-taken.ensures.read c.where_taken.ensures.value
