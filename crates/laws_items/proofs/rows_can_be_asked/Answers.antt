use Rattle.laws_items.proofs.AskedLemmas.{asked_kept}
use Rattle.laws_items.proofs.rows_can_be_asked.Goals as goal

pub returns : goal.returns
returns c = asked_kept
