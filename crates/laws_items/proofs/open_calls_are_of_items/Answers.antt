use Rattle.laws_items.proofs.ItemLemmas.{items_kept}
use Rattle.laws_items.proofs.open_calls_are_of_items.Goals as goal

pub returns : goal.returns
returns c = items_kept
