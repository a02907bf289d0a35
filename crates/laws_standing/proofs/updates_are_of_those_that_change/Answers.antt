use Rattle.laws_standing.proofs.UpdateLemmas.{listed_kept}
use Rattle.laws_standing.proofs.updates_are_of_those_that_change.Goals as goal

pub returns : goal.returns
returns c = listed_kept
