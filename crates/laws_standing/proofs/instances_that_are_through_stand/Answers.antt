use Rattle.laws_standing.proofs.StandLemmas.{stands_kept_along}
use Rattle.laws_standing.proofs.instances_that_are_through_stand.Goals as goal

pub returns : goal.returns
returns c = stands_kept_along
