use Rattle.laws_outcomes_kept.proofs.StandLemmas.{stands_kept}
use Rattle.laws_outcomes_kept.proofs.instances_that_are_through_stand_on.Goals as goal

pub returns : goal.returns
returns c = stands_kept
