use Rattle.laws_goals.proofs.TieLemmas.{has-ties-offered}
use Rattle.laws_goals.proofs.ties.ties_are_offered.Goals as goal

pub returns : goal.returns
returns c = has-ties-offered
