use Rattle.laws_goals.proofs.PlanLemmas.{has-sound-rows}
use Rattle.laws_goals.proofs.instances.rows_are_planned.Goals as goal

pub returns : goal.returns
returns c = has-sound-rows
