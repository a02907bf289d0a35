use Rattle.laws_machines.proofs.GoalLemmas.{goals_kept}
use Rattle.laws_machines.proofs.compile_machines_are_of_goals.Goals as goal

pub returns : goal.returns
returns c = goals_kept
