use Rattle.laws_rolls.proofs.RollLemmas.{group_runs}
use Rattle.laws_rolls.proofs.rolls.groups_run_as_they_stand.Goals as goal

pub returns : goal.returns
returns c = group_runs
