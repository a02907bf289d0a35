use Rattle.laws_runs.proofs.RunLemmas.{rolls_run}
use Rattle.laws_runs.proofs.safe.updates_roll_as_planned.Goals as goal

pub returns : goal.returns
returns c = rolls_run
