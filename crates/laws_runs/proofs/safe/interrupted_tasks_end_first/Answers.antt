use Rattle.laws_runs.proofs.RunLemmas.{recovered_run}
use Rattle.laws_runs.proofs.safe.interrupted_tasks_end_first.Goals as goal

pub returns : goal.returns
returns c = recovered_run
