use Rattle.laws_clean.proofs.HistoryLemmas.{unfailed_run}
use Rattle.laws_clean.proofs.no_call_of_a_clean_task_fails.Goals as goal

pub returns : goal.returns
returns c = unfailed_run
