use Rattle.laws_counted.proofs.HistoryLemmas.{bounded_run}
use Rattle.laws_counted.proofs.clean_tasks_keep_within_their_budgets.Goals as goal

pub returns : goal.returns
returns c = bounded_run
