use Rattle.laws_tasks.proofs.RecoveredLemmas.{recovered_kept}
use Rattle.laws_tasks.proofs.no_task_opens_before_the_interrupted_ones_end.Goals as goal

pub returns : goal.returns
returns c = recovered_kept
