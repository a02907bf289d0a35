use Rattle.laws_stands_opened.proofs.TaskOpenLemmas.{task_opened_stands}
use Rattle.laws_stands_opened.proofs.tables.what_is_recorded_stands_after_a_task_that_may_open.Goals as goal

pub returns : goal.returns
returns c = task_opened_stands
