use Rattle.laws_stands_noted.proofs.DoneLemmas.{task_done}
use Rattle.laws_stands_noted.proofs.tasks.what_is_recorded_stands_after_a_task_that_settles_nothing.Goals as goal

pub returns : goal.returns
returns c = task_done
