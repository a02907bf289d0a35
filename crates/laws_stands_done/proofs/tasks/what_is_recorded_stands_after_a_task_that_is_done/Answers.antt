use Rattle.laws_stands_done.proofs.KindLemmas.{any_done}
use Rattle.laws_stands_done.proofs.tasks.what_is_recorded_stands_after_a_task_that_is_done.Goals as goal

pub returns : goal.returns
returns c = any_done
