use Rattle.laws_allowed.proofs.TaskDoneLemmas.{task_done_is_allowed}
use Rattle.laws_allowed.proofs.a_task_that_may_be_done_is_allowed_to.Goals as goal

pub returns : goal.returns
returns c = λ outside. task_done_is_allowed
