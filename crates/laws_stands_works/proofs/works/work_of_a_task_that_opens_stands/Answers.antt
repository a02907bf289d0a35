use Rattle.laws_stands_works.proofs.AllowsLemmas.{work_opened}
use Rattle.laws_stands_works.proofs.works.work_of_a_task_that_opens_stands.Goals as goal

pub returns : goal.returns
returns c = work_opened
