use Rattle.laws_clean.proofs.FewLemmas.{calls_few}
use Rattle.laws_clean.proofs.the_calls_of_a_clean_task_are_few.Goals as goal

pub returns : goal.returns
returns c = calls_few
