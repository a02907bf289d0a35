use Rattle.laws_tasks.proofs.ListsLemmas.{lists_kept}
use Rattle.laws_tasks.proofs.tasks_list_what_they_are_to.Goals as goal

pub returns : goal.returns
returns c = lists_kept
