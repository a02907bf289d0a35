use Rattle.laws_stands_works.proofs.OthersLemmas.{others_go_on}
use Rattle.laws_stands_works.proofs.works.works_of_others_stand_once_a_task_opens.Goals as goal

pub returns : goal.returns
returns c = others_go_on
