use Rattle.laws_facts.proofs.DoubtLemmas.{doubts_kept}
use Rattle.laws_facts.proofs.FreshLemmas.{fresh_kept}
use Rattle.laws_facts.proofs.OwnTaskLemmas.{of_kept}
use Rattle.laws_facts.proofs.kept.numbers_are_kept.Goals as goal

pub returns-clause-doubts : goal.returns-clause-doubts
returns-clause-doubts c = doubts_kept

pub returns-clause-rows : goal.returns-clause-rows
returns-clause-rows c = fresh_kept

pub returns-clause-of_tasks : goal.returns-clause-of_tasks
returns-clause-of_tasks c = of_kept
