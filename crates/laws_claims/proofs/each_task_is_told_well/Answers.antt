use Rattle.laws_claims.proofs.ToldLemmas.{told_well}
use Rattle.laws_claims.proofs.each_task_is_told_well.Goals as goal

pub returns : goal.returns
returns c = told_well
