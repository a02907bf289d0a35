use Rattle.laws_lawful.proofs.LawfulLemmas.{lawful_run}
use Rattle.laws_lawful.proofs.permitted_histories_are_lawful.Goals as goal

pub returns : goal.returns
returns c = lawful_run
