use Rattle.laws_heard.proofs.KeptLemmas.{heard_kept}
use Rattle.laws_heard.proofs.LeftLemmas.{answers_kept}
use Rattle.laws_heard.proofs.tasks_have_heard_of_their_machines.Goals as goal

pub returns-clause-heard : goal.returns-clause-heard
returns-clause-heard c = heard_kept

pub returns-clause-answered : goal.returns-clause-answered
returns-clause-answered c = answers_kept
