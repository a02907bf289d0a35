use Rattle.laws_exact.proofs.DoneLemmas.{done_is_exact}
use Rattle.laws_exact.proofs.a_task_that_is_done_is_exact.Goals as goal

pub returns : goal.returns
returns c = done_is_exact
