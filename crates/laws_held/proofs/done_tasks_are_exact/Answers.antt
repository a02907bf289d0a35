use Rattle.laws_held.proofs.DoneLemmas.{done_run}
use Rattle.laws_held.proofs.done_tasks_are_exact.Goals as goal

pub returns : goal.returns
returns c = done_run
