use Rattle.laws_allowed_openings.proofs.AllowedLemmas.{opening_is_allowed}
use Rattle.laws_allowed_openings.proofs.entries.a_task_that_may_open_is_allowed_to.Goals as goal

pub returns : goal.returns
returns c = opening_is_allowed
