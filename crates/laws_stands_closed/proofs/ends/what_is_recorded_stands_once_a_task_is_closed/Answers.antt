use Rattle.laws_stands_closed.proofs.ClosedLemmas.{closed_stands}
use Rattle.laws_stands_closed.proofs.ends.what_is_recorded_stands_once_a_task_is_closed.Goals as goal

pub returns : goal.returns
returns c = closed_stands
