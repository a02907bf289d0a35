use Rattle.laws_stands_done.proofs.FitsLemmas.{done_fits}
use Rattle.laws_stands_done.proofs.tasks.what_is_recorded_fits_after_a_task_that_is_done.Goals as goal

pub returns : goal.returns
returns c = done_fits
