use Rattle.laws_stands_interrupted.proofs.FitsLemmas.{error_fits}
use Rattle.laws_stands_interrupted.proofs.tasks.what_is_recorded_fits_after_a_task_that_failed.Goals as goal

pub returns : goal.returns
returns c = error_fits
