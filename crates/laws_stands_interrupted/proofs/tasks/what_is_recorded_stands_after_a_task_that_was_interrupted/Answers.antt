use Rattle.laws_stands_interrupted.proofs.FitsLemmas.{error_fits}
use Rattle.laws_stands_interrupted.proofs.NotedLemmas.{interruption, interruption_stands}
use Rattle.laws_stands_interrupted.proofs.tasks.what_is_recorded_stands_after_a_task_that_was_interrupted.Goals as goal

pub returns : goal.returns
returns c = λ m told was now t stands agrees facts own fits noted follows learns. (
  interruption_stands m told was now t stands agrees facts own noted learns,
  error_fits told was now (interruption t) stands fits learns,
)
