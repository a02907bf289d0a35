use Rattle.bosh_base.specs.declared.failure.Failure.TheVariants as failures
use Rattle.laws_stands_noted.proofs.FailedLemmas.{failure_noted}
use Rattle.laws_stands_noted.proofs.tasks.what_is_recorded_stands_after_a_task_that_failed.Goals as goal

pub returns : goal.returns
returns c = record {
  failed = λ m told was now t n stands agrees facts noted follows learns.
      failure_noted m told was now t (failures.Call n) tt stands agrees facts noted follows learns;
  gone = λ m told was now t n stands agrees facts noted follows learns.
      failure_noted m told was now t (failures.Gone n) tt stands agrees facts noted follows learns;
}
