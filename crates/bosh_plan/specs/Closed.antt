-- What the end of a task changes.
use Rattle.std.specs.Prelude.{ℕ, [], List, unwrap_or}
use Rattle.std.specs.Option.{option_and_then, option_map_or}
use Rattle.bosh_base.specs.declared.entry.TaskError.{TaskError}
use Rattle.bosh_base.specs.declared.failure.Failure.{Failure}
use Rattle.bosh_base.specs.declared.failure.Failure.TheVariants as failures
use Rattle.bosh_base.specs.declared.offer.Offer.{Offer}
use Rattle.bosh_base.specs.declared.task.TaskEnd.{TaskEnd}
use Rattle.bosh_base.specs.declared.task.TaskEnd.TheVariants as ends
use Rattle.bosh_records.specs.Readers.{deployed_by, work_at}
use Rattle.bosh_records.specs.declared.records.Records.{Records}

-- what a deployment offers once a task is done
abbrev pub offers_after : Records → ℕ → List Offer
offers_after records task = option_map_or (λ row. row.goal.offers) (deployed_by records task) []

-- how a task ends without being done: by its least failed call, unless the director stopped
abbrev pub end_after : Records → TaskError → TaskEnd
end_after records error = by_cause error.cause
  where
    by_cause : Failure → TaskEnd
    by_cause failures.Interrupted = ends.Interrupted
    by_cause cause = unwrap_or (option_and_then (λ work. work.failed) (work_at records error.task)) ends.Interrupted
