-- Whether a task may end.
use Rattle.std.specs.Prelude.{ℕ, Bool, true, false, ◌==◌, ◌&&◌, List, Option, is_none, not}
use Rattle.std.specs.List.{list_any}
use Rattle.std.specs.Option.{option_and_then, option_map_or}
use Rattle.std.specs.Str.{bytes_eq}
use Rattle.bosh_base.specs.declared.failure.Failure.{Failure}
use Rattle.bosh_base.specs.declared.failure.Failure.TheVariants as failures
use Rattle.bosh_base.specs.declared.task.TaskEnd.{TaskEnd}
use Rattle.bosh_base.specs.declared.task.TaskEnd.TheVariants as ends
use Rattle.bosh_base.specs.declared.entry.TaskError.{TaskError}
use Rattle.bosh_progress.specs.Tree.{marked_in}
use Rattle.bosh_rows.specs.Standing.{same_truth}
use Rattle.bosh_records.specs.Readers.{task_at, work_at}
use Rattle.bosh_records.specs.Table.{things}
use Rattle.bosh_work.specs.Work.{number_of}
use Rattle.bosh_records.specs.declared.machines.Machine.{Machine}
use Rattle.bosh_records.specs.declared.records.Records.{Records}
use Rattle.bosh_work.specs.declared.work.Work.{Work}
use Rattle.bosh_claim.specs.Phase.{present}

abbrev pub is_of : List ℕ → Machine → Bool
is_of dep machine = bytes_eq machine.row.dep dep

-- a compile machine of a deployment is recorded
abbrev pub has_machine : Records → Option (List ℕ) → Bool
has_machine records dep =
    option_map_or (λ it. list_any (is_of it) (things records.machines.places.entries)) dep false

abbrev pub dep_of : Records → ℕ → Option (List ℕ)
dep_of records task = option_and_then (λ row. row.dep) (task_at records task)

-- none of its calls failed or is open, nothing is left in any phase, each key of its goal is compiled, and no compile
-- machine of its deployment is recorded
abbrev pub is_done : Records → ℕ → Work → Bool
is_done records task work =
    is_none work.failed
    && (work.open == 0
    && (is_none (present records work)
    && (marked_in work.keys.queue.left == 0
    && not (has_machine records (dep_of records task)))))

abbrev pub ends_task : Records → ℕ → Bool
ends_task records task = option_map_or (is_done records task) (work_at records task) false

abbrev pub is_open : Records → ℕ → Bool
is_open records task = option_map_or (λ row. is_none row.end) (task_at records task) false

-- a task ended since what a call named was not there
abbrev pub is_gone : TaskEnd → Bool
is_gone (ends.Gone n method owner) = true
is_gone end = false

-- the least failed call of a task has a number, and it failed so; none of its calls is open
abbrev pub failed_so : ℕ → Bool → Work → TaskEnd → Bool
failed_so n gone work end = work.open == 0 && (number_of end == n && same_truth (is_gone end) gone)

abbrev pub has_failed : Option Work → ℕ → Bool → Bool
has_failed work n gone =
    option_map_or (λ it. option_map_or (failed_so n gone it) it.failed false) work false

-- a task ends by its least failed call, once none of its calls is open, or because the director stopped
abbrev pub fails_task : Records → TaskError → Bool
fails_task records error = by_cause error.cause
  where
    by_cause : Failure → Bool
    by_cause failures.Interrupted = is_open records error.task
    by_cause (failures.Call n) = has_failed (work_at records error.task) n false
    by_cause (failures.Gone n) = has_failed (work_at records error.task) n true
