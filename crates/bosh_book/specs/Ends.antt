-- How a task ends.
use Rattle.std.specs.Prelude.{◌≡◌, ◌==◌, ℕ, List, [], ◌∷◌, Option, Some, None, is_none, if◌then◌else◌}
use Rattle.std.specs.Option.{option_and_then}
use Rattle.bosh_asks.specs.declared.fault.BookFault.{BookFault}
use Rattle.bosh_asks.specs.declared.fault.BookFault.TheVariants.{StoreFault}
use Rattle.bosh_base.specs.declared.entry.Entry.{Entry}
use Rattle.bosh_base.specs.declared.entry.Entry.TheVariants.{TaskDone, TaskError}
use Rattle.bosh_base.specs.declared.failure.Failure.TheVariants as failures
use Rattle.bosh_base.specs.declared.task.TaskEnd.{TaskEnd}
use Rattle.bosh_base.specs.declared.task.TaskEnd.TheVariants as ends
use Rattle.bosh_book.specs.Adds.{Adds}
use Rattle.bosh_book.specs.declared.book.Book.{Book}
use Rattle.bosh_claim.specs.Phase.{present}
use Rattle.bosh_journal.specs.Appends.{added}
use Rattle.bosh_journal.specs.JournalView.{JournalView}
use Rattle.bosh_records.specs.Readers.{task_at, work_at}
use Rattle.bosh_records.specs.declared.records.Records.{Records}
use Rattle.bosh_work.specs.declared.work.Work.{Work}

-- the entry by which a task ends so
abbrev pub closing : ℕ → TaskEnd → Entry
closing task ends.Finished = TaskDone task
closing task (ends.Fault n method owner) = TaskError (record { task = task; cause = failures.Call n })
closing task ends.Interrupted = TaskError (record { task = task; cause = failures.Interrupted })
closing task (ends.Gone n method owner) = TaskError (record { task = task; cause = failures.Gone n })

-- how a task has ended
abbrev pub end_of : Records → ℕ → Option TaskEnd
end_of records task = option_and_then (λ row. row.end) (task_at records task)

-- A task that has a failed call ends by the least of them once none is open, and another one is done once nothing is
-- left in any phase.
abbrev pub end_by : Records → Option TaskEnd → Work → Option TaskEnd
end_by records (Some end) work = if work.open == 0 then Some end else None
end_by records None work = if is_none (present records work) then Some ends.Finished else None

-- how a task ends now, and none where something is left of it, or it is not recorded
abbrev pub coming_end : Records → ℕ → Option TaskEnd
coming_end records task = option_and_then (λ work. end_by records work.failed work) (work_at records task)

-- a task that has ended is only told, and nothing changes
abbrev pub IsTold : {K : Type 0} → Book K → ℕ → TaskEnd → Book K → Type 0
IsTold was task end now = (end_of was.records task ≡ Some end) × (now ≡ was)

-- A task ends that had no end: that is noted.
pub record EndsTask {K : Type 0}
    (bodies : K → Option (List (List ℕ))) (faults : K → ℕ) (was : Book K) (task : ℕ) (end : TaskEnd) (now : Book K) :
    Type 0 where
  pub is_open : end_of was.records task ≡ None
  pub comes : coming_end was.records task ≡ Some end
  pub adds : Adds bodies faults was (closing task end ∷ []) now

-- where the store failed, that is pending
abbrev pub EndsPending : {K : Type 0} → Records → ℕ → JournalView K → BookFault → Type 0
EndsPending records task now StoreFault =
    (end : TaskEnd) × (coming_end records task ≡ Some end) × (now.pending ≡ Some (added (closing task end)))
EndsPending records task now fault = Unit {0}

-- something is left of a task that has no end, or it is not recorded
abbrev pub IsAtWork : Records → ℕ → Type 0
IsAtWork records task = (end_of records task ≡ None) × (coming_end records task ≡ None)
