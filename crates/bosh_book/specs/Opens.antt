-- A task opens (this project's profile).
use Rattle.std.specs.Prelude.{◌≡◌, ℕ, List, [], ◌∷◌, Option, Some, None, false}
use Rattle.bosh_asks.specs.Asked.{dep_of}
use Rattle.bosh_asks.specs.Known.{lock_holder, next_task}
use Rattle.bosh_asks.specs.Opened.{Opens, plan_of}
use Rattle.bosh_asks.specs.Over.{DoesOver, IsNamed}
use Rattle.bosh_asks.specs.declared.ask.Ask.{Ask}
use Rattle.bosh_asks.specs.declared.fault.BookFault.{BookFault}
use Rattle.bosh_asks.specs.declared.fault.BookFault.TheVariants.{StoreFault}
use Rattle.bosh_base.specs.declared.entry.Entry.TheVariants as entries
use Rattle.bosh_base.specs.declared.entry.TaskOpen as task_open
use Rattle.bosh_book.specs.Adds.{Adds}
use Rattle.bosh_book.specs.Running.{is_full}
use Rattle.bosh_book.specs.declared.book.Book.{Book}
use Rattle.bosh_journal.specs.Appends.{added}
use Rattle.bosh_journal.specs.JournalView.{JournalView}
use Rattle.bosh_records.specs.declared.records.Records.{Records}

-- How a task opens that does what is asked, over what is recorded: it has the next number, no open task has its lock,
-- what is named is there, and it does what is asked by the records.
pub record IsOpeningOf (records : Records) (ask : Ask) (opening : task_open.TaskOpen) : Type 0 where
  pub opens : Opens ask opening
  pub number : opening.task ≡ next_task records
  pub free : lock_holder records (dep_of ask) ≡ None
  pub named : IsNamed records ask
  pub over : DoesOver records ask (plan_of opening)

-- where the store failed, it is pending, and there was room for it
abbrev pub OpensPending : {K : Type 0} → Book K → Ask → JournalView K → BookFault → Type 0
OpensPending was ask now StoreFault =
    (opening : task_open.TaskOpen) × IsOpeningOf was.records ask opening × (is_full was ≡ false)
    × (now.pending ≡ Some (added (entries.TaskOpen opening)))
OpensPending was ask now fault = Unit {0}

-- .. and that is noted, and its number told
pub record OpensTask {K : Type 0}
    (bodies : K → Option (List (List ℕ))) (faults : K → ℕ) (was : Book K) (ask : Ask) (task : ℕ) (now : Book K) :
    Type 0 where
  pub opening : task_open.TaskOpen
  pub is_opening : IsOpeningOf was.records ask opening
  pub adds : Adds bodies faults was (entries.TaskOpen opening ∷ []) now
  pub told : task ≡ opening.task
