-- Why a book refuses what it is asked.
use Rattle.std.specs.Prelude.{◌≡◌, ℕ, List, is_some, true, false, Result, Err}
use Rattle.bosh_asks.specs.Asked.{dep_of}
use Rattle.bosh_asks.specs.Cause.{IsCause}
use Rattle.bosh_asks.specs.Goals.{config_in}
use Rattle.bosh_asks.specs.Over.{GoalOver, IsNamed}
use Rattle.bosh_asks.specs.Refused.{MayRefuse}
use Rattle.bosh_asks.specs.declared.ask.Ask.{Ask}
use Rattle.bosh_asks.specs.declared.fault.BookFault.{BookFault}
use Rattle.bosh_asks.specs.declared.fault.BookFault.TheVariants as book
use Rattle.bosh_base.specs.Answer.{is_kind}
use Rattle.bosh_base.specs.Call.{method_of}
use Rattle.bosh_base.specs.declared.answer.Answer.{Answer}
use Rattle.bosh_base.specs.declared.entry.Entry.{Entry}
use Rattle.bosh_base.specs.declared.entry.TaskOpen.{TaskOpen}
use Rattle.bosh_book.specs.Current.{IsCurrent}
use Rattle.bosh_book.specs.Ends.{IsAtWork}
use Rattle.bosh_book.specs.Folds.{IsDamaged, IsStop}
use Rattle.bosh_book.specs.Opens.{IsOpeningOf}
use Rattle.bosh_book.specs.Running.{is_full, is_stopped}
use Rattle.bosh_book.specs.declared.book.Book.{Book}
use Rattle.bosh_book.specs.declared.granted.Granted.{Granted}
use Rattle.bosh_journal.specs.JournalView.{JournalView}
use Rattle.bosh_journal.specs.declared.fault.JournalFault.{JournalFault}
use Rattle.bosh_journal.specs.declared.fault.JournalFault.TheVariants as journal
use Rattle.bosh_ports.specs.Faults.{Rose}
use Rattle.bosh_records.specs.declared.records.Records.{Records}
use Rattle.bosh_manifest_names.specs.declared.fault.GoalFault.TheVariants as goal

-- how the refusal of a journal is told as one of the book's
abbrev pub of_journal : JournalFault → BookFault
of_journal journal.StoreFault = book.StoreFault
of_journal (journal.Damaged place) = book.Damaged place
of_journal journal.Broken = book.Stopped
of_journal journal.Memory = book.Memory

-- A store that failed has its count risen, and the book is to start anew; else it is as whole as it was.
abbrev pub FailsAs : {K T : Type 0} → (K → ℕ) → Result T BookFault → JournalView K → JournalView K → Type 0
FailsAs faults (Err book.StoreFault) was now = Rose (faults was.store) (faults now.store) × (now.is_broken ≡ true)
FailsAs faults answer was now = now.is_broken ≡ was.is_broken

-- it is no fault of the store
abbrev pub IsQuiet : BookFault → Type 0
IsQuiet book.StoreFault = ⊥
IsQuiet fault = Unit {0}

-- to note an entry is refused only where the store fails, or for want of memory
abbrev pub IsNoteFault : BookFault → Type 0
IsNoteFault book.StoreFault = Unit {0}
IsNoteFault book.Memory = Unit {0}
IsNoteFault fault = ⊥

-- the same of a book that may be stopped
abbrev pub IsCallFault : {K : Type 0} → Book K → BookFault → Type 0
IsCallFault was book.Stopped = is_stopped was ≡ true
IsCallFault was fault = IsNoteFault fault

-- the same of one turn after another, after which there may be no room
abbrev pub IsTurnFault : {K : Type 0} → Book K → BookFault → Type 0
IsTurnFault now book.Full = is_full now ≡ true
IsTurnFault now fault = IsNoteFault fault

-- the same of a book that may be stopped
abbrev pub IsClaimFault : {K : Type 0} → Book K → Book K → BookFault → Type 0
IsClaimFault was now book.Full = (is_stopped was ≡ false) × (is_full now ≡ true)
IsClaimFault was now fault = IsCallFault was fault

-- to start is refused at the first entry that may not stand at its place, where the store fails, or for want of memory
abbrev pub IsStartFault : List Entry → BookFault → Type 0
IsStartFault entries (book.Damaged place) = IsDamaged entries place
IsStartFault entries fault = IsNoteFault fault

-- of entries that were taken in up to a place, one may not stand, or memory was short
abbrev pub StopsAs : Records → List Entry → ℕ → BookFault → Type 0
StopsAs records entries count (book.Damaged place) = IsStop records entries count place
StopsAs records entries count fault = fault ≡ book.Memory

-- a call may end with an answer: its permit is current, and the answer of its kind
abbrev pub MayEnd : {K : Type 0} → Book K → Granted → Answer → Type 0
MayEnd was permit answer = IsCurrent was permit × (is_kind (method_of permit.call) answer ≡ true)

-- to end a call is refused where the permit is not current, or the answer is not of the call's kind
abbrev pub IsSettleFault : {K : Type 0} → Book K → Granted → Answer → BookFault → Type 0
IsSettleFault was permit answer (book.Locked holder) =
    (is_stopped was ≡ false) × (holder ≡ permit.task) × (¬ MayEnd was permit answer)
IsSettleFault was permit answer fault = IsCallFault was fault

-- to end a task is refused where something is left of it
abbrev pub IsEndFault : {K : Type 0} → Book K → ℕ → BookFault → Type 0
IsEndFault was task (book.Locked holder) = (is_stopped was ≡ false) × (holder ≡ task) × IsAtWork was.records task
IsEndFault was task fault = IsCallFault was fault

-- an upload is refused for a cause that is given, and told by its name and version
abbrev pub IsDiffering : List ℕ → Type 0 → BookFault → Type 0
IsDiffering told Cause (book.Differs name) = (name ≡ told) × Cause
IsDiffering told Cause book.Memory = Unit {0}
IsDiffering told Cause fault = ⊥

abbrev pub IsUploadFault : {K : Type 0} → Book K → List ℕ → Type 0 → BookFault → Type 0
IsUploadFault was told Cause (book.Differs name) = (is_stopped was ≡ false) × (name ≡ told) × Cause
IsUploadFault was told Cause fault = IsCallFault was fault

-- a file is refused that spells no config
abbrev pub IsNoConfig : List ℕ → BookFault → Type 0
IsNoConfig file (book.Goal fault) = (fault ≡ goal.NoConfig) × (is_some (config_in file) ≡ false)
IsNoConfig file book.Memory = Unit {0}
IsNoConfig file fault = ⊥

abbrev pub IsConfigFault : {K : Type 0} → Book K → List ℕ → BookFault → Type 0
IsConfigFault was file (book.Goal fault) =
    (is_stopped was ≡ false) × (fault ≡ goal.NoConfig) × (is_some (config_in file) ≡ false)
IsConfigFault was file fault = IsCallFault was fault

-- a task opens unless what is asked is refused, for the first cause in the records, or there is no room for the task
-- that would open
abbrev pub IsOpenFault : {K : Type 0} → Book K → Ask → BookFault → Type 0
IsOpenFault was ask book.Stopped = is_stopped was ≡ true
IsOpenFault was ask book.Full =
    (is_stopped was ≡ false) × (is_full was ≡ true) × ((opening : TaskOpen) × IsOpeningOf was.records ask opening)
IsOpenFault was ask book.StoreFault = is_stopped was ≡ false
IsOpenFault was ask fault =
    MayRefuse ask fault
    × IsCause was.records (IsNamed was.records ask) (dep_of ask) (GoalOver was.records ask) fault
