-- What a book is once it has started.
use Rattle.std.specs.Prelude.{◌≡◌, ◌⊎◌, ◌&&◌, ℕ, Bool, true, false, List, [], ◌∷◌, ◌++◌, length, map, nat_lt, Option, None, Some}
use Rattle.std.specs.Prelude.{Result, Ok, Err, IfErr, OnOk, is_none, is_ok}
use Rattle.std.specs.List.{filter}
use Rattle.std.specs.Option.{option_map_or}
use Rattle.bosh_asks.specs.declared.fault.BookFault.{BookFault}
use Rattle.bosh_asks.specs.declared.fault.BookFault.TheVariants.{StoreFault}
use Rattle.bosh_base.specs.declared.entry.Entry.{Entry}
use Rattle.bosh_base.specs.declared.entry.Entry.TheVariants as entries
use Rattle.bosh_base.specs.declared.failure.Failure.TheVariants.{Interrupted}
use Rattle.bosh_base.specs.declared.snapshot.Snapshot.{Snapshot}
use Rattle.bosh_base.specs.declared.task.TaskRow.{TaskRow}
use Rattle.bosh_book.specs.Adds.{Adds, IsRecorded}
use Rattle.bosh_book.specs.declared.book.Book.{Book}
use Rattle.bosh_book.specs.Faults.{FailsAs, IsNoteFault, IsQuiet, IsStartFault, of_journal}
use Rattle.bosh_book.specs.Folds.{IsRead}
use Rattle.bosh_book.specs.declared.standing.Standing.{Standing}
use Rattle.bosh_book.specs.declared.standing.Standing.TheVariants.{Running, Unread}
use Rattle.bosh_fold.specs.Learns.{LearnsAll}
use Rattle.bosh_journal.specs.Appends.{added}
use Rattle.bosh_journal.specs.JournalView.{JournalView}
use Rattle.bosh_journal.specs.Kept.{IsKept}
use Rattle.bosh_journal.specs.Reads.{Reads, is_broken_after}
use Rattle.bosh_journal.specs.declared.fault.JournalFault.{JournalFault}
use Rattle.bosh_ports.specs.Faults.{NeverFalls}
use Rattle.bosh_records.specs.declared.records.Records.{Records}
use Rattle.bosh_views.specs.Snapshot.{IsSnapshot}

-- ---- the entries that are taken in

-- so many entries give way to a snapshot, where that is asked for (this project's profile)
abbrev pub gives_way : Bool → List Entry → Bool
gives_way compacts read = compacts && nat_lt 4096 (length read)

-- a snapshot of what is recorded stands in their place, unless that was refused
abbrev pub IsShortened : {T : Type 0} → Result T BookFault → Records → List Entry → List Entry → Type 0
IsShortened (Ok value) records read taken = (it : Snapshot) × IsSnapshot records it × (taken ≡ entries.Snapshot it ∷ [])
IsShortened (Err fault) records read taken = taken ≡ read

abbrev pub IsShortenedWhere : {T : Type 0} → Bool → Result T BookFault → Records → List Entry → List Entry → Type 0
IsShortenedWhere true result records read taken = IsShortened result records read taken
IsShortenedWhere false result records read taken = taken ≡ read

-- a snapshot stands in their place
abbrev pub shortened : {T : Type 0} → Result T BookFault → Entry → List Entry → List Entry
shortened (Ok value) snapshot read = snapshot ∷ []
shortened (Err fault) snapshot read = read

-- where they are let be or shortened, nothing else changes but the store
pub record Compacts {K : Type 0} (bodies : K → Option (List (List ℕ))) (faults : K → ℕ) (was now : Book K) : Type 0 where
  pub kept : IsKept bodies was.journal → IsKept bodies now.journal
  pub count : NeverFalls (faults was.journal.store) (faults now.journal.store)
  pub records : now.records ≡ was.records
  pub standing : now.standing ≡ was.standing

-- the records stand for what was read, where it is not refused
abbrev pub ReadsAll : {T : Type 0} → Result T BookFault → List Entry → Records → Type 0
ReadsAll (Ok value) read records = IsRead read records
ReadsAll (Err fault) read records = Unit {0}

-- The entries that were read are taken in, and many give way to a snapshot. A refusal leaves them, and is no fault of the
-- store where they do not give way.
pub record Takes {K T : Type 0}
    (bodies : K → Option (List (List ℕ))) (faults : K → ℕ) (compacts : Bool) (was : Book K) (result : Result T BookFault)
    (now : Book K) : Type 0 where
  pub reads : ReadsAll result was.journal.entries now.records
  pub taken :
      IsShortenedWhere (gives_way compacts was.journal.entries) result now.records was.journal.entries now.journal.entries
  pub quiet : gives_way compacts was.journal.entries ≡ false → IfErr result IsQuiet
  pub kept : IsKept bodies was.journal → IsKept bodies now.journal
  pub count : NeverFalls (faults was.journal.store) (faults now.journal.store)
  pub standing : now.standing ≡ was.standing

-- ---- the tasks that are ended

-- a task is recorded, and has no end
abbrev pub is_open : Option TaskRow → Bool
is_open row = option_map_or (λ it. is_none it.end) row false

abbrev pub open_in : List (ℕ × Option TaskRow) → List ℕ
open_in places = map (λ place. place.0) (filter (λ place. is_open place.1) places)

-- the tasks that are open, by number
abbrev pub open_tasks : Records → List ℕ
open_tasks records = open_in records.tasks.places.entries

-- the entry by which a task ends because the director stopped
abbrev pub interruption : ℕ → Entry
interruption task = entries.TaskError (record { task = task; cause = Interrupted })

-- where the store failed, the end of the next task is pending
abbrev pub IsNextPending : {K : Type 0} → BookFault → List ℕ → JournalView K → Type 0
IsNextPending StoreFault (task ∷ rest) journal = journal.pending ≡ Some (added (interruption task))
IsNextPending StoreFault [] journal = ⊥
IsNextPending fault rest journal = Unit {0}

-- each of some tasks is ended, in their order, or the first ones are, where that was refused
abbrev pub AreInterrupted : {K T : Type 0} → Result T BookFault → List ℕ → List Entry → JournalView K → Type 0
AreInterrupted (Ok value) tasks ended journal = ended ≡ map interruption tasks
AreInterrupted (Err fault) tasks ended journal =
    (done rest : List ℕ) × (tasks ≡ done ++ rest) × (ended ≡ map interruption done) × IsNextPending fault rest journal

-- the tasks that are open are ended as interrupted
pub record Interrupts {K T : Type 0}
    (bodies : K → Option (List (List ℕ))) (faults : K → ℕ) (tasks : List ℕ) (was : Book K) (result : Result T BookFault)
    (now : Book K) : Type 0 where
  pub ended : List Entry
  pub are_ended : AreInterrupted result tasks ended now.journal
  pub adds : Adds bodies faults was ended now

-- where entries were taken in they are; else nothing changes
abbrev pub InterruptsWhere : {K S T : Type 0} → (K → Option (List (List ℕ))) → (K → ℕ) → Result S BookFault → Book K →
    Result T BookFault → Book K → Type 0
InterruptsWhere bodies faults (Ok value) was result now =
    Interrupts bodies faults (open_tasks was.records) was result now
InterruptsWhere bodies faults (Err fault) was result now = now ≡ was

-- .. and so none is ended
abbrev pub AreInterruptedWhere : {K S T : Type 0} → Result S BookFault → Result T BookFault → List ℕ → List Entry →
    JournalView K → Type 0
AreInterruptedWhere (Ok value) result tasks ended journal = AreInterrupted result tasks ended journal
AreInterruptedWhere (Err fault) result tasks ended journal = ended ≡ []

-- .. and their number is told, and how many entries there are now
pub record Finishes {K S T : Type 0}
    (bodies : K → Option (List (List ℕ))) (faults : K → ℕ) (was : Book K) (taken : Result S BookFault)
    (result : Result T BookFault) (now : Book K) : Type 0 where
  pub ended : List Entry
  pub are_ended : AreInterruptedWhere taken result (open_tasks was.records) ended now.journal
  pub entries : now.journal.entries ≡ was.journal.entries ++ ended
  pub learns : LearnsAll was.records ended now.records
  pub read : now.read ≡ length now.journal.entries
  pub mended : now.mended ≡ Some (length ended)
  pub kept : IsKept bodies was.journal → IsKept bodies now.journal
  pub count : NeverFalls (faults was.journal.store) (faults now.journal.store)

-- how that came out, where entries were taken in; else the refusal is handed on, and the journal stays
abbrev pub ComesOut : {K S T : Type 0} → (K → ℕ) → Result S BookFault → Book K → Result T BookFault → Book K → Type 0
ComesOut faults (Ok value) was result now = FailsAs faults result was.journal now.journal × IfErr result IsNoteFault
ComesOut faults (Err fault) was result now = (result ≡ Err fault) × (now.journal ≡ was.journal)

-- The entries that were read are taken in, and then the tasks that are open by them are ended as interrupted. It starts only
-- where they were taken in.
pub record Starts {K T : Type 0}
    (bodies : K → Option (List (List ℕ))) (faults : K → ℕ) (compacts : Bool) (was : Book K) (result : Result T BookFault)
    (now : Book K) : Type 0 where
  pub taken : Result (Unit {0}) BookFault
  pub mid : Book K
  pub takes : Takes bodies faults compacts was taken mid
  pub finishes : Finishes bodies faults mid taken result now
  pub comes_out : ComesOut faults taken mid result now
  pub all_taken : OnOk result (is_ok taken ≡ true)

abbrev pub standing_after : {T : Type 0} → Result T BookFault → Standing
standing_after (Ok value) = Running
standing_after (Err fault) = Unread

-- Its store was mended and read, and it started with the entries that it spells; where that was refused, it is still to
-- be read.
pub record StartsFrom {K T : Type 0}
    (bodies : K → Option (List (List ℕ))) (faults : K → ℕ) (is_broken : K → Bool) (compacts : Bool) (store : K)
    (result : Result T BookFault) (now : Book K) : Type 0 where
  pub first : Book K
  pub reads : Reads bodies faults is_broken store (Ok first.journal.entries) first.journal.store
  pub whole : first.journal.is_broken ≡ false
  pub starts : Starts bodies faults compacts first result now
  pub recorded : OnOk result (IsRecorded first.journal.entries now.records)
  pub fails : FailsAs faults result first.journal now.journal
  pub fault : IfErr result (IsStartFault first.journal.entries)
  pub standing : now.standing ≡ standing_after result

-- the reading of the store was refused
pub record IsUnread {K : Type 0}
    (bodies : K → Option (List (List ℕ))) (faults : K → ℕ) (is_broken : K → Bool) (was : K) (fault : BookFault)
    (now : K) : Type 0 where
  pub refusal : JournalFault
  pub reads : Reads bodies faults is_broken was (Err refusal) now
  pub told : fault ≡ of_journal refusal

-- a load is refused in the reading, or in the start; the store is given back
abbrev pub IsNotLoaded : {K : Type 0} → (K → Option (List (List ℕ))) → (K → ℕ) → (K → Bool) → K → K → BookFault → Type 0
IsNotLoaded {K} bodies faults is_broken was now fault =
    IsUnread bodies faults is_broken was fault now
    ⊎ ((book : Book K) × StartsFrom {T = Unit {0}} bodies faults is_broken true was (Err fault) book
    × (now ≡ book.journal.store))

-- A reload is refused in the reading: the book is to be read, with its entries and records as before, and no task is told of.
-- What is pending stays so, and the journal is to be reloaded unless it was not before and memory was short.
pub record IsNotReloaded {K T : Type 0}
    (bodies : K → Option (List (List ℕ))) (faults : K → ℕ) (is_broken : K → Bool) (was : Book K)
    (result : Result T BookFault) (now : Book K) : Type 0 where
  pub fault : BookFault
  pub refused : result ≡ Err fault
  pub reading : IsUnread bodies faults is_broken was.journal.store fault now.journal.store
  pub entries : now.journal.entries ≡ was.journal.entries
  pub broken : now.journal.is_broken ≡ is_broken_after {T = Unit {0}} (Err reading.refusal) was.journal.is_broken
  pub pending : now.journal.pending ≡ was.journal.pending
  pub kept : IsKept bodies was.journal → IsKept bodies now.journal
  pub records : now.records ≡ was.records
  pub read : now.read ≡ was.read
  pub standing : now.standing ≡ Unread
  pub mended : now.mended ≡ None
