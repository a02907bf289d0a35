-- What the journal of a book is after an entry was to be added.
use Rattle.std.specs.Prelude.{◌≡◌, ℕ, List, [], ◌∷◌, ◌++◌, Option, Some, Result, Ok, Err, IfErr}
use Rattle.bosh_asks.specs.declared.fault.BookFault.{BookFault}
use Rattle.bosh_asks.specs.declared.fault.BookFault.TheVariants.{StoreFault}
use Rattle.bosh_base.specs.declared.entry.Entry.{Entry}
use Rattle.bosh_book.specs.Faults.{FailsAs, IsNoteFault}
use Rattle.bosh_journal.specs.Appends.{added}
use Rattle.bosh_journal.specs.JournalView.{JournalView}
use Rattle.bosh_journal.specs.Kept.{IsKept}
use Rattle.bosh_ports.specs.Faults.{NeverFalls}

-- an entry, where the call was not refused
abbrev pub unless_refused : {T : Type 0} → Result T BookFault → Entry → List Entry
unless_refused (Ok value) entry = entry ∷ []
unless_refused (Err fault) entry = []

-- where the store failed, the entry is pending: a load may find it
abbrev pub LeavesPending : {K T : Type 0} → Result T BookFault → Entry → JournalView K → Type 0
LeavesPending (Err StoreFault) entry now = now.pending ≡ Some (added entry)
LeavesPending answer entry now = Unit {0}

-- .. which is one that may be noted
abbrev pub LeavesAllowed : {K T : Type 0} → Type 0 → Result T BookFault → Entry → JournalView K → Type 0
LeavesAllowed Allowed (Err StoreFault) entry now = Allowed × (now.pending ≡ Some (added entry))
LeavesAllowed Allowed answer entry now = Unit {0}

-- It has the entry at its end, unless that was refused. Its store holds its entries, if it held those before, and no
-- fault of the store is forgotten.
pub record Appends {K T : Type 0}
    (bodies : K → Option (List (List ℕ))) (faults : K → ℕ) (result : Result T BookFault) (was : JournalView K)
    (entry : Entry) (now : JournalView K) : Type 0 where
  pub entries : now.entries ≡ was.entries ++ unless_refused result entry
  pub kept : IsKept bodies was → IsKept bodies now
  pub count : NeverFalls (faults was.store) (faults now.store)
  pub fails : FailsAs faults result was now
  pub fault : IfErr result IsNoteFault
  pub pending : LeavesPending result entry now
