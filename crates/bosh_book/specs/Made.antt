-- What is noted of an entry that was made, where it was.
use Rattle.std.specs.Prelude.{◌≡◌, ℕ, List, [], ◌∷◌, Option, Result, Ok, Err}
use Rattle.bosh_asks.specs.declared.fault.BookFault.{BookFault}
use Rattle.bosh_asks.specs.declared.fault.BookFault.TheVariants.{Memory}
use Rattle.bosh_base.specs.declared.entry.Entry.{Entry}
use Rattle.bosh_book.specs.Adds.{Adds}
use Rattle.bosh_book.specs.Appends.{LeavesPending}
use Rattle.bosh_book.specs.declared.book.Book.{Book}
use Rattle.bosh_book.specs.Faults.{FailsAs, IsNoteFault}

-- the entry is noted, and the value beside it handed on; or that is refused, and nothing is noted but what is pending
abbrev pub Noted : {K V : Type 0} → (K → Option (List (List ℕ))) → (K → ℕ) → Entry → V → Book K →
    Result V BookFault → Book K → Type 0
Noted {K} {V} bodies faults entry value was (Ok it) now =
    (it ≡ value) × (now.journal.is_broken ≡ was.journal.is_broken) × Adds bodies faults was (entry ∷ []) now
Noted {K} {V} bodies faults entry value was (Err fault) now =
    IsNoteFault fault × FailsAs {T = V} faults (Err fault) was.journal now.journal × Adds bodies faults was [] now
    × LeavesPending {T = V} (Err fault) entry now.journal

-- where it was made it is noted, or that is refused; where there was no memory to make it, nothing happens
abbrev pub NotesMade : {K T V : Type 0} → (K → Option (List (List ℕ))) → (K → ℕ) → (T → Entry) →
    Result (T × V) BookFault → Book K → Result V BookFault → Book K → Type 0
NotesMade bodies faults entry_of (Ok it) was result now = Noted bodies faults (entry_of it.0) it.1 was result now
NotesMade bodies faults entry_of (Err fault) was result now = (result ≡ Err Memory) × (now ≡ was)
