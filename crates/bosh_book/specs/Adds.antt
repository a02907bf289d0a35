-- Entries that a call adds at the end of a book.
use Rattle.std.specs.Prelude.{◌≡◌, ℕ, List, [], ◌∷◌, ◌++◌, Option, None}
use Rattle.bosh_base.specs.declared.entry.Entry.{Entry}
use Rattle.bosh_book.specs.declared.book.Book.{Book}
use Rattle.bosh_fold.specs.ArrivalsWith.{arrivals_with}
use Rattle.bosh_fold.specs.Learns.{LearnsAll}
use Rattle.bosh_records.specs.Arrivals.{Arrivals, arrivals}
use Rattle.bosh_records.specs.declared.records.Records.{Records}
use Rattle.bosh_journal.specs.Kept.{IsKept}
use Rattle.bosh_ports.specs.Faults.{NeverFalls}

-- the uploads, and how many tasks and calls there are, after more entries
abbrev pub arrivals_by : List Entry → Arrivals → Arrivals
arrivals_by [] before = before
arrivals_by (entry ∷ entries) before = arrivals_by entries (arrivals_with entry before)

-- before the first entry
abbrev pub no_arrivals : Arrivals
no_arrivals = record { releases = []; stemcells = []; config = None; opened = 0; last_call = 0 }

-- the records have what came by these entries alone
abbrev pub IsRecorded : List Entry → Records → Type 0
IsRecorded entries records = arrivals records ≡ arrivals_by entries no_arrivals

-- The book has these entries at its end besides those before, and its records have taken them in, and nothing besides.
-- Its store holds them all, if it held those before, and no fault of it is forgotten. Whether the book goes on, and what
-- is told of its start, stays.
pub record Adds {K : Type 0}
    (bodies : K → Option (List (List ℕ))) (faults : K → ℕ) (was : Book K) (added : List Entry) (now : Book K) :
    Type 0 where
  pub entries : now.journal.entries ≡ was.journal.entries ++ added
  pub learns : LearnsAll was.records added now.records
  pub recorded : arrivals now.records ≡ arrivals_by added (arrivals was.records)
  pub kept : IsKept bodies was.journal → IsKept bodies now.journal
  pub count : NeverFalls (faults was.journal.store) (faults now.journal.store)
  pub standing : now.standing ≡ was.standing
  pub read : now.read ≡ was.read
  pub mended : now.mended ≡ was.mended
