-- How the store of a journal holds its entries.
use Rattle.std.specs.Prelude.{◌≡◌, ◌⊎◌, ℕ, Bool, true, false, if◌then◌else◌, List, [], ◌∷◌, ◌++◌, Option, Some, None}
use Rattle.bosh_base.specs.declared.entry.Entry.{Entry}
use Rattle.bosh_journal.specs.JournalView.{JournalView, Pending}
use Rattle.bosh_journal.specs.Spelled.{format_of, Spell}
use Rattle.bosh_journal.specs.declared.format.Format.TheVariants.{Present}

-- the bodies spell the entries, in the present format
abbrev pub Hold : List (List ℕ) → List Entry → Type 0
Hold bodies entries = (format_of bodies ≡ Present) × Spell bodies entries

-- the entries with what is pending
abbrev pub with_pending : Pending → List Entry → List Entry
with_pending it entries = if it.is_alone then it.entry ∷ [] else entries ++ it.entry ∷ []

-- the bodies hold the entries with what is pending, if anything is
abbrev pub HoldPending : List (List ℕ) → Option Pending → List Entry → Type 0
HoldPending bodies (Some it) entries = Hold bodies (with_pending it entries)
HoldPending bodies None entries = ⊥

-- the bodies hold the entries; where the store has failed since, they may hold what it failed at
abbrev pub Tell : List (List ℕ) → Bool → Option Pending → List Entry → Type 0
Tell bodies false pending entries = Hold bodies entries
Tell bodies true pending entries = Hold bodies entries ⊎ HoldPending bodies pending entries

-- the store tells its bodies, and they hold the entries
abbrev pub TellAll : Option (List (List ℕ)) → Bool → Option Pending → List Entry → Type 0
TellAll (Some bodies) is_broken pending entries = Tell bodies is_broken pending entries
TellAll None is_broken pending entries = ⊥

-- a load of the journal's store finds the journal's entries
abbrev pub IsKept : {K : Type 0} → (K → Option (List (List ℕ))) → JournalView K → Type 0
IsKept bodies journal = TellAll (bodies journal.store) journal.is_broken journal.pending journal.entries
