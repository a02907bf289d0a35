-- Which entry is pending where the director's store failed in a call of a site, which halts then.
use Rattle.std.specs.Prelude.{◌≡◌, ℕ, true, false, List, Option, Some}
use Rattle.bosh_asks.specs.declared.ask.Ask.{Ask}
use Rattle.bosh_base.specs.declared.entry.Entry.{Entry}
use Rattle.bosh_base.specs.declared.entry.Entry.TheVariants as entries
use Rattle.bosh_base.specs.declared.entry.TaskOpen as task_open
use Rattle.bosh_base.specs.declared.task.TaskEnd.{TaskEnd}
use Rattle.bosh_book.specs.Claims.{IsNext}
use Rattle.bosh_book.specs.Ends.{closing, coming_end}
use Rattle.bosh_book.specs.Opens.{IsOpeningOf}
use Rattle.bosh_book.specs.Running.{is_full}
use Rattle.bosh_book.specs.declared.book.Book.{Book}
use Rattle.bosh_journal.specs.Appends.{added}
use Rattle.bosh_ports.specs.Rigged.{faults_of}
use Rattle.bosh_ports.specs.declared.keeper.Keeper as keeper
use Rattle.bosh_records.specs.declared.records.Records.{Records}
use Rattle.bosh_world.specs.Steps.{bodies_of}
use Rattle.bosh_world.specs.declared.site.Site.{Site}

-- where a site that ran halts, an entry is pending of which this holds
abbrev pub Pends : {K L : Type 0} {k : keeper.Ghosts K} {l : keeper.Ghosts L} → Site K L k l → (Entry → Type 0) → Site K L k l →
    Type 0
Pends was Is now =
    was.history.is_halted ≡ false → now.history.is_halted ≡ true →
    (entry : Entry) × Is entry × (now.book.journal.pending ≡ Some (added entry))

-- it is this one, which may be noted
abbrev pub IsAllowed : Type 0 → Entry → Entry → Type 0
IsAllowed Allowed given entry = Allowed × (entry ≡ given)

-- the task opens by it that does what is asked
abbrev pub IsOpening : {K : Type 0} → Book K → Ask → Entry → Type 0
IsOpening was ask entry =
    (opening : task_open.TaskOpen) × IsOpeningOf was.records ask opening × (is_full was ≡ false)
    × (entry ≡ entries.TaskOpen opening)

-- the task ends by it, as it comes to its end
abbrev pub IsClosing : Records → ℕ → Entry → Type 0
IsClosing records task entry = (end : TaskEnd) × (coming_end records task ≡ Some end) × (entry ≡ closing task end)

-- it was to come next in a claim
abbrev pub IsClaimed : {K L : Type 0} {k : keeper.Ghosts K} {l : keeper.Ghosts L} → (K → Option (List (List ℕ))) → (K → ℕ) →
    ℕ → ℕ → Site K L k l → Site K L k l → Entry → Type 0
IsClaimed bodies faults task worker was now entry =
    IsNext (bodies_of bodies) (faults_of faults) task worker was.book now.book entry
