-- Runs of calls on a journal.
use Rattle.std.specs.Prelude.{ℕ, List, [], ◌∷◌, Option}
use Rattle.bosh_journal.specs.JournalView.{JournalView}
use Rattle.bosh_journal.specs.Kept.{IsKept}

-- each call of a run leaves a journal of which a load finds the entries, where it found one
abbrev pub AllKeep : {K : Type 0} → (K → Option (List (List ℕ))) → JournalView K → List (JournalView K) → Type 0
AllKeep bodies first [] = Unit {0}
AllKeep bodies first (next ∷ run) = (IsKept bodies first → IsKept bodies next) × AllKeep bodies next run

-- the journal after the run
abbrev pub after_run : {K : Type 0} → JournalView K → List (JournalView K) → JournalView K
after_run first [] = first
after_run first (next ∷ run) = after_run next run
