-- The moves of a site, and what is still to be told as moves.
use Rattle.std.specs.Prelude.{◌≡◌, ◌≤◌, ℕ, ◌+◌, Bool, true, false, is_some, List, [], ◌∷◌, ◌++◌, length, map, drop, Option, Some, None}
use Rattle.bosh_base.specs.History.{Extends}
use Rattle.bosh_base.specs.declared.entry.Entry.{Entry}
use Rattle.bosh_base.specs.declared.moves.Cause.{Cause}
use Rattle.bosh_base.specs.declared.moves.Move.{Move}
use Rattle.bosh_base.specs.declared.moves.Move.TheVariants.{Note, Did, Wrote, Halt, Stop, Lost}
use Rattle.bosh_moves.specs.Found.{kept_at, stop_of}

-- The moves, and how many more need no memory. How many entries of the book, and effects of the cloud, they tell, with
-- those before the first move. A restart that is to be told first, and whether it found an entry; a halt that is to be
-- told last; and whether the site has halted.
pub record HistoryView : Type 0 where
  pub moves : List Move
  pub free : ℕ
  pub entries : ℕ
  pub effects : ℕ
  pub restart : Option Bool
  pub halt : Option Cause
  pub is_halted : Bool

-- how many entries a restart tells
abbrev pub kept_count : Option Bool → ℕ
kept_count (Some true) = 1
kept_count restart = 0

-- how many entries the moves tell, with the one of a restart that is to be told
unfoldable pub told_count : HistoryView → ℕ
told_count history = history.entries + kept_count history.restart

-- the move of a restart, where so many entries and effects were told
abbrev pub stops : Option Bool → ℕ → ℕ → List Entry → List Entry → List Move
stops (Some kept) place told entries effects = Stop (stop_of (kept_at kept entries place) (drop told effects)) ∷ []
stops None place told entries effects = []

-- the move of the halt
abbrev pub halts : Option Cause → List Move
halts (Some cause) = Halt cause ∷ []
halts None = []

-- the entries that no move tells of are notes to come
unfoldable pub notes : HistoryView → List Entry → List Move
notes history entries = map Note (drop (told_count history) entries)

-- what is to be told, in order
unfoldable pub to_tell : HistoryView → List Entry → List Entry → List Move
to_tell history entries effects =
    stops history.restart history.entries history.effects entries effects ++ (notes history entries ++ halts history.halt)

-- all that has happened: what was told, and what is to be told
unfoldable pub story : HistoryView → List Entry → List Entry → List Move
story history entries effects = history.moves ++ to_tell history entries effects

-- how many effects are told where so many were told, and so many are there
abbrev pub effects_by : Option Bool → ℕ → ℕ → ℕ
effects_by (Some kept) told there = there
effects_by None told there = told

-- how many effects the moves tell, with those of a restart that is to be told
unfoldable pub effects_told : HistoryView → List Entry → ℕ
effects_told history effects = effects_by history.restart history.effects (length effects)

-- .. and after these moves, where so many are there: what is performed, written or lost, and what a restart found, tells all
abbrev pub effects_after : List Move → ℕ → ℕ → ℕ
effects_after [] there told = told
effects_after (Did d ∷ rest) there told = effects_after rest there there
effects_after (Wrote w ∷ rest) there told = effects_after rest there there
effects_after (Lost loss ∷ rest) there told = effects_after rest there there
effects_after (Stop stop ∷ rest) there told = effects_after rest there there
effects_after (move ∷ rest) there told = effects_after rest there told

-- neither a restart nor a halt is to be told
pub record IsTold (history : HistoryView) : Type 0 where
  pub no_restart : history.restart ≡ None
  pub no_halt : history.halt ≡ None

-- it tells no more entries than there are, and a site that has not halted has nothing to tell but notes
pub record IsOf (history : HistoryView) (entries : List Entry) : Type 0 where
  pub within : told_count history ≤ length entries
  pub no_restart : history.is_halted ≡ false → history.restart ≡ None
  pub no_halt : history.is_halted ≡ false → history.halt ≡ None

-- notes to come were told, and nothing has happened
pub record TellsNotes (was : HistoryView) (entries : List Entry) (now : HistoryView) : Type 0 where
  pub grows : Extends was.moves now.moves
  pub story : now.moves ++ map Note (drop now.entries entries) ≡ was.moves ++ map Note (drop was.entries entries)
  pub within : now.entries ≤ length entries
  pub same_effects : now.effects ≡ was.effects
  pub same_restart : now.restart ≡ was.restart
  pub same_halt : now.halt ≡ was.halt
  pub halted : now.is_halted ≡ was.is_halted

-- a halt may have come, and moves were told
pub record Follows (was : HistoryView) (entries effects : List Entry) (halt : Option Cause) (now : HistoryView) :
    Type 0 where
  pub grows : Extends was.moves now.moves
  pub story : story now entries effects ≡ story was entries effects ++ halts halt
  pub same_effects : effects_told now effects ≡ effects_told was effects
  pub is_of : IsOf now entries
  pub halted : now.is_halted ≡ is_some halt

-- moves were told, and nothing has happened
pub record Tells (was : HistoryView) (entries effects : List Entry) (now : HistoryView) : Type 0 where
  pub grows : Extends was.moves now.moves
  pub story : story now entries effects ≡ story was entries effects
  pub same_effects : effects_told now effects ≡ effects_told was effects
  pub is_of : IsOf now entries
  pub halted : now.is_halted ≡ was.is_halted
