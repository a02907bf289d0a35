-- What a restart leaves of the moves, step by step.
use Rattle.std.specs.Prelude.{◌≡◌, ◌+◌, ℕ, Bool, true, false, is_some, nat_lt, List, [], ◌∷◌, ◌++◌, length, map, drop, min}
use Rattle.std.specs.Prelude.{Option, Some, Result, Ok, Err}
use Rattle.bosh_asks.specs.declared.fault.BookFault.{BookFault}
use Rattle.bosh_base.specs.History.{Extends, chosen}
use Rattle.bosh_base.specs.declared.entry.Entry.{Entry}
use Rattle.bosh_base.specs.declared.moves.Cause.{Cause}
use Rattle.bosh_base.specs.declared.moves.Cause.TheVariants as causes
use Rattle.bosh_base.specs.declared.moves.Move.TheVariants as moves
use Rattle.bosh_book.specs.Starts.{StartsFrom}
use Rattle.bosh_book.specs.declared.book.Book.{Book}
use Rattle.bosh_cloud.specs.Loading.{IsKept}
use Rattle.bosh_cloud.specs.Notes.{SameFates}
use Rattle.bosh_moves.specs.Found.{kept_at, stop_of}
use Rattle.bosh_moves.specs.Story.{HistoryView, IsOf, IsTold, effects_told, halts, kept_count, story}
use Rattle.bosh_ports.specs.Rigged.{RigState, broken_of, faults_of}
use Rattle.bosh_ports.specs.declared.keeper.Keeper as keeper
use Rattle.bosh_world.specs.Restarts.{HaltsAgain, first_halt, read_count}
use Rattle.bosh_world.specs.Steps.{bodies_of}
use Rattle.bosh_world.specs.declared.fault.SiteFault.{SiteFault}
use Rattle.bosh_world.specs.declared.site.Site.{Site}

-- the site halts, where it has not
pub record Halts (was : HistoryView) (entries effects : List Entry) (now : HistoryView) : Type 0 where
  pub grows : Extends was.moves now.moves
  pub story : story now entries effects ≡ story was entries effects ++ first_halt was.is_halted
  pub same_effects : effects_told now effects ≡ effects_told was effects
  pub is_of : IsOf now entries
  pub halted : now.is_halted ≡ true

-- it has halted, and all that has happened was told
pub record IsAtHalt (history : HistoryView) (entries : List Entry) : Type 0 where
  pub told : IsTold history
  pub all : history.entries ≡ length entries
  pub halted : history.is_halted ≡ true

-- the halt after a restart that was told, or for which there was no memory
abbrev pub halt_after : {T F : Type 0} → Result T F → Option Cause → Option Cause
halt_after (Ok value) halt = halt
halt_after (Err fault) halt = Some (chosen halt causes.Stop)

-- the moves go on with what the restart found, the entries after that, and a halt
pub record GoesAnew (was : HistoryView) (entries effects : List Entry) (kept : Bool) (halt : Option Cause)
    (now : HistoryView) : Type 0 where
  pub grows : Extends was.moves now.moves
  pub story : story now entries effects ≡
      was.moves ++ (moves.Stop (stop_of (kept_at kept entries was.entries) (drop was.effects effects))
      ∷ map moves.Note (drop (min was.entries (length entries) + kept_count (Some kept)) entries) ++ halts halt)
  pub same_effects : effects_told now effects ≡ length effects
  pub is_of : IsOf now entries
  pub halted : now.is_halted ≡ is_some halt

-- an entry is there that was not told
abbrev pub has_kept_entry : {K : Type 0} → HistoryView → Book (RigState K) → Bool
has_kept_entry history book = nat_lt history.entries (read_count book)

-- the book started, over the store that it had, and that is told
pub record BookRestarts {K L : Type 0} {k : keeper.Ghosts K} {l : keeper.Ghosts L}
    (bodies : K → Option (List (List ℕ))) (faults : K → ℕ) (is_broken : K → Bool) (was : Site K L k l)
    (started : Result (Unit {0}) BookFault) (halt : Option Cause) (now : Site K L k l) : Type 0 where
  pub book : StartsFrom (bodies_of bodies) (faults_of faults) (broken_of is_broken) false was.book.journal.store started
      now.book
  pub anew : GoesAnew was.history now.book.journal.entries now.cloud.effects (has_kept_entry was.history now.book) halt now.history
  pub no_calls : now.calls.unsettled ≡ []

-- the same of a book that did not start, or whose start was not told
pub record HaltsAnew {K L : Type 0} {k : keeper.Ghosts K} {l : keeper.Ghosts L}
    (bodies : K → Option (List (List ℕ))) (faults : K → ℕ) (is_broken : K → Bool) (was : Site K L k l)
    (fault : SiteFault) (now : Site K L k l) : Type 0 where
  pub started : Result (Unit {0}) BookFault
  pub cause : Cause
  pub again : HaltsAgain now.book.journal.store.sprung started cause fault
  pub restarts : BookRestarts bodies faults is_broken was started (Some cause) now

-- a store was not read, and nothing was told
pub record StaysUnread {K L : Type 0} {k : keeper.Ghosts K} {l : keeper.Ghosts L} (bodies : L → Option (List (List ℕ)))
    (was now : Site K L k l) : Type 0 where
  pub same_history : now.history ≡ was.history
  pub same_entries : now.book.journal.entries ≡ was.book.journal.entries
  pub same_fates : SameFates was.cloud now.cloud
  pub cloud_kept : IsKept bodies was.cloud → IsKept bodies now.cloud
  pub same_calls : now.calls ≡ was.calls

-- the rest of a site stays where it starts anew
pub record SameTraps {K L : Type 0} {k : keeper.Ghosts K} {l : keeper.Ghosts L} (was now : Site K L k l) : Type 0 where
  pub same_armed : now.traps.items ≡ was.traps.items
  pub same_opening : now.opening ≡ was.opening
