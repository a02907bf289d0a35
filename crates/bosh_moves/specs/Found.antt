-- What a restart finds that no move tells of (this project's profile).
use Rattle.std.specs.Prelude.{ℕ, Bool, true, false, List, Option, Some, None, find, slice_get}
use Rattle.std.specs.List.{filter_map}
use Rattle.bosh_base.specs.declared.entry.Entry.{Entry}
use Rattle.bosh_base.specs.declared.entry.Entry.TheVariants.{Effect, Write, Lost}
use Rattle.bosh_base.specs.declared.moves.Stop as stop

-- the call of an effect
abbrev pub call_of : Entry → Option ℕ
call_of (Effect e) = Some e.n
call_of entry = None

-- a write or a loss
abbrev pub is_written : Entry → Bool
is_written (Write w) = true
is_written (Lost loss) = true
is_written entry = false

-- the entry at a place, where one was kept
abbrev pub kept_at : Bool → List Entry → ℕ → Option Entry
kept_at true entries place = slice_get entries place
kept_at false entries place = None

-- the move of a restart: an entry that was kept, the calls of these effects, and a write or a loss among them
abbrev pub stop_of : Option Entry → List Entry → stop.Stop
stop_of kept effects = record {
  kept = kept;
  took = filter_map call_of effects;
  wrote = find is_written effects;
}
