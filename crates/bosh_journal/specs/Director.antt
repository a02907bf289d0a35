-- Which entries stand in the store of a director.
use Rattle.std.specs.Prelude.{Bool, true, false}
use Rattle.bosh_base.specs.declared.entry.Entry.{Entry}
use Rattle.bosh_base.specs.declared.entry.Entry.TheVariants.{Snapshot, Effect, Write, Lost}

-- one of the director's: what was done to the cloud stands in the cloud's store (this project's profile)
abbrev pub is_directors : Entry → Bool
is_directors (Effect e) = false
is_directors (Write w) = false
is_directors (Lost l) = false
is_directors entry = true

-- one that stands for a whole list (this project's profile)
abbrev pub is_snapshot : Entry → Bool
is_snapshot (Snapshot s) = true
is_snapshot entry = false
