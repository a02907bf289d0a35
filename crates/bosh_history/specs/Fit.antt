-- What a director may be loaded on: nothing, or what a session left that began on such a pair (this project's profile).
use Rattle.std.specs.Prelude.{◌≡◌, ◌⊎◌, ◌&&◌, Bool, true, false, None, List, [], ◌∷◌, map, nat_le}
use Rattle.bosh_base.specs.declared.entry.Entry.{Entry}
use Rattle.bosh_base.specs.declared.entry.Entry.TheVariants as entries
use Rattle.bosh_base.specs.declared.entry.TaskOpen.{TaskOpen}
use Rattle.bosh_base.specs.declared.moves.Move.{Move}
use Rattle.bosh_base.specs.declared.moves.Move.TheVariants as moves
use Rattle.bosh_base.specs.declared.snapshot.Snapshot.{Snapshot}
use Rattle.bosh_base.specs.declared.task.TaskRow.{TaskRow}
use Rattle.bosh_history.specs.Known.{Known}
use Rattle.bosh_history.specs.Learn.{known_of}
use Rattle.bosh_history.specs.Moments.{Opening, durable, effects_of, nothing}
use Rattle.bosh_history.specs.Notes.{Outside}
use Rattle.bosh_history.specs.Permitted.{IsRun}
use Rattle.bosh_history.specs.Snapshots.{snapshot_of}

-- ---- what stands for the durable entries

-- a task without what the older format has not: its source, and how many calls began
abbrev pub plain_row : TaskRow → TaskRow
plain_row it = record it { source = None; calls = None }

abbrev pub plain : Snapshot → Snapshot
plain s = record s { tasks = map plain_row s.tasks }

-- a task that opens without its source, which the older format has not
abbrev pub plain_opening : TaskOpen → TaskOpen
plain_opening o = record o { source = None }

abbrev pub plain_entry : Entry → Entry
plain_entry (entries.TaskOpen o) = entries.TaskOpen (plain_opening o)
plain_entry (entries.Snapshot s) = entries.Snapshot (plain s)
plain_entry entry = entry

-- an entry is stored as it was written, or in the older format
abbrev pub IsStoredAs : Entry → Entry → Type 0
IsStoredAs stored written = (stored ≡ written) ⊎ (stored ≡ plain_entry written)

-- the same entries one after another, each as it was written or in the older format
abbrev pub AreStoredAs : List Entry → List Entry → Type 0
AreStoredAs [] [] = Unit {0}
AreStoredAs (entry ∷ stored) (it ∷ written) = IsStoredAs entry it × AreStoredAs stored written
AreStoredAs stored written = ⊥

-- One snapshot of all that was written, and nothing behind it: a snapshot of a front of it would forget that a call has
-- begun whose end comes behind it.
abbrev pub AreShortened : List Entry → List Entry → Type 0
AreShortened (entry ∷ []) written = IsStoredAs entry (entries.Snapshot (snapshot_of (known_of written)))
AreShortened stored written = ⊥

-- The entries of a store stand for those that were made durable: they are these, or one snapshot of all of these, which
-- a load puts in their place before anything is noted behind it.
abbrev pub StandFor : List Entry → List Entry → Type 0
StandFor stored written = AreStoredAs stored written ⊎ AreShortened stored written

-- ---- what a session leaves

abbrev pub ends_stopped : List Move → Bool
ends_stopped [] = false
ends_stopped (moves.Stop s ∷ []) = true
ends_stopped (move ∷ more) = ends_stopped more

-- no call and no task has a greater number than 2 ^ 62: no more are made then
abbrev pub has_numbers : Known → Bool
has_numbers k = nat_le k.last_call 4611686018427387904 && nat_le k.tasks 4611686018427387904

-- a session that is permitted, and ends with a stop, leaves the pair
pub record LeavesPair (outside : Outside) (o : Opening) (session : List Move) (next : Opening) : Type 0 where
  pub is_run : IsRun outside o session
  pub stopped : ends_stopped session ≡ true
  pub entries : StandFor next.entries (durable o session)
  pub effects : next.effects ≡ effects_of o session
  pub has_numbers : has_numbers (known_of next.entries) ≡ true

-- both stores are empty, or a session that began on a fit pair left them
pub data IsFit (outside : Outside) : Opening → Type 0 where
  empty : IsFit outside nothing
  left : (o next : Opening) (session : List Move) → IsFit outside o → LeavesPair outside o session next →
      IsFit outside next
