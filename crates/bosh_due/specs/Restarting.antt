-- What a restart makes and is told (this project's profile). The stores are those that a permitted session left, or
-- that were empty: no body of them is damaged, and none is told to be.
use Rattle.std.specs.Prelude.{◌≡◌, ◌⊎◌, ℕ, Bool, true, false, Option, Some, None, List, [], ◌∷◌, filter, map, if◌then◌else◌}
use Rattle.bosh_answers.specs.Ends.{told_halt}
use Rattle.bosh_base.specs.Cloud.{numbers_to}
use Rattle.bosh_base.specs.declared.entry.Entry.{Entry}
use Rattle.bosh_base.specs.declared.entry.Entry.TheVariants as entries
use Rattle.bosh_base.specs.declared.failure.Failure.TheVariants.{Interrupted}
use Rattle.bosh_base.specs.declared.moves.Cause.{Cause}
use Rattle.bosh_base.specs.declared.moves.Cause.TheVariants as causes
use Rattle.bosh_base.specs.declared.moves.Move.{Move}
use Rattle.bosh_base.specs.declared.moves.Move.TheVariants as moves
use Rattle.bosh_base.specs.declared.moves.Stop as stop
use Rattle.bosh_base.specs.declared.reply.Reply.{Reply}
use Rattle.bosh_base.specs.declared.reply.Reply.TheVariants.{Restarted}
use Rattle.bosh_due.specs.Before.{Before}
use Rattle.bosh_due.specs.Outcomes.{is_directors_halt}
use Rattle.bosh_due.specs.Room.{has_room_for}
use Rattle.bosh_due.specs.UnderWay.{FindsAsked, UnderWay}
use Rattle.bosh_due.specs.UnderWay.UnderWay.{idle, appending, working}
use Rattle.bosh_history.specs.Held.{is_open}
use Rattle.bosh_history.specs.Known.{Known}
use Rattle.bosh_history.specs.Moments.{stopping}

-- each open task is to end as interrupted, by number
abbrev pub interruption : ℕ → Entry
interruption task = entries.TaskError (record { task = task; cause = Interrupted })

-- all open tasks, by number
abbrev pub interruptions : Known → List Entry
interruptions k = map interruption (filter (is_open k) (numbers_to k.tasks))

-- ---- the moves

-- a director that has not halted halts first: the moves after that
abbrev pub after_halt : Bool → List Move → Option (List Move)
after_halt true more = Some more
after_halt false (moves.Halt causes.Stop ∷ more) = Some more
after_halt false more = None

-- .. and for that cause
abbrev pub halted_for : Before → Option Cause
halted_for b = if b.moment.halted then b.last_halt else Some causes.Stop

-- ---- what is found

-- an entry of a run is found only where there was room for it
abbrev pub keeps_by_room : Before → UnderWay → Option Entry → Bool
keeps_by_room b (working tasks) (Some kept) = has_room_for b kept
keeps_by_room b under kept = true

-- the stop finds nothing but what was under way as the director halted
pub record FindsDue (b : Before) (found : stop.Stop) : Type 0 where
  pub asked : FindsAsked b.under_way b.moment.calls (halted_for b) found
  pub by_room : keeps_by_room b b.under_way found.kept ≡ true

-- ---- what is told

-- a store was not read, since it failed
abbrev pub IsStoreUnread : Reply → Type 0
IsStoreUnread reply = (reply ≡ told_halt causes.Store) ⊎ (reply ≡ told_halt causes.CloudStore)

-- All tasks that were open end as interrupted; or the director halts as one is to: its store fails, or a stop springs.
abbrev pub EndsInterrupted : List Entry → List Move → Reply → Type 0
EndsInterrupted [] [] reply = reply ≡ Restarted
EndsInterrupted (end ∷ due) (moves.Halt cause ∷ []) reply = (is_directors_halt cause ≡ true) × (reply ≡ told_halt cause)
EndsInterrupted (end ∷ due) (move ∷ more) reply = (move ≡ moves.Note end) × EndsInterrupted due more reply
EndsInterrupted due more reply = ⊥

-- the stores are not read; or the stop finds nothing but what was under way, and open tasks end
abbrev pub StartsAt : Before → Option (List Move) → Reply → Type 0
StartsAt b (Some []) reply = IsStoreUnread reply
StartsAt b (Some (moves.Stop stop ∷ more)) reply =
    FindsDue b stop
    × EndsInterrupted (interruptions (stopping b.moment stop).known) more reply
StartsAt b more reply = ⊥

-- .. whether or not a reply comes: for want of memory it stops also behind all of them
abbrev pub MayEndInterrupted : List Entry → List Move → Type 0
MayEndInterrupted [] [] = Unit {0}
MayEndInterrupted [] (moves.Halt causes.Stop ∷ []) = Unit {0}
MayEndInterrupted (end ∷ due) (moves.Halt cause ∷ []) = is_directors_halt cause ≡ true
MayEndInterrupted (end ∷ due) (move ∷ more) = (move ≡ moves.Note end) × MayEndInterrupted due more
MayEndInterrupted due more = ⊥

-- a start, as far as it came
abbrev pub MayStartAt : Before → Option (List Move) → Type 0
MayStartAt b (Some []) = Unit {0}
MayStartAt b (Some (moves.Stop stop ∷ more)) =
    FindsDue b stop
    × MayEndInterrupted (interruptions (stopping b.moment stop).known) more
MayStartAt b more = ⊥

-- ---- what is under way

-- the next task was to end as the director halted
abbrev pub next_interruption : List Entry → List Move → UnderWay
next_interruption (end ∷ due) (moves.Halt cause ∷ []) = appending end
next_interruption (end ∷ due) (move ∷ more) = next_interruption due more
next_interruption due more = idle

-- what a start leaves under way
abbrev pub start_under_way : Before → Option (List Move) → UnderWay
start_under_way b (Some (moves.Stop stop ∷ more)) =
    next_interruption (interruptions (stopping b.moment stop).known) more
start_under_way b more = idle
