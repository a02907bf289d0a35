-- What may come of a command: of each kind the moves that it makes, and what it is then told (this project's profile).
use Rattle.std.specs.Prelude.{◌≡◌, ◌&&◌, ◌||◌, ℕ, Bool, true, false, Option, Some, None, is_some, List, [], ◌∷◌, codes}
use Rattle.std.specs.Prelude.{if◌then◌else◌}
use Rattle.std.specs.List.{list_all}
use Rattle.std.specs.Option.{unwrap_or}
use Rattle.bosh_answers.specs.Ends.{told_end, told_halt}
use Rattle.bosh_base.specs.declared.entry.Entry.{Entry}
use Rattle.bosh_base.specs.declared.entry.Entry.TheVariants as entries
use Rattle.bosh_base.specs.declared.entry.TaskOpen.{TaskOpen}
use Rattle.bosh_base.specs.declared.moves.Cause.{Cause}
use Rattle.bosh_base.specs.declared.moves.Cause.TheVariants as causes
use Rattle.bosh_base.specs.declared.moves.Move.{Move}
use Rattle.bosh_base.specs.declared.moves.Move.TheVariants as moves
use Rattle.bosh_base.specs.declared.reply.Refusal.{Refusal}
use Rattle.bosh_base.specs.declared.reply.Reply.{Reply}
use Rattle.bosh_base.specs.declared.reply.Reply.TheVariants.{Refused}
use Rattle.bosh_base.specs.declared.task.TaskEnd.{TaskEnd}
use Rattle.bosh_due.specs.Before.{Before, is_out_of_room}
use Rattle.bosh_due.specs.Room.{goes_by_room, leaves_no_call, with_move}
use Rattle.bosh_due.specs.Work.{is_work_move}
use Rattle.bosh_history.specs.Held.{is_open}
use Rattle.bosh_history.specs.Steps.{has_no_call}
use Rattle.bosh_refusals.specs.Refused.{bare_refusal}

-- what may come of a command
pub data Outcome : Type 0 where
  -- it is refused, and nothing is done; a refusal that is not told is want of memory, after which no reply comes
  Refuses : Option Refusal → Outcome
  -- it is answered, and nothing is done
  Answers : Reply → Outcome
  -- an entry is noted, and that is told
  Notes : Entry → Reply → Outcome
  -- the cloud is changed by a move, which is an entry of its store, and that is told
  Changes : Move → Entry → Reply → Outcome
  -- a task opens and is carried to its end
  Opens : TaskOpen → Outcome
  -- the director starts anew
  Restarts : Outcome

-- a director that has halted refuses, for the first time here
abbrev pub unless_halted : Before → Outcome → Outcome
unless_halted b outcome =
    if b.moment.halted then Refuses (Some (bare_refusal (codes "book") (codes "Stopped"))) else outcome

-- ---- halts

-- the director's store failed, or a stop sprang in it
abbrev pub is_directors_halt : Cause → Bool
is_directors_halt causes.CloudStore = false
is_directors_halt cause = true

-- the cloud's store failed
abbrev pub is_clouds_halt : Cause → Bool
is_clouds_halt causes.CloudStore = true
is_clouds_halt cause = false

-- One move is made, and the good reply given; or the store fails in it, which is told.
abbrev pub MakesMove : (Cause → Bool) → Move → Reply → List Move → Reply → Type 0
MakesMove halts move good (moves.Halt cause ∷ []) reply = (halts cause ≡ true) × (reply ≡ told_halt cause)
MakesMove halts move good more reply = (more ≡ move ∷ []) × (reply ≡ good)

-- ---- tasks

-- no more entries are noted
abbrev pub full_reply : Reply
full_reply = Refused (bare_refusal (codes "book") (codes "Full"))

-- a task without an end: the director halted in the run, or there was no room
abbrev pub left_reply : Before → Reply
left_reply now = if now.moment.halted then told_halt (unwrap_or now.last_halt causes.Stop) else full_reply

-- how a task of several ended that ran together, or why it has no end
abbrev pub told_by : Option TaskEnd → Before → ℕ → Reply
told_by (Some end) now task = told_end task end
told_by None now task = left_reply now

-- how a task is told
abbrev pub end_reply : Before → ℕ → Reply
end_reply now task = told_by (now.moment.known.task task).end now task

-- a task is left without an end only where the director halted, or where there was no room and each of its calls has ended
abbrev pub may_be_left : Before → ℕ → Bool
may_be_left now task =
    if is_open now.moment.known task
    then now.moment.halted || (is_out_of_room now && has_no_call now.moment task) else true

-- the task has an end
abbrev pub has_ended : Before → ℕ → Bool
has_ended now task = is_some (now.moment.known.task task).end

-- the task that was to open has opened, and its work alone was done since, where there was room for it; a call that began
-- has ended, unless the director has halted; its end is told
pub record RunsTask (b : Before) (due opened : TaskOpen) (run : List Move) (now : Before) (reply : Reply) : Type 0 where
  pub is_due : opened ≡ due
  pub is_its_work : list_all (is_work_move (due.task ∷ [])) run ≡ true
  pub by_room : goes_by_room (with_move b (moves.Note (entries.TaskOpen opened))) run ≡ true
  pub may_end : may_be_left now due.task ≡ true
  -- no halt comes after its end
  pub ends_last : (now.moment.halted && has_ended now due.task) ≡ false
  pub settled : leaves_no_call now ≡ true
  pub told : reply ≡ end_reply now due.task

-- the first move opens it
abbrev pub RunsTaskFrom : Before → TaskOpen → Before → Move → List Move → Reply → Type 0
RunsTaskFrom b due now (moves.Note (entries.TaskOpen opened)) run reply = RunsTask b due opened run now reply
RunsTaskFrom b due now move run reply = ⊥

-- .. or the store failed as it was to open
abbrev pub OpensAndRuns : Before → TaskOpen → Before → List Move → Reply → Type 0
OpensAndRuns b due now [] reply = ⊥
OpensAndRuns b due now (moves.Halt cause ∷ []) reply = (is_directors_halt cause ≡ true) × (reply ≡ told_halt cause)
OpensAndRuns b due now (move ∷ run) reply = RunsTaskFrom b due now move run reply
