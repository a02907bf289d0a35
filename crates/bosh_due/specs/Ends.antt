-- How a command ends that comes to an outcome: the moves that it makes, its reply, and what it leaves under way; and
-- the moves that it may make also where no reply comes, for want of memory (this project's profile).
use Rattle.std.specs.Prelude.{◌≡◌, ◌&&◌, false, true, Bool, List, [], ◌∷◌, Some, option_map}
use Rattle.std.specs.List.{list_all}
use Rattle.bosh_base.specs.declared.entry.Entry.TheVariants as entries
use Rattle.bosh_base.specs.declared.entry.TaskOpen.{TaskOpen}
use Rattle.bosh_base.specs.declared.moves.Cause.{Cause}
use Rattle.bosh_base.specs.declared.moves.Move.{Move}
use Rattle.bosh_base.specs.declared.moves.Move.TheVariants as moves
use Rattle.bosh_base.specs.declared.reply.Reply.{Reply}
use Rattle.bosh_base.specs.declared.reply.Reply.TheVariants.{Refused}
use Rattle.bosh_due.specs.Before.{Before, left_under_way, with_moves}
use Rattle.bosh_due.specs.Outcomes.{MakesMove, OpensAndRuns, Outcome, has_ended, is_clouds_halt, is_directors_halt}
use Rattle.bosh_due.specs.Outcomes.Outcome.{Answers, Changes, Notes, Opens, Refuses, Restarts}
use Rattle.bosh_due.specs.Restarting.{MayStartAt, StartsAt, after_halt, start_under_way}
use Rattle.bosh_due.specs.Room.{goes_by_room, leaves_no_call, with_move}
use Rattle.bosh_due.specs.UnderWay.{UnderWay}
use Rattle.bosh_due.specs.UnderWay.UnderWay.{altering, idle, appending, working}
use Rattle.bosh_due.specs.Work.{is_work_move}

-- ---- what is under way

-- the task was to open, or was open, as the director halted
abbrev pub opening_under_way : TaskOpen → List Move → UnderWay
opening_under_way opening (moves.Halt cause ∷ []) = appending (entries.TaskOpen opening)
opening_under_way opening more = working (opening.task ∷ [])

-- what these moves of a command were about as they ended
abbrev pub command_under_way : Outcome → Before → List Move → UnderWay
command_under_way (Notes entry good) b more = appending entry
command_under_way (Changes move entry good) b more = altering entry
command_under_way (Opens opening) b more = opening_under_way opening more
command_under_way Restarts b more = start_under_way b (after_halt b.moment.halted more)
command_under_way outcome b more = idle

-- what they leave under way
abbrev pub leaves_under_way : Outcome → Before → List Move → UnderWay
leaves_under_way outcome b more = left_under_way b (command_under_way outcome b more) more

-- what is known and done after them
abbrev pub after_command : Outcome → Before → List Move → Before
after_command outcome b more = with_moves b more (leaves_under_way outcome b more)

-- ---- the reply

-- the moves of each outcome, and its reply
abbrev pub EndsIn : Outcome → Before → List Move → Reply → Type 0
EndsIn (Refuses why) b more reply = (more ≡ []) × (option_map Refused why ≡ Some reply)
EndsIn (Answers answer) b more reply = (more ≡ []) × (reply ≡ answer)
EndsIn (Notes entry good) b more reply = MakesMove is_directors_halt (moves.Note entry) good more reply
EndsIn (Changes move entry good) b more reply = MakesMove is_clouds_halt move good more reply
EndsIn (Opens opening) b more reply = OpensAndRuns b opening (after_command (Opens opening) b more) more reply
EndsIn Restarts b more reply = StartsAt b (after_halt b.moment.halted more) reply

-- .. with what is under way then
pub record EndsLeaving (outcome : Outcome) (b : Before) (more : List Move) (reply : Reply) (now : UnderWay) : Type 0
  where
    pub ends : EndsIn outcome b more reply
    pub is_left : now ≡ leaves_under_way outcome b more

-- ---- what a command may make

-- one move at most, or a halt for such a cause
abbrev pub MakesAtMost : (Cause → Bool) → Move → List Move → Type 0
MakesAtMost halts move [] = Unit {0}
MakesAtMost halts move (moves.Halt cause ∷ []) = halts cause ≡ true
MakesAtMost halts move more = more ≡ move ∷ []

-- the task that was to open has opened, and its work alone was done since, where there was room for it; a call that began
-- has ended, unless the director has halted
pub record MayRunTask (b : Before) (due opened : TaskOpen) (run : List Move) (now : Before) : Type 0 where
  pub is_due : opened ≡ due
  pub is_its_work : list_all (is_work_move (due.task ∷ [])) run ≡ true
  pub by_room : goes_by_room (with_move b (moves.Note (entries.TaskOpen opened))) run ≡ true
  -- no halt comes after its end
  pub ends_last : (now.moment.halted && has_ended now due.task) ≡ false
  pub settled : leaves_no_call now ≡ true

-- the first move opens the task
abbrev pub MayRunFrom : Before → TaskOpen → Before → Move → List Move → Type 0
MayRunFrom b due now (moves.Note (entries.TaskOpen opened)) run = MayRunTask b due opened run now
MayRunFrom b due now move run = ⊥

-- the task opens, and its work alone is done, up to what is known and done now
abbrev pub MayOpenAndRun : Before → TaskOpen → Before → List Move → Type 0
MayOpenAndRun b due now [] = Unit {0}
MayOpenAndRun b due now (moves.Halt cause ∷ []) = is_directors_halt cause ≡ true
MayOpenAndRun b due now (move ∷ run) = MayRunFrom b due now move run

-- nothing is done, or a restart is begun
abbrev pub MayRestart : Before → List Move → Type 0
MayRestart b [] = Unit {0}
MayRestart b more = MayStartAt b (after_halt b.moment.halted more)

-- the moves of each outcome, as far as they came
abbrev pub MayMake : Outcome → Before → List Move → Type 0
MayMake (Refuses why) b more = more ≡ []
MayMake (Answers answer) b more = more ≡ []
MayMake (Notes entry good) b more = MakesAtMost is_directors_halt (moves.Note entry) more
MayMake (Changes move entry good) b more = MakesAtMost is_clouds_halt move more
MayMake (Opens opening) b more = MayOpenAndRun b opening (after_command (Opens opening) b more) more
MayMake Restarts b more = MayRestart b more

-- .. with what is under way then
pub record MayEndLeaving (outcome : Outcome) (b : Before) (more : List Move) (now : UnderWay) : Type 0 where
  pub may_make : MayMake outcome b more
  pub is_left : now ≡ leaves_under_way outcome b more

-- ---- outcomes of which there is one among several

-- an outcome that may come, and its end
pub record Meets (Comes : Outcome → Type 0) (b : Before) (more : List Move) (reply : Reply) (now : UnderWay) : Type 0
  where
    pub outcome : Outcome
    pub comes : Comes outcome
    pub ends : EndsLeaving outcome b more reply now

-- .. and what it may make, or nothing
pub data Makes (Comes : Outcome → Type 0) (b : Before) (more : List Move) (now : UnderWay) : Type 0 where
  makes_none : more ≡ [] → now ≡ b.under_way → Makes Comes b more now
  makes_by : (outcome : Outcome) → Comes outcome → MayEndLeaving outcome b more now → Makes Comes b more now
