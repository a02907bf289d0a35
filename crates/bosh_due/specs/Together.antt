-- Commands that are carried out at once: their tasks open in order, then run together, and are told as they end (this
-- project's profile).
use Rattle.std.specs.Prelude.{◌≡◌, ◌&&◌, ◌⊎◌, ◌≤◌, ℕ, Bool, true, false, not, List, [], ◌∷◌, ◌++◌, count_by, filter, find, map}
use Rattle.std.specs.Prelude.{Option, Some, None, option_map, eqb, Result, Ok, Err, if◌then◌else◌}
use Rattle.std.specs.List.{filter_map, list_all, list_any}
use Rattle.bosh_answers.specs.Ends.{told_halt}
use Rattle.bosh_base.specs.declared.entry.Entry.TheVariants as entries
use Rattle.bosh_base.specs.declared.entry.TaskOpen.{TaskOpen}
use Rattle.bosh_base.specs.declared.moves.Cause.{Cause}
use Rattle.bosh_base.specs.declared.moves.Move.{Move}
use Rattle.bosh_base.specs.declared.moves.Move.TheVariants as moves
use Rattle.bosh_base.specs.declared.reply.Refusal.{Refusal}
use Rattle.bosh_base.specs.declared.reply.Reply.{Reply}
use Rattle.bosh_base.specs.declared.reply.Reply.TheVariants as replies
use Rattle.bosh_due.specs.Before.{Before, left_under_way, with_moves}
use Rattle.bosh_due.specs.Commands.{outcome_of}
use Rattle.bosh_due.specs.Ends.{after_command, leaves_under_way}
use Rattle.bosh_due.specs.Files.{FilesRead, tells_shelf_failure}
use Rattle.bosh_due.specs.Generating.{said_reply}
use Rattle.bosh_due.specs.Openings.{DeploysFile}
use Rattle.bosh_due.specs.Outcomes.{Outcome, end_reply, has_ended, is_directors_halt, may_be_left}
use Rattle.bosh_due.specs.Outcomes.Outcome.{Opens, Refuses}
use Rattle.bosh_due.specs.Room.{goes_by_room, leaves_no_call}
use Rattle.bosh_due.specs.UnderWay.{UnderWay}
use Rattle.bosh_due.specs.UnderWay.UnderWay.{working}
use Rattle.bosh_due.specs.Work.{is_work_move}
use Rattle.bosh_history.specs.Words.{holds}
use Rattle.bosh_input.specs.declared.request.Request.{Request}
use Rattle.bosh_line_words.specs.declared.fault.LineFault.{LineFault}
use Rattle.bosh_line_words.specs.declared.fault.LineFault.TheVariants as lines
use Rattle.bosh_lines.specs.Tasks.{opens_task}
use Rattle.bosh_lines.specs.declared.command.Command.{Command}
use Rattle.bosh_lines.specs.declared.command.Command.TheVariants as commands
use Rattle.bosh_refusals.specs.Told.{lines_told}

-- a command, by its number
pub record Numbered : Type 0 where
  pub number : ℕ
  pub request : Request

-- a task that was opened by the command of a number
pub record Running : Type 0 where
  pub number : ℕ
  pub task : ℕ

-- the tasks of several
abbrev pub tasks_of : List Running → List ℕ
tasks_of all = map (λ it. it.task) all

-- ---- the openings

-- a command that opens no task is none of those that are carried out at once
abbrev pub task_outcome : Before → Command → Outcome
task_outcome b command = if opens_task command then outcome_of b command else Refuses (lines_told lines.BadTogether)

-- what is known settles what comes of it
pub record ComesSettled (b : Before) (command : Command) (outcome : Outcome) : Type 0 where
  pub is : outcome ≡ task_outcome b command

-- what may come of a command
abbrev pub ComesBy : Before → FilesRead → Command → Outcome → Type 0
ComesBy b files (commands.Deploy deploy) outcome = DeploysFile b files deploy outcome
ComesBy b files command outcome = ComesSettled b command outcome

-- .. or of a line that is none
abbrev pub ComesAt : Before → FilesRead → Result Command LineFault → Outcome → Type 0
ComesAt b files (Ok command) outcome = ComesBy b files command outcome
ComesAt b files (Err fault) outcome = outcome ≡ Refuses (lines_told fault)

-- what came of it: a reply at once, or a task of a number that is open
pub data Came : Type 0 where
  Told : Reply → Came
  Runs : ℕ → Came

-- it is refused; or the store fails as its task is to open; or that opens
pub data OpensOrTells (outcome : Outcome) (more : List Move) (came : Came) : Type 0 where
  refused :
      (why : Option Refusal) (reply : Reply) → option_map replies.Refused why ≡ Some reply → outcome ≡ Refuses why →
      more ≡ [] → came ≡ Told reply → OpensOrTells outcome more came
  failed :
      (opening : TaskOpen) (cause : Cause) → is_directors_halt cause ≡ true → outcome ≡ Opens opening →
      more ≡ moves.Halt cause ∷ [] → came ≡ Told (told_halt cause) → OpensOrTells outcome more came
  opened :
      (opening : TaskOpen) → outcome ≡ Opens opening → more ≡ moves.Note (entries.TaskOpen opening) ∷ [] →
      came ≡ Runs opening.task → OpensOrTells outcome more came

-- a reply is said at once
abbrev pub said_of : ℕ → Came → List Move
said_of number (Told reply) = said_reply number reply ∷ []
said_of number (Runs task) = []

abbrev pub running_of : ℕ → Came → List Running
running_of number (Told reply) = []
running_of number (Runs task) = record { number = number; task = task } ∷ []

-- one of them: its moves, what is said of it, and what the others make of what it has left
pub record OpensNext
    (Rest : Before → List Move → List Running → UnderWay → Type 0) (files : FilesRead) (b : Before) (it : Numbered)
    (segment : List Move) (running : List Running) (now : UnderWay) : Type 0
  where
    pub outcome : Outcome
    pub came : Came
    pub first : List Move
    pub rest : List Move
    pub others_running : List Running
    pub comes : ComesAt b files it.request.asked outcome
    pub opened : OpensOrTells outcome first came
    pub others : Rest (after_command outcome b first) rest others_running now
    pub is : segment ≡ first ++ (said_of it.number came ++ rest)
    pub all_running : running ≡ running_of it.number came ++ others_running

-- one after the other, each over what those before have left
abbrev pub AreOpened : FilesRead → Before → List Numbered → List Move → List Running → UnderWay → Type 0
AreOpened files b [] segment running now = (segment ≡ []) × (running ≡ []) × (now ≡ b.under_way)
AreOpened files b (it ∷ others) segment running now =
    OpensNext (λ next rest left end. AreOpened files next others rest left end) files b it segment running now

-- .. and the shelf is not told to have failed more often than it has
pub record OpensEach
    (files : FilesRead) (b : Before) (others : List Numbered) (openings : List Move) (running : List Running)
    (now : UnderWay) : Type 0
  where
    pub opened : AreOpened files b others openings running now
    pub few_failures : count_by tells_shelf_failure openings ≤ files.failures

-- ---- the run

abbrev pub makes_no_move : List Move → Bool
makes_no_move [] = true
makes_no_move run = false

-- work of the tasks alone is done; none where there is no task, or the director has halted
abbrev pub is_run : Bool → List ℕ → List Move → Bool
is_run true tasks run = makes_no_move run
is_run false [] run = makes_no_move run
is_run false tasks run = list_all (is_work_move tasks) run

-- no halt comes after the last end: it came in a step of a task that has none
abbrev pub halts_in_work : Before → List ℕ → List Move → Bool
halts_in_work now tasks [] = true
halts_in_work now tasks run = not (now.moment.halted && list_all (has_ended now) tasks)

-- what the run leaves under way
abbrev pub run_leaves : Before → List ℕ → List Move → UnderWay
run_leaves b tasks run = left_under_way b (working tasks) run

-- ---- the ends

-- the task that a move ends
abbrev pub task_ended_by : Move → Option ℕ
task_ended_by (moves.Note (entries.TaskDone task)) = Some task
task_ended_by (moves.Note (entries.TaskError error)) = Some error.task
task_ended_by move = None

abbrev pub ends_running : Move → Running → Bool
ends_running move it = holds (eqb it.task) (task_ended_by move)

abbrev pub ended_at : List Running → Move → Option Running
ended_at all move = find (ends_running move) all

abbrev pub has_no_end : List Move → Running → Bool
has_no_end run it = not (list_any (λ move. ends_running move it) run)

-- first those that have an end, in the order of their ends, then those that have none, in that of their commands
abbrev pub by_end : List Running → List Move → List Running
by_end all run = filter_map (ended_at all) run ++ filter (has_no_end run) all

abbrev pub said_at_end : Before → Running → Move
said_at_end now it = said_reply it.number (end_reply now it.task)

abbrev pub all_said : Before → List Running → List Move → List Move
all_said now running run = map (said_at_end now) (by_end running run)

-- ---- all

-- The command of a number takes others with it. The moves before the replies that come as tasks end are `openings ++
-- run`; a call that began in them has ended, unless the director has halted.
pub record IsTogether
    (b : Before) (files : FilesRead) (number : ℕ) (others : List Numbered) (segment : List Move) (now : UnderWay) :
    Type 0
  where
    pub openings : List Move
    pub running : List Running
    pub opened_under_way : UnderWay
    pub run : List Move
    pub opens : OpensEach files b others openings running opened_under_way
    pub is_its_run : is_run (with_moves b openings opened_under_way).moment.halted (tasks_of running) run ≡ true
    pub by_room : goes_by_room (with_moves b openings opened_under_way) run ≡ true
    pub leaves : now ≡ run_leaves (with_moves b openings opened_under_way) (tasks_of running) run
    pub may_end : list_all (may_be_left (with_moves b (openings ++ run) now)) (tasks_of running) ≡ true
    pub ends_last : halts_in_work (with_moves b (openings ++ run) now) (tasks_of running) run ≡ true
    pub settled : leaves_no_call (with_moves b (openings ++ run) now) ≡ true
    pub is :
        segment ≡ said_reply number replies.Nothing
        ∷ (openings ++ (run ++ all_said (with_moves b (openings ++ run) now) running run))

-- ---- up to an event

-- a task opens, and no work is done for it
abbrev pub MayOpenTask : TaskOpen → List Move → Type 0
MayOpenTask opening [] = Unit {0}
MayOpenTask opening (moves.Halt cause ∷ []) = is_directors_halt cause ≡ true
MayOpenTask opening more = more ≡ moves.Note (entries.TaskOpen opening) ∷ []

abbrev pub MayOpenOnly : Outcome → List Move → Type 0
MayOpenOnly (Opens opening) more = MayOpenTask opening more
MayOpenOnly outcome more = more ≡ []

-- an opening without a reply: it makes nothing, or what may come of it
pub data OpensAtMost (Comes : Outcome → Type 0) (b : Before) (more : List Move) (now : UnderWay) : Type 0 where
  opens_none : more ≡ [] → now ≡ b.under_way → OpensAtMost Comes b more now
  opens_by :
      (outcome : Outcome) → Comes outcome → MayOpenOnly outcome more → now ≡ leaves_under_way outcome b more →
      OpensAtMost Comes b more now

-- the next one may have opened its task, and has no reply
abbrev pub OpensFirst : Before → FilesRead → List Numbered → List Move → UnderWay → Type 0
OpensFirst b files [] last now = (last ≡ []) × (now ≡ b.under_way)
OpensFirst b files (it ∷ left) last now = OpensAtMost (ComesAt b files it.request.asked) b last now

-- it was cut off as its tasks opened
pub record IsCutOpening
    (b : Before) (files : FilesRead) (number : ℕ) (others : List Numbered) (segment : List Move) (now : UnderWay) :
    Type 0
  where
    pub first : List Numbered
    pub left : List Numbered
    pub openings : List Move
    pub running : List Running
    pub opened_under_way : UnderWay
    pub last : List Move
    pub front : others ≡ first ++ left
    pub opens : OpensEach files b first openings running opened_under_way
    pub opens_last : OpensFirst (with_moves b openings opened_under_way) files left last now
    pub is : segment ≡ said_reply number replies.Nothing ∷ (openings ++ last)

-- it was cut off in its run, or as the ends were told; a call that began has ended, unless the director has halted
pub record IsCutRun
    (b : Before) (files : FilesRead) (number : ℕ) (others : List Numbered) (segment : List Move) (now : UnderWay) :
    Type 0
  where
    pub openings : List Move
    pub running : List Running
    pub opened_under_way : UnderWay
    pub run : List Move
    pub ends_told : List Move
    pub ends_left : List Move
    pub opens : OpensEach files b others openings running opened_under_way
    pub is_its_run : is_run (with_moves b openings opened_under_way).moment.halted (tasks_of running) run ≡ true
    pub by_room : goes_by_room (with_moves b openings opened_under_way) run ≡ true
    pub leaves : now ≡ run_leaves (with_moves b openings opened_under_way) (tasks_of running) run
    pub may_end :
        (ends_told ≡ []) ⊎ (list_all (may_be_left (with_moves b (openings ++ run) now)) (tasks_of running) ≡ true)
    pub ends_last : halts_in_work (with_moves b (openings ++ run) now) (tasks_of running) run ≡ true
    pub settled : leaves_no_call (with_moves b (openings ++ run) now) ≡ true
    pub ends : all_said (with_moves b (openings ++ run) now) running run ≡ ends_told ++ ends_left
    pub is : segment ≡ said_reply number replies.Nothing ∷ (openings ++ (run ++ ends_told))
