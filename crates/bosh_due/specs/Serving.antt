-- What a director does, whatever it is over: it is loaded; it notes replies; it answers a command; it opens its task; it
-- carries tasks to their ends (this project's profile). The moves `was` are those before, and `now` those after; `under` is
-- what was under way before, and `left` what is after. `MayFind` says of the director before, and `MayFindNow` of the one
-- after, that its stores tell what they hold, and that a restart finds nothing in them but what is under way. A director
-- that is ready stays so.
use Rattle.std.specs.Prelude.{◌≡◌, ◌++◌, true, false, ℕ, List, [], ◌∷◌, IfOk, OnErr, OnOk, Result}
use Rattle.std.specs.List.{list_all}
use Rattle.bosh_answers.specs.declared.files.KeptFile.{KeptFile}
use Rattle.bosh_base.specs.declared.moves.Move.{Move}
use Rattle.bosh_base.specs.declared.reply.Reply.{Reply}
use Rattle.bosh_due.specs.Before.{Before, HasSettledCalls, before_of}
use Rattle.bosh_due.specs.Commands.{asks_alone}
use Rattle.bosh_due.specs.Due.{Due, MakesNone, MakesOnly}
use Rattle.bosh_due.specs.Ends.{Makes, Meets, leaves_under_way}
use Rattle.bosh_due.specs.Files.{FilesRead}
use Rattle.bosh_due.specs.Generating.{said_reply}
use Rattle.bosh_due.specs.InTurn.{loaded_moves}
use Rattle.bosh_due.specs.Outcomes.{Outcome, end_reply, may_be_left}
use Rattle.bosh_due.specs.Room.{goes_by_room}
use Rattle.bosh_due.specs.Together.{Came, ComesAt, OpensAtMost, OpensOrTells, halts_in_work, is_run, run_leaves}
use Rattle.bosh_due.specs.Turns.{kept_after}
use Rattle.bosh_due.specs.UnderWay.{UnderWay}
use Rattle.bosh_due.specs.UnderWay.UnderWay.{idle}
use Rattle.bosh_history.specs.Moments.{Opening}
use Rattle.bosh_input.specs.declared.request.Request.{Request}

-- no call is open on a director that goes on, and its stores hold what is under way at most
pub record IsReady (MayFind : UnderWay → Type 0) (o : Opening) (was : List Move) (under : UnderWay) : Type 0 where
  pub settled : HasSettledCalls (before_of o was under)
  pub may_find : MayFind under

-- ---- the load, and replies

-- A director is loaded: the tasks that it finds open end, and nothing is under way, which holds of stores that tell what
-- they hold.
pub record IsLoaded (Tells : Type 0) (MayFindNow : UnderWay → Type 0) (o : Opening) (now : List Move) (left : UnderWay) :
    Type 0
  where
    pub ends : now ≡ loaded_moves o
    pub rests : left ≡ idle
    pub may_find : Tells → MayFindNow left

-- The reply of the command of a number is noted, and nothing else happens; for want of memory it is not.
pub record SaysReply {T F : Type 0} (MayFind MayFindNow : UnderWay → Type 0) (was : List Move) (under : UnderWay)
    (number : ℕ) (reply : Reply) (result : Result T F) (now : List Move) (left : UnderWay) : Type 0 where
  pub said : OnOk result (now ≡ was ++ said_reply number reply ∷ [])
  pub unsaid : OnErr result (now ≡ was)
  pub stays : left ≡ under
  pub may_find : MayFind under → MayFindNow left

-- ---- commands

-- A command is carried out and answered; for want of memory no reply comes, and nothing is done but what it asks for.
-- One that takes others along or stands for others is left to the session. `kept` are the files that blocks kept before,
-- and `keeps` those after.
pub record AnswersCommand {F : Type 0} (MayFind MayFindNow : UnderWay → Type 0) (o : Opening) (was : List Move)
    (under : UnderWay) (request : Request) (kept : List KeptFile) (files : FilesRead) (result : Result Reply F)
    (now : List Move) (left : UnderWay) (keeps : List KeptFile) : Type 0 where
  pub more : List Move
  pub comes : now ≡ was ++ more
  pub due :
      IsReady MayFind o was under → asks_alone request.asked ≡ true →
      IfOk result (λ reply. Due o was under request files more reply left)
  pub only :
      IsReady MayFind o was under → asks_alone request.asked ≡ true →
      OnErr result (MakesOnly o was under request files more left)
  pub none : asks_alone request.asked ≡ false → MakesNone (before_of o was under) more left
  pub ready : IsReady MayFind o was under → IsReady MayFindNow o now left
  pub finds : files.kept ≡ kept
  pub file : OnOk result (keeps ≡ kept_after request kept)

-- the same of what a command stands for
pub record AnswersAsked {F : Type 0} (Comes : Before → Outcome → Type 0) (MayFind MayFindNow : UnderWay → Type 0)
    (o : Opening) (was : List Move) (under : UnderWay) (result : Result Reply F) (now : List Move) (left : UnderWay) :
    Type 0
  where
    pub more : List Move
    pub comes : now ≡ was ++ more
    pub due :
        IsReady MayFind o was under →
        IfOk result (λ reply. Meets (Comes (before_of o was under)) (before_of o was under) more reply left)
    pub only :
        IsReady MayFind o was under →
        OnErr result (Makes (Comes (before_of o was under)) (before_of o was under) more left)
    pub ready : IsReady MayFind o was under → IsReady MayFindNow o now left

-- the task of a command opens, or it is refused
pub record OpensAs
    (b : Before) (request : Request) (files : FilesRead) (more : List Move) (left : UnderWay) (came : Came) : Type 0
  where
    pub outcome : Outcome
    pub comes : ComesAt b files request.asked outcome
    pub opened : OpensOrTells outcome more came
    pub is_left : left ≡ leaves_under_way outcome b more

-- .. or for want of memory nothing comes of it, and no work is done for its task
pub record OpensTaskOf {F : Type 0} (MayFind MayFindNow : UnderWay → Type 0) (o : Opening) (was : List Move)
    (under : UnderWay) (request : Request) (kept : List KeptFile) (files : FilesRead) (result : Result Came F)
    (now : List Move) (left : UnderWay) : Type 0 where
  pub more : List Move
  pub comes : now ≡ was ++ more
  pub opens : IfOk result (OpensAs (before_of o was under) request files more left)
  pub only :
      OnErr result
      (OpensAtMost (ComesAt (before_of o was under) files request.asked) (before_of o was under) more left)
  pub ready : IsReady MayFind o was under → IsReady MayFindNow o now left
  pub finds : files.kept ≡ kept

-- tasks that are open are carried to their ends; one is left where the director halts or has no room
pub record CarriesTasksOut {T F : Type 0} (MayFind MayFindNow : UnderWay → Type 0) (o : Opening) (was : List Move)
    (under : UnderWay) (tasks : List ℕ) (result : Result T F) (now : List Move) (left : UnderWay) : Type 0 where
  pub run : List Move
  pub comes : now ≡ was ++ run
  pub work : is_run (before_of o was under).moment.halted tasks run ≡ true
  pub by_room : IsReady MayFind o was under → goes_by_room (before_of o was under) run ≡ true
  pub leaves : left ≡ run_leaves (before_of o was under) tasks run
  pub may_end :
      IsReady MayFind o was under → OnOk result (list_all (may_be_left (before_of o now left)) tasks ≡ true)
  pub ends_last : halts_in_work (before_of o now left) tasks run ≡ true
  pub ready : IsReady MayFind o was under → IsReady MayFindNow o now left

-- how one of them is told
abbrev pub TellsEnd : Opening → List Move → UnderWay → ℕ → Reply → Type 0
TellsEnd o now left task reply = reply ≡ end_reply (before_of o now left) task
