-- What the reply of a command is to say that is carried out alone, what the command may make, and what it leaves under
-- way (this project's profile). The moves `more` are those of the command: they come after those before it, and before
-- its reply. A command that takes others along or stands for others has a turn of its own, and no reply here.
use Rattle.std.specs.Prelude.{◌≡◌, List, [], Result, Ok, Err}
use Rattle.bosh_base.specs.declared.moves.Move.{Move}
use Rattle.bosh_base.specs.declared.reply.Reply.{Reply}
use Rattle.bosh_due.specs.Before.{Before, before_of}
use Rattle.bosh_due.specs.Commands.{outcome_of}
use Rattle.bosh_due.specs.Ends.{EndsLeaving, EndsIn, Makes, MayEndLeaving, MayMake, Meets, leaves_under_way}
use Rattle.bosh_due.specs.Files.{FilesRead}
use Rattle.bosh_due.specs.Openings.{DeploysFile}
use Rattle.bosh_due.specs.Outcomes.Outcome.{Refuses}
use Rattle.bosh_due.specs.UnderWay.{UnderWay}
use Rattle.bosh_due.specs.Uploads.{Configures, UploadsFolder}
use Rattle.bosh_history.specs.Moments.{Opening}
use Rattle.bosh_input.specs.declared.request.Request.{Request}
use Rattle.bosh_line_words.specs.declared.fault.LineFault.{LineFault}
use Rattle.bosh_lines.specs.declared.command.Command.{Command}
use Rattle.bosh_lines.specs.declared.command.Command.TheVariants as commands
use Rattle.bosh_refusals.specs.Told.{lines_told}

-- ---- a command that nothing but what is known settles

-- it ends as what is known has it
pub record IsSettled (b : Before) (command : Command) (more : List Move) (reply : Reply) (now : UnderWay) : Type 0 where
  pub ends : EndsIn (outcome_of b command) b more reply
  pub is_left : now ≡ leaves_under_way (outcome_of b command) b more

-- .. whether or not a reply comes
pub record MakesSettled (b : Before) (command : Command) (more : List Move) (now : UnderWay) : Type 0 where
  pub may_make : MayMake (outcome_of b command) b more
  pub is_left : now ≡ leaves_under_way (outcome_of b command) b more

-- nothing is made
pub record MakesNone (b : Before) (more : List Move) (now : UnderWay) : Type 0 where
  pub none : more ≡ []
  pub stays : now ≡ b.under_way

-- ---- all

-- the reply is what the command is to be told after these moves, which leave this under way
abbrev pub DueBy : Before → FilesRead → Command → List Move → Reply → UnderWay → Type 0
DueBy b files (commands.UploadRelease folder version) more reply now =
    Meets (UploadsFolder b files folder version) b more reply now
DueBy b files (commands.UpdateCloudConfig path) more reply now = Meets (Configures b files path) b more reply now
DueBy b files (commands.Deploy deploy) more reply now = Meets (DeploysFile b files deploy) b more reply now
DueBy b files (commands.Together count) more reply now = ⊥
DueBy b files (commands.Generate instances) more reply now = ⊥
DueBy b files command more reply now = IsSettled b command more reply now

-- what is wrong with a line is told before all else
abbrev pub DueAt : Before → FilesRead → Result Command LineFault → List Move → Reply → UnderWay → Type 0
DueAt b files (Ok command) more reply now = DueBy b files command more reply now
DueAt b files (Err fault) more reply now = EndsLeaving (Refuses (lines_told fault)) b more reply now

-- after moves that left this under way
abbrev pub Due : Opening → List Move → UnderWay → Request → FilesRead → List Move → Reply → UnderWay → Type 0
Due o said under request files more reply now = DueAt (before_of o said under) files request.asked more reply now

-- ---- what is asked

-- The moves are those that the command asks for, where no reply comes: a release, a stemcell, a config, a task that
-- opens, a write, a loss or a restart is its own, and it has one at most.
abbrev pub MakesBy : Before → FilesRead → Command → List Move → UnderWay → Type 0
MakesBy b files (commands.UploadRelease folder version) more now =
    Makes (UploadsFolder b files folder version) b more now
MakesBy b files (commands.UpdateCloudConfig path) more now = Makes (Configures b files path) b more now
MakesBy b files (commands.Deploy deploy) more now = Makes (DeploysFile b files deploy) b more now
MakesBy b files (commands.Together count) more now = MakesNone b more now
MakesBy b files (commands.Generate instances) more now = MakesNone b more now
MakesBy b files command more now = MakesSettled b command more now

-- .. or what a line makes that is no command
abbrev pub MakesAt : Before → FilesRead → Result Command LineFault → List Move → UnderWay → Type 0
MakesAt b files (Ok command) more now = MakesBy b files command more now
MakesAt b files (Err fault) more now = MayEndLeaving (Refuses (lines_told fault)) b more now

-- after moves that left this under way
abbrev pub MakesOnly : Opening → List Move → UnderWay → Request → FilesRead → List Move → UnderWay → Type 0
MakesOnly o said under request files more now = MakesAt (before_of o said under) files request.asked more now
