-- What a director that nothing was done with does first: it is loaded, keeps a file, and notes a reply.
use Rattle.std.specs.Prelude.{◌≡◌, List, [], codes, Some, Ok}
use Rattle.bosh_answers.specs.declared.files.KeptFile.{KeptFile}
use Rattle.bosh_base.specs.declared.moves.Move.{Move}
use Rattle.bosh_base.specs.declared.reply.Reply.TheVariants as replies
use Rattle.bosh_due.specs.Files.{FilesRead}
use Rattle.bosh_due.specs.Serving.{AnswersCommand, IsLoaded, SaysReply}
use Rattle.bosh_due.specs.Together.{Numbered}
use Rattle.bosh_due.specs.UnderWay.{UnderWay}
use Rattle.bosh_due.specs.UnderWay.UnderWay.{idle}
use Rattle.bosh_history.specs.Moments.{nothing}
use Rattle.bosh_lines.specs.declared.command.Command.TheVariants as commands

-- the first line keeps a file of one byte
abbrev pub keeps_one : Numbered
keeps_one = record { number = 1; request = record { asked = Ok (commands.File (codes "a")); block = codes "1" } }

-- what blocks kept, and an empty shelf
abbrev pub found_of : List KeptFile → FilesRead
found_of kept = record { kept = kept; shelf = Some []; failures = 0 }

-- nothing is under way, and a restart finds nothing
abbrev pub IsIdle : UnderWay → Type 0
IsIdle under = under ≡ idle

-- a restart may find what is not under way
abbrev pub MayFindMore : UnderWay → Type 0
MayFindMore under = ⊥

-- a director is loaded from stores that tell what they hold, makes these moves, and this is under way
abbrev pub IsLoadedSo : (UnderWay → Type 0) → List Move → UnderWay → Type 0
IsLoadedSo MayFindNow now left = IsLoaded (Unit {0}) MayFindNow nothing now left

-- these files are kept after it, it found those, and a restart then finds so much
abbrev pub KeepsFinding : (UnderWay → Type 0) → List KeptFile → List KeptFile → Type 0
KeepsFinding MayFindNow found keeps =
    AnswersCommand {F = List Move} IsIdle MayFindNow nothing [] idle keeps_one.request [] (found_of found)
    (Ok replies.Nothing) [] idle keeps

abbrev pub Keeps : List KeptFile → List KeptFile → Type 0
Keeps found keeps = KeepsFinding IsIdle found keeps

-- that the command of number 1 prints nothing is noted, and this is under way
abbrev pub IsNotedSo : List Move → UnderWay → Type 0
IsNotedSo now left =
    SaysReply {T = List Move} {F = List Move} IsIdle IsIdle [] idle 1 replies.Nothing (Ok []) now left
