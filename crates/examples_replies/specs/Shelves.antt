-- What is read of a shelf that does not tell its files, and of one that fails.
use Rattle.std.specs.Prelude.{ℕ, false, List, [], ◌∷◌, codes, None, Ok, Err}
use Rattle.bosh_base.specs.declared.moves.Move.{Move}
use Rattle.bosh_base.specs.declared.reply.Reply.{Reply}
use Rattle.bosh_due.specs.Files.{FilesRead, IsFile, IsFolder}
use Rattle.bosh_due.specs.Generating.{said_reply}
use Rattle.bosh_due.specs.Together.{Numbered, OpensEach}
use Rattle.bosh_due.specs.UnderWay.{UnderWay}
use Rattle.bosh_lines.specs.declared.command.Command.{Command}
use Rattle.bosh_lines.specs.declared.command.Command.TheVariants as commands
use Rattle.bosh_ports.specs.declared.shelf.ShelfFault.TheVariants.{Failed}
use Rattle.bosh_release_files.specs.declared.folder.File.{File}
use Rattle.examples_replies.specs.AtOnce.{asks}
use Rattle.examples_replies.specs.Kept.{file}
use Rattle.examples_replies.specs.Replies.{bare}
use Rattle.examples_replies.specs.Scenes.{no_files, start}
use Rattle.examples_histories.specs.Scenes.{prepared}

abbrev pub folder_file : List ℕ → List ℕ → File
folder_file path bytes = record { path = path; bytes = bytes }

-- a block keeps a file of the folder d, and the shelf does not tell what it has
abbrev pub one_kept : FilesRead
one_kept = record { kept = file (codes "d/a") (codes "1") ∷ []; shelf = None; failures = 0 }

-- the folder is read as these files
abbrev pub ReadsAs : List File → Type 0
ReadsAs found = IsFolder one_kept (codes "d") (Ok found)

-- the shelf failed so often
abbrev pub failed_so_often : ℕ → FilesRead
failed_so_often count = record no_files { shelf = None; failures = count }

abbrev pub MayFail : ℕ → Type 0
MayFail failures = IsFile (failed_so_often failures) (codes "m.yml") (Err Failed)

abbrev pub shelf_failed : Reply
shelf_failed = bare (codes "shelf") (codes "Failed")

-- a file is deployed, without an option
abbrev pub plain_deploy : Command
plain_deploy =
    commands.Deploy (record { dep = codes "dep"; path = codes "m.yml"; vars = []; recreate = false; fix = false })

-- .. by the command of a number
abbrev pub deploy_of_file : ℕ → Numbered
deploy_of_file number = asks number plain_deploy

abbrev pub two_failures : List Move
two_failures = said_reply 5 shelf_failed ∷ said_reply 6 shelf_failed ∷ []

-- both are told that the shelf failed, which did so often
abbrev pub AreToldToFail : ℕ → UnderWay → Type 0
AreToldToFail failures now =
    OpensEach (failed_so_often failures) (start prepared 2) (deploy_of_file 5 ∷ deploy_of_file 6 ∷ []) two_failures []
    now
