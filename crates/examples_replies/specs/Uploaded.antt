-- A release is uploaded whose files a block keeps, whatever they spell.
use Rattle.std.specs.Prelude.{◌≡◌, true, List, [], ◌∷◌, codes, Ok}
use Rattle.bosh_base.specs.Version.{is_version}
use Rattle.bosh_base.specs.declared.entry.Entry.TheVariants as entries
use Rattle.bosh_base.specs.declared.moves.Move.TheVariants.{Note}
use Rattle.bosh_base.specs.declared.release.Release.{Release}
use Rattle.bosh_base.specs.declared.reply.Reply.{Reply}
use Rattle.bosh_due.specs.Due.{DueBy}
use Rattle.bosh_due.specs.Files.{FilesRead}
use Rattle.bosh_due.specs.UnderWay.{UnderWay}
use Rattle.bosh_due.specs.Uploads.{GoesWith}
use Rattle.bosh_lines.specs.declared.command.Command.TheVariants as commands
use Rattle.bosh_release.specs.Collected.{Collects}
use Rattle.bosh_release_files.specs.declared.folder.File.{File}
use Rattle.examples_replies.specs.Kept.{file, going_on}
use Rattle.examples_replies.specs.Served.{found_of}
use Rattle.examples_replies.specs.Shelves.{folder_file}

-- a block keeps the one file of the folder d
abbrev pub kept_folder : FilesRead
kept_folder = found_of (file (codes "d/a") (codes "1") ∷ [])

-- files spell this release, which goes with no other one
pub record SpellNew (files : List File) (r : Release) : Type 0 where
  pub collects : Collects files (codes "1") (Ok r)
  pub version : is_version r.version ≡ true
  pub fits : GoesWith [] r

-- .. and so does that file
abbrev pub IsSpelled : Release → Type 0
IsSpelled r = SpellNew (folder_file (codes "a") (codes "1") ∷ []) r

-- over these files the folder is uploaded, a release is noted, and that is told
abbrev pub UploadEnds : FilesRead → Release → Reply → UnderWay → Type 0
UploadEnds files r reply now =
    DueBy going_on files (commands.UploadRelease (codes "d") (codes "1")) (Note (entries.Release r) ∷ []) reply now
