use Rattle.std.proofs.Common.{◌≡◌, map, take}
use Rattle.bosh_release_files.specs.Files.{folder_of_files}
use Rattle.bosh_release_files.specs.Sources.{entry_seen}
use Rattle.bosh_release_files.proofs.folder.Folder.of.Given as goal

abbrev pub invariant-loop-file : goal.invariant-loop-file
invariant-loop-file l = map entry_seen l.table.entries ≡ folder_of_files (take l.file-index l.files)
