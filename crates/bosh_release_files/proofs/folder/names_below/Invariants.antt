use Rattle.std.proofs.Common.{◌≡◌, take}
use Rattle.bosh_release_files.specs.Files.{folders_below}
use Rattle.bosh_release_files.proofs.folder.names_below.Given as goal

abbrev pub invariant-loop-file : goal.invariant-loop-file
invariant-loop-file l = l.names.keys ≡ folders_below l.front (take l.file-index l.files)
