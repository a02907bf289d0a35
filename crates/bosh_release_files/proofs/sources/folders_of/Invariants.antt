use Rattle.std.proofs.Common.{◌≡◌, ℕ, List, take}
use Rattle.std.specs.List.{list_any}
use Rattle.bosh_release_files.specs.Pattern.{lies_in}
use Rattle.bosh_release_files.specs.Sources.{has, path_of}
use Rattle.bosh_release_files.proofs.sources.folders_of.Given as goal

abbrev pub invariant-loop-file : goal.invariant-loop-file
invariant-loop-file l = (q : List ℕ) → has l.folders q ≡ list_any (λ file. lies_in q (path_of file)) (take l.file-index l.files)
