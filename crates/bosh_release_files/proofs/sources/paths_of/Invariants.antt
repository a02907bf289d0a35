use Rattle.std.proofs.Common.{◌≡◌, ℕ, List, take}
use Rattle.std.specs.List.{list_any}
use Rattle.std.specs.Str.{bytes_eq}
use Rattle.bosh_release_files.specs.Sources.{has, path_of}
use Rattle.bosh_release_files.proofs.sources.paths_of.Given as goal

abbrev pub invariant-loop-file : goal.invariant-loop-file
invariant-loop-file l = (q : List ℕ) → has l.paths q ≡ list_any (λ file. bytes_eq q (path_of file)) (take l.file-index l.files)
