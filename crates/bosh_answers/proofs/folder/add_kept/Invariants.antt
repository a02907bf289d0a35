use Rattle.std.proofs.Common.{◌≡◌, ◌++◌, drop}
use Rattle.bosh_answers.specs.Files.{kept_below}
use Rattle.bosh_answers.proofs.folder.add_kept.Given as goal

-- those so far, and those of the others
abbrev pub invariant-loop-file : goal.invariant-loop-file
invariant-loop-file l =
    l.found.items ++ kept_below l.folder (drop l.file-index l.file-items) ≡ l.fn.found.items ++ kept_below l.folder l.files
