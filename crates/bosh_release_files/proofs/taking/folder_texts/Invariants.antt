use Rattle.std.proofs.Common.{◌≡◌, ℕ, List, take}
use Rattle.std.specs.List.{list_any}
use Rattle.bosh_release_files.specs.Pattern.{is_that}
use Rattle.bosh_release_files.specs.Sources.{folder_text, has}
use Rattle.bosh_release_files.proofs.taking.folder_texts.Given as goal

-- the texts so far
abbrev pub invariant-loop-pattern : goal.invariant-loop-pattern
invariant-loop-pattern l =
    (q : List ℕ) → has l.texts q ≡ list_any (λ pattern. is_that q (folder_text pattern.form)) (take l.pattern-index l.patterns)
