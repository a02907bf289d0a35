use Rattle.std.proofs.Common.{◌≡◌, drop}
use Rattle.bosh_release_files.specs.Answer.{each}
use Rattle.bosh_release_files.specs.Pattern.{read_pattern}
use Rattle.bosh_release_files.proofs.EachLemmas.{following}
use Rattle.bosh_release_files.proofs.pattern.read_patterns.Given as goal

-- the patterns so far, and those of the other texts, are those of all texts
abbrev pub invariant-loop-text : goal.invariant-loop-text
invariant-loop-text l =
    each read_pattern l.texts ≡ following l.patterns.items (each read_pattern (drop l.text-index l.texts))
