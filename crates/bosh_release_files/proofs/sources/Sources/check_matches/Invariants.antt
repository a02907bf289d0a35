use Rattle.std.proofs.Common.{◌≡◌, drop}
use Rattle.bosh_release_files.specs.Answer.{check_each}
use Rattle.bosh_release_files.specs.Pattern.{check_match}
use Rattle.bosh_release_files.proofs.sources.Sources.check_matches.Given as goal

-- what is left to check decides
abbrev pub invariant-loop-pattern : goal.invariant-loop-pattern
invariant-loop-pattern l =
    check_each (check_match l.self) l.patterns ≡ check_each (check_match l.self) (drop l.pattern-index l.patterns)
