use Rattle.std.proofs.Common.{◌≡◌, ℕ, List, drop}
use Rattle.bosh_release_files.proofs.EachLemmas.{following}
use Rattle.bosh_release_files.specs.Answer.{each}
use Rattle.bosh_release.specs.Draft.{needs_of}
use Rattle.bosh_release.specs.Table.{IsTable}
use Rattle.bosh_release.proofs.needs.all_needs.Given as goal

-- the needs so far, and those of the other packages, are those of all packages
abbrev pub invariant-loop-package : goal.invariant-loop-package
invariant-loop-package l =
    (names : List (List ℕ)) → IsTable names l.table
    → each (needs_of names) l.packages
    ≡ following l.needs.items (each (needs_of names) (drop l.package-index l.packages))
