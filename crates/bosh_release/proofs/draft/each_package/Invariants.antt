use Rattle.std.proofs.Common.{◌≡◌, drop}
use Rattle.bosh_release_files.proofs.EachLemmas.{following}
use Rattle.bosh_release_files.specs.Answer.{each}
use Rattle.bosh_release.specs.Draft.{package_of}
use Rattle.bosh_release.proofs.draft.each_package.Given as goal

-- the packages so far, and those of the other names, are those of all names
abbrev pub invariant-loop-name : goal.invariant-loop-name
invariant-loop-name l =
    each (package_of l.folder l.sources) l.names
    ≡ following l.packages.items (each (package_of l.folder l.sources) (drop l.name-index l.names))
