use Rattle.std.proofs.Common.{◌≡◌, ℕ, List, drop}
use Rattle.bosh_release_files.proofs.EachLemmas.{following}
use Rattle.bosh_release.specs.Draft.{places_of}
use Rattle.bosh_release.specs.Table.{IsTable}
use Rattle.bosh_release.proofs.needs.places_of.Given as goal

-- the places so far, and those of the other names, are those of all names
abbrev pub invariant-loop-name : goal.invariant-loop-name
invariant-loop-name l =
    (names : List (List ℕ)) → IsTable names l.table
    → places_of names l.needs ≡ following l.places.items (places_of names (drop l.name-index l.needs))
