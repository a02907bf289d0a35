use Rattle.std.proofs.Common.{◌≡◌, ◌≤◌, ◌++◌, filter, length}
use Rattle.std.specs.BTreeMap.{keys}
use Rattle.bosh_ports.specs.Contents.{contents}
use Rattle.bosh_ports.specs.Shelf.{is_below}
use Rattle.bosh_ports.proofs.listing.paths_below.Given as goal

abbrev pub invariant-loop-path : goal.invariant-loop-path
invariant-loop-path g l =
    (goal.iterator-loop-path g).can_next l.path-iterator
    × (goal.iterator-loop-path g).is_finite l.path-iterator
    × (l.paths ++ filter (is_below l.folder) (contents l.path-iterator) ≡ filter (is_below l.folder) (contents (keys l.files)))
    × (length l.paths ≤ 4096)
