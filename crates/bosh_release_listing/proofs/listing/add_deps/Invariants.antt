use Rattle.std.proofs.Common.{ℕ, List, ◌++◌, map, take}
use Rattle.sha2.specs.Hashers.{Holds256}
use Rattle.bosh_release_listing.specs.Lines.{text_of}
use Rattle.bosh_release_listing.specs.Listing.{dep_line}
use Rattle.bosh_release_listing.specs.Parts.{stamp_view}
use Rattle.bosh_release_listing.proofs.listing.add_deps.Given as goal

-- the lines so far are fed
abbrev pub invariant-loop-dep : goal.invariant-loop-dep
invariant-loop-dep l =
    (fed : List ℕ) → Holds256 l.initial.hasher fed
    → Holds256 l.hasher (fed ++ text_of (map dep_line (map stamp_view (take l.dep-index l.deps))))
