use Rattle.std.proofs.Common.{take}
use Rattle.bosh_release.specs.Prints.{ArePrintsOf}
use Rattle.bosh_release.proofs.prints.prints_of.Given as goal

-- the packages so far have their fingerprints
abbrev pub invariant-loop-place : goal.invariant-loop-place
invariant-loop-place l =
    ArePrintsOf l.sources l.draft.packages l.draft.needs (take l.place-index l.order) l.prints.items
