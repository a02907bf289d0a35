use Rattle.std.proofs.Common.{◌≡◌, drop}
use Rattle.bosh_book.specs.Folds.{place_from, place_of_release}
use Rattle.bosh_book.proofs.folding.place_of_release.Given as goal

-- it comes with one of those that are left
abbrev pub invariant-loop-place : goal.invariant-loop-place
invariant-loop-place l = place_from l.place (drop l.place l.entries) l.left ≡ place_of_release l.entries l.number
