use Rattle.std.proofs.Common.{◌<◌, ◌≤◌, ℕ, take}
use Rattle.bosh_asks.specs.Goals.{AreSound}
use Rattle.bosh_book.proofs.folding.first_unsound.Given as goal

-- up to here they are sound
abbrev pub invariant-loop-count : goal.invariant-loop-count
invariant-loop-count l = (count : ℕ) → 1 ≤ count → count < l.count → AreSound (take count l.releases)
