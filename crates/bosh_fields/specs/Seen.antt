-- The names that were seen so far, as a set has them.
use Rattle.std.specs.Prelude.{◌≡◌, ℕ, List}
use Rattle.std.specs.BTreeSet.{BTreeSet, contains}
use Rattle.std.specs.Cmp.Lexicographic.{slice_cmp}
use Rattle.std.specs.Ordering.{nat_cmp}
use Rattle.bosh_base.specs.Plan.{is_listed}

-- the set has these names and no other
abbrev pub HasNames : List (List ℕ) → BTreeSet (List ℕ) → Type 0
HasNames names seen = (name : List ℕ) → contains (slice_cmp nat_cmp) seen name ≡ is_listed name names
