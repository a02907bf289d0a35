-- Things in the order of their names.
use Rattle.std.specs.Prelude.{ℕ, List, [], fold}
use Rattle.std.specs.BTreeMap.{insert_entry}
use Rattle.std.specs.Cmp.Lexicographic.{slice_cmp}
use Rattle.std.specs.Ordering.{nat_cmp}

-- things by their names in order, each name once
abbrev pub by_name : {A : Type 0} → List (List ℕ × A) → List (List ℕ × A)
by_name things = fold (λ named it. insert_entry (slice_cmp nat_cmp) named it.0 it.1) [] things
