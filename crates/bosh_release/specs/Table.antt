-- The places of packages by their names.
use Rattle.std.specs.Prelude.{◌≡◌, ℕ, List, Option, Some, None, if◌then◌else◌}
use Rattle.std.specs.BTreeMap.{BTreeMap, get_by}
use Rattle.std.specs.Cmp.Lexicographic.{slice_cmp}
use Rattle.std.specs.Ordering.{nat_cmp}
use Rattle.std.specs.Str.{bytes_eq}
use denote.Ref.{Bor}
use Rattle.bosh_release.specs.Draft.{place_among}

abbrev pub place_in : BTreeMap (Bor (List ℕ)) ℕ → List ℕ → Option ℕ
place_in table name = get_by (λ k. slice_cmp nat_cmp name k.now) table

-- the table has the place of each name
abbrev pub IsTable : List (List ℕ) → BTreeMap (Bor (List ℕ)) ℕ → Type 0
IsTable names table = (name : List ℕ) → place_in table name ≡ place_among names name

-- what is found of a name, and else the place, where the name is this one
abbrev pub place_with : Option ℕ → List ℕ → ℕ → List ℕ → Option ℕ
place_with (Some found) name place q = Some found
place_with None name place q = if bytes_eq q name then Some place else None
