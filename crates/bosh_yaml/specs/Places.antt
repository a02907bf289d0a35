-- Where the keys of a mapping stand, counted from its front.
use Rattle.std.specs.Prelude.{◌≡◌, ℕ, suc, List, [], ◌∷◌, Option, Some, None, Box, drop}
use Rattle.std.specs.declared.alloc.Global.{Global}
use Rattle.std.specs.BTreeMap.{get, get_by}
use Rattle.std.specs.Cmp.Lexicographic.{slice_cmp}
use Rattle.std.specs.Ordering.{nat_cmp}
use Rattle.bosh_yaml.specs.declared.places.Noted.{Noted}
use Rattle.bosh_yaml.specs.declared.places.Places.{Places}
use Rattle.bosh_yaml.specs.Hash.{hash}
use Rattle.bosh_yaml.specs.Tree.{Tree}

abbrev pub or_else : Option ℕ → Option ℕ → Option ℕ
or_else None other = other
or_else (Some place) other = Some place

-- the place that is noted for a key, by itself or by its hash
abbrev pub place_of : Noted → List ℕ → Option ℕ
place_of noted key =
    or_else (get_by (λ k. slice_cmp nat_cmp key k.items) noted.by_key) (get nat_cmp noted.by_hash (hash key))

abbrev pub place_if : Option (Box Noted Global) → List ℕ → Option ℕ
place_if None key = None
place_if (Some noted) key = place_of noted.value key

abbrev pub place_in : Places → List ℕ → Option ℕ
place_in places = place_if places.noted

-- the place of each key is noted, where the first has this one
abbrev pub ArePlaced : (List ℕ → Option ℕ) → ℕ → List (List ℕ × Tree) → Type 0
ArePlaced place at [] = Unit {0}
ArePlaced place at (p ∷ ps) = (place p.0 ≡ Some at) × ArePlaced place (suc at) ps

-- the place of each key behind so many is noted
pub record IsNoted (places : Places) (few : ℕ) (ps : List (List ℕ × Tree)) : Type 0 where
  pub noted : ArePlaced (place_in places) few (drop few ps)
