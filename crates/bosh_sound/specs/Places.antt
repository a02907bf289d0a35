-- Names as texts, and the places of names among them.
use Rattle.std.specs.Prelude.{◌≡◌, ℕ, ◌<◌, List, [], All, length, map, slice_index_or}
use denote.Ref.{Bor}
use Rattle.bosh_base.specs.declared.release.PackageSpec.{PackageSpec}
use Rattle.bosh_release_order.specs.Graph.{Graph}

abbrev pub texts_of : List (Bor (List ℕ)) → List (List ℕ)
texts_of names = map (λ name. name.now) names

abbrev pub name_at : List (List ℕ) → ℕ → List ℕ
name_at names place = slice_index_or names place []

-- the places of some names, each within
pub record ArePlaces (names wanted : List (List ℕ)) (places : List ℕ) : Type 0 where
  pub named : map (name_at names) places ≡ wanted
  pub within : All (λ place. place < length names) places

-- the places of the packages that each package needs
pub record IsGraphOf (names : List (List ℕ)) (packages : List PackageSpec) (graph : Graph) : Type 0 where
  pub named : map (map (name_at names)) graph ≡ map (λ pack. pack.deps) packages
  pub within : All (All (λ place. place < length names)) graph
