-- Which paths a shelf over a folder of the system looks at: those that cannot lead out of the folder.
use Rattle.std.specs.Prelude.{◌≡◌, ◌≢◌, ℕ, ◌==◌, Bool, false, List, [], ◌∷◌, nat_eq, IsUtf8, bytes_eq}
use Rattle.std.specs.List.{list_any, slice_split, starts_with}
use Rattle.bosh_ports.specs.Shelf.{has_line_feed}

-- one of the parts between the slashes of the path is `..`, the name of the folder above
abbrev pub has_parent : List ℕ → Bool
has_parent path = list_any (λ part. bytes_eq part (46 ∷ 46 ∷ [])) (slice_split (λ byte. byte == 47) path)

-- a byte 0 stands in the path, at which the system would end it
abbrev pub has_nul : List ℕ → Bool
has_nul path = list_any (λ byte. byte == 0) path

-- the path is a text that names a place below the folder: not empty, not from the root, never upward, of one line
pub record IsInside (path : List ℕ) : Type 0 where
  pub text : IsUtf8 path
  pub named : path ≢ []
  pub relative : starts_with nat_eq path (47 ∷ []) ≡ false
  pub downward : has_parent path ≡ false
  pub one_line : has_line_feed path ≡ false
  pub whole : has_nul path ≡ false
