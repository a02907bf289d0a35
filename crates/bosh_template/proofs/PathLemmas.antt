-- The keys of a dotted name.
use Rattle.std.proofs.Common.{◌≡◌, ℕ, List, [], ◌∷◌, Option, Some, None, refl, ap, ◌∙◌, inl, inr, eq-eqb, ne_eqb}
use Rattle.std.proofs.lemmas.Bool.{cases_eq}
use Rattle.bosh_yaml.specs.Keys.{value_of_key}
use Rattle.bosh_yaml.specs.Tree.{Tree}
use Rattle.bosh_template.specs.Reading.{Read, with_first, cut_at}
use Rattle.bosh_template.specs.Setting.{path_of, with_byte, at_path}

-- the keys of a name, by its cut at the first dot
keys_by : List ℕ → Read (List ℕ) → List (List ℕ)
keys_by name None = name ∷ []
keys_by name (Some read) = read.0 ∷ path_of read.1

with_byte-keys : (b : ℕ) (name : List ℕ) (read : Read (List ℕ)) → with_byte b (keys_by name read) ≡ keys_by (b ∷ name) (with_first b read)
unfolding keys_by
with_byte-keys b name None = refl
with_byte-keys b name (Some read) = refl

path_of-cut : (name : List ℕ) → path_of name ≡ keys_by name (cut_at 46 name)
unfolding keys_by
path_of-cut [] = refl
path_of-cut (b ∷ name) = elim (cases_eq b 46) [
  | inl same ↦ rw (eq-eqb b 46 same)
  | inr other ↦ rw (ne_eqb b 46 other) (ap (with_byte b) (path_of-cut name) ∙ with_byte-keys b name (cut_at 46 name))
]

-- a key and the rest of the path
pub at_path-more : (name : List ℕ) (read : List ℕ × List ℕ) (from : Option Tree) (t : Tree) → from ≡ Some t → cut_at 46 name ≡ Some read → at_path (path_of name) from ≡ at_path (path_of read.1) (value_of_key read.0 t)
unfolding keys_by
at_path-more name read from t is h = ap (λ n. at_path (path_of name) n) is ∙ ap (λ path. at_path path (Some t)) (path_of-cut name ∙ ap (keys_by name) h)

-- the last key
pub at_path-last : (name : List ℕ) (t : Tree) → cut_at 46 name ≡ None → at_path (path_of name) (Some t) ≡ value_of_key name t
unfolding keys_by
at_path-last name t h = ap (λ path. at_path path (Some t)) (path_of-cut name ∙ ap (keys_by name) h)

pub at_path-none : (path : List (List ℕ)) → at_path path None ≡ None
at_path-none [] = refl
at_path-none (key ∷ path) = refl
