-- A tree as a list of signs, the parts before the whole, which gives the tree back; and how large a tree is.
use Rattle.std.specs.Prelude.{◌≡◌, ℕ, zero, suc, ◌+◌, ℤ, pos, true, false, List, [], ◌∷◌, refl}
use Rattle.std.proofs.Common.{◌∙◌, ap}
use Rattle.std.specs.Coded.{Coded, code_by, coded×, coded_list, coded_ℕ, coded_ℤ}
use Rattle.bosh_yaml.specs.Tree.{Tree, Trees, Fields, null, boolean, integer, text, list, map, no_trees, tree, no_fields, field, trees_of, fields_of}

abbrev pub Sign : Type 0
Sign = ℕ × (ℤ × List ℕ)

abbrev pub bare : ℕ → Sign
bare kind = (kind, (pos 0, []))

-- a part of a tree
pub data Part : Type 0 where
  one : Tree → Part
  all : Trees → Part
  keyed : Fields → Part

-- the signs of a tree, before those of what follows it
abbrev mutual
  pub signs : Tree → List Sign → List Sign
  signs null rest = bare 0 ∷ rest
  signs (boolean true) rest = bare 1 ∷ rest
  signs (boolean false) rest = bare 2 ∷ rest
  signs (integer n) rest = (3, (n, [])) ∷ rest
  signs (text s) rest = (4, (pos 0, s)) ∷ rest
  signs (list ts) rest = signs_all ts (bare 5 ∷ rest)
  signs (map fs) rest = signs_keyed fs (bare 6 ∷ rest)

  pub signs_all : Trees → List Sign → List Sign
  signs_all no_trees rest = bare 7 ∷ rest
  signs_all (tree t ts) rest = signs t (signs_all ts (bare 8 ∷ rest))

  pub signs_keyed : Fields → List Sign → List Sign
  signs_keyed no_fields rest = bare 9 ∷ rest
  signs_keyed (field k t fs) rest = signs t (signs_keyed fs ((10, (pos 0, k)) ∷ rest))

abbrev pub as_list : List Part → List Part
as_list (all ts ∷ parts) = one (list ts) ∷ parts
as_list parts = parts

abbrev pub as_map : List Part → List Part
as_map (keyed fs ∷ parts) = one (map fs) ∷ parts
as_map parts = parts

abbrev pub with_item : List Part → List Part
with_item (all ts ∷ one t ∷ parts) = all (tree t ts) ∷ parts
with_item parts = parts

abbrev pub with_field : List ℕ → List Part → List Part
with_field k (keyed fs ∷ one t ∷ parts) = keyed (field k t fs) ∷ parts
with_field k parts = parts

-- the parts after one more sign
abbrev pub after_sign : ℕ → ℤ → List ℕ → List Part → List Part
after_sign zero n s parts = one null ∷ parts
after_sign (suc zero) n s parts = one (boolean true) ∷ parts
after_sign (suc (suc zero)) n s parts = one (boolean false) ∷ parts
after_sign (suc (suc (suc zero))) n s parts = one (integer n) ∷ parts
after_sign (suc (suc (suc (suc zero)))) n s parts = one (text s) ∷ parts
after_sign (suc (suc (suc (suc (suc zero))))) n s parts = as_list parts
after_sign (suc (suc (suc (suc (suc (suc zero)))))) n s parts = as_map parts
after_sign (suc (suc (suc (suc (suc (suc (suc zero))))))) n s parts = all no_trees ∷ parts
after_sign (suc (suc (suc (suc (suc (suc (suc (suc zero)))))))) n s parts = with_item parts
after_sign (suc (suc (suc (suc (suc (suc (suc (suc (suc zero))))))))) n s parts = keyed no_fields ∷ parts
after_sign (suc (suc (suc (suc (suc (suc (suc (suc (suc (suc k)))))))))) n s parts = with_field s parts

abbrev pub parts_of : List Sign → List Part → List Part
parts_of [] parts = parts
parts_of (s ∷ more) parts = parts_of more (after_sign s.0 s.1.0 s.1.1 parts)

abbrev pub whole : List Part → Tree
whole (one t ∷ parts) = t
whole parts = null

mutual
  signs_back : (t : Tree) (rest : List Sign) (parts : List Part) → parts_of (signs t rest) parts ≡ parts_of rest (one t ∷ parts)
  signs_back null rest parts = refl
  signs_back (boolean true) rest parts = refl
  signs_back (boolean false) rest parts = refl
  signs_back (integer n) rest parts = refl
  signs_back (text s) rest parts = refl
  signs_back (list ts) rest parts = signs_all_back ts (bare 5 ∷ rest) parts
  signs_back (map fs) rest parts = signs_keyed_back fs (bare 6 ∷ rest) parts

  signs_all_back : (ts : Trees) (rest : List Sign) (parts : List Part) → parts_of (signs_all ts rest) parts ≡ parts_of rest (all ts ∷ parts)
  signs_all_back no_trees rest parts = refl
  signs_all_back (tree t ts) rest parts = signs_back t (signs_all ts (bare 8 ∷ rest)) parts ∙ signs_all_back ts (bare 8 ∷ rest) (one t ∷ parts)

  signs_keyed_back : (fs : Fields) (rest : List Sign) (parts : List Part) → parts_of (signs_keyed fs rest) parts ≡ parts_of rest (keyed fs ∷ parts)
  signs_keyed_back no_fields rest parts = refl
  signs_keyed_back (field k t fs) rest parts = signs_back t (signs_keyed fs ((10, (pos 0, k)) ∷ rest)) parts ∙ signs_keyed_back fs ((10, (pos 0, k)) ∷ rest) (one t ∷ parts)

pub tree_back : (t : Tree) → whole (parts_of (signs t []) []) ≡ t
tree_back t = ap whole (signs_back t [] [])

abbrev pub tree_code : Coded Tree
tree_code =
    code_by (List Sign) (coded_list (coded× coded_ℕ (coded× coded_ℤ (coded_list coded_ℕ)))) (λ t. signs t []) (λ ss. whole (parts_of ss [])) tree_back

-- how many nodes stand in a tree
abbrev mutual
  pub node_count : Tree → ℕ
  node_count null = 1
  node_count (boolean b) = 1
  node_count (integer n) = 1
  node_count (text s) = 1
  node_count (list ts) = suc (nodes_in_trees ts)
  node_count (map fs) = suc (nodes_in_fields fs)

  pub nodes_in_trees : Trees → ℕ
  nodes_in_trees no_trees = 0
  nodes_in_trees (tree t ts) = node_count t + nodes_in_trees ts

  pub nodes_in_fields : Fields → ℕ
  nodes_in_fields no_fields = 0
  nodes_in_fields (field k t fs) = node_count t + nodes_in_fields fs

abbrev pub nodes_in_list : List Tree → ℕ
nodes_in_list ts = nodes_in_trees (trees_of ts)

abbrev pub nodes_in_pairs : List (List ℕ × Tree) → ℕ
nodes_in_pairs ps = nodes_in_fields (fields_of ps)
