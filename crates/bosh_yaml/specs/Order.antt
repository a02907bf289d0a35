-- A tree with each mapping's fields in the byte order of their keys, and what the tree of a node always has.
use Rattle.std.specs.Prelude.{ℕ, List, [], ◌∷◌, FitsSigned}
use Rattle.std.specs.Cmp.Lexicographic.{slice_cmp}
use Rattle.std.specs.Int.{w64}
use Rattle.std.specs.List.Sorted.{IsStrictlySortedBy}
use Rattle.std.specs.Ordering.{match_ordering, nat_cmp}
use Rattle.std.specs.Str.{IsUtf8}
use Rattle.bosh_yaml.specs.Limits.{HasEachKeyOnce}
use Rattle.bosh_yaml.specs.Tree.{Tree, Trees, Fields, null, boolean, integer, text, list, map, no_trees, tree, no_fields, field}

-- the fields with one more, before the first of a greater key, or in place of the one of its key
abbrev pub put_field : List ℕ → Tree → Fields → Fields
put_field k t no_fields = field k t no_fields
put_field k t (field l u fs) = match_ordering (slice_cmp nat_cmp k l) (field k t (field l u fs)) (field l t fs) (field l u (put_field k t fs))

-- the tree with the fields of each mapping put one after another where their keys belong
abbrev mutual
  pub in_key_order : Tree → Tree
  in_key_order null = null
  in_key_order (boolean b) = boolean b
  in_key_order (integer n) = integer n
  in_key_order (text s) = text s
  in_key_order (list ts) = list (each_in_key_order ts)
  in_key_order (map fs) = map (put_fields fs no_fields)

  pub each_in_key_order : Trees → Trees
  each_in_key_order no_trees = no_trees
  each_in_key_order (tree t ts) = tree (in_key_order t) (each_in_key_order ts)

  pub put_fields : Fields → Fields → Fields
  put_fields no_fields before = before
  put_fields (field k t fs) before = put_fields fs (put_field k (in_key_order t) before)

abbrev pub keys_of : Fields → List (List ℕ)
keys_of no_fields = []
keys_of (field k t fs) = k ∷ keys_of fs

-- each key of a mapping is below those after it in byte order
abbrev mutual
  pub IsInKeyOrder : Tree → Type 0
  IsInKeyOrder null = Unit {0}
  IsInKeyOrder (boolean b) = Unit {0}
  IsInKeyOrder (integer n) = Unit {0}
  IsInKeyOrder (text s) = Unit {0}
  IsInKeyOrder (list ts) = AreInKeyOrder ts
  IsInKeyOrder (map fs) = IsStrictlySortedBy (slice_cmp nat_cmp) (keys_of fs) × HaveKeyOrder fs

  pub AreInKeyOrder : Trees → Type 0
  AreInKeyOrder no_trees = Unit {0}
  AreInKeyOrder (tree t ts) = IsInKeyOrder t × AreInKeyOrder ts

  pub HaveKeyOrder : Fields → Type 0
  HaveKeyOrder no_fields = Unit {0}
  HaveKeyOrder (field k t fs) = IsInKeyOrder t × HaveKeyOrder fs

-- texts and keys are UTF-8, and integers fit 64 bits
abbrev mutual
  pub IsWritable : Tree → Type 0
  IsWritable null = Unit {0}
  IsWritable (boolean b) = Unit {0}
  IsWritable (integer n) = FitsSigned w64 n
  IsWritable (text s) = IsUtf8 s
  IsWritable (list ts) = AreWritable ts
  IsWritable (map fs) = HaveWritable fs

  pub AreWritable : Trees → Type 0
  AreWritable no_trees = Unit {0}
  AreWritable (tree t ts) = IsWritable t × AreWritable ts

  pub HaveWritable : Fields → Type 0
  HaveWritable no_fields = Unit {0}
  HaveWritable (field k t fs) = IsUtf8 k × IsWritable t × HaveWritable fs

-- what the tree of a node always has
abbrev pub IsOfNode : Tree → Type 0
IsOfNode t = IsWritable t × HasEachKeyOnce t
