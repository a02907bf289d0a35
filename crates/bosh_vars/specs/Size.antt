-- How large what filling makes is, told before any of it is made: the bytes of all texts and keys, and 32 for each node.
use Rattle.std.specs.Prelude.{ℕ, ◌+◌, Bool, nat_le, List, [], ◌∷◌, Option, Some, None, length}
use Rattle.bosh_yaml.specs.Tree.{Tree, Trees, Fields, null, boolean, integer, text, list, map, no_trees, tree, no_fields, field}
use Rattle.bosh_vars.specs.Filled.{Values, inner_text, only_name}
use Rattle.bosh_vars.specs.Placeholder.{Part, plain, placeholder, parts}

-- what a node takes beside its texts
abbrev pub node_bytes : ℕ
node_bytes = 32

-- what a filled node may take: 256 MB
abbrev pub most_bytes : ℕ
most_bytes = 268435456

abbrev mutual
  pub size : Tree → ℕ
  size null = node_bytes
  size (boolean b) = node_bytes
  size (integer n) = node_bytes
  size (text s) = node_bytes + length s
  size (list ts) = node_bytes + size_of_items ts
  size (map fs) = node_bytes + size_of_fields fs

  pub size_of_items : Trees → ℕ
  size_of_items no_trees = 0
  size_of_items (tree t ts) = size t + size_of_items ts

  pub size_of_fields : Fields → ℕ
  size_of_fields no_fields = 0
  size_of_fields (field key t fs) = (length key + size t) + size_of_fields fs

-- ---- what a node takes when it is filled; a placeholder for which nothing can stand takes nothing

abbrev pub value_size : Option Tree → ℕ
value_size None = 0
value_size (Some value) = size value

abbrev pub text_size : Option (List ℕ) → ℕ
text_size None = 0
text_size (Some s) = length s

-- of a value inside a longer text
abbrev pub inner_size : Option Tree → ℕ
inner_size None = 0
inner_size (Some value) = text_size (inner_text value)

abbrev pub part_size : Values → Part → ℕ
part_size values (plain b) = 1
part_size values (placeholder name) = inner_size (values name)

abbrev pub joined_text_size : Values → List Part → ℕ
joined_text_size values [] = 0
joined_text_size values (part ∷ rest) = part_size values part + joined_text_size values rest

abbrev pub size_from : Values → Option (List ℕ) → List Part → ℕ
size_from values (Some name) ps = value_size (values name)
size_from values None ps = node_bytes + joined_text_size values ps

abbrev pub filled_text_size : Values → List Part → ℕ
filled_text_size values ps = size_from values (only_name ps) ps

abbrev mutual
  pub filled_size : Values → Tree → ℕ
  filled_size values null = node_bytes
  filled_size values (boolean b) = node_bytes
  filled_size values (integer n) = node_bytes
  filled_size values (text s) = filled_text_size values (parts s)
  filled_size values (list ts) = node_bytes + filled_items_size values ts
  filled_size values (map fs) = node_bytes + filled_fields_size values fs

  pub filled_items_size : Values → Trees → ℕ
  filled_items_size values no_trees = 0
  filled_items_size values (tree t ts) = filled_size values t + filled_items_size values ts

  pub filled_fields_size : Values → Fields → ℕ
  filled_fields_size values no_fields = 0
  filled_fields_size values (field key t fs) = (length key + filled_size values t) + filled_fields_size values fs

-- whether a node may be filled, as far as its size goes
abbrev pub fits : Values → Tree → Bool
fits values t = nat_le (filled_size values t) most_bytes
