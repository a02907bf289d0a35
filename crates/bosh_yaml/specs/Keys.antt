-- Keys of a mapping, in their written order, and what stands at a key.
use Rattle.std.specs.Prelude.{◌≡◌, ℕ, Bool, false, ◌||◌, List, [], ◌∷◌, Option, Some, None, if◌then◌else◌}
use Rattle.std.specs.Str.{bytes_eq}
use Rattle.bosh_yaml.specs.Tree.{Tree, Fields, null, boolean, integer, text, list, map, no_fields, field}

-- whether a key is one of these
abbrev pub has_key : List ℕ → List (List ℕ × Tree) → Bool
has_key key [] = false
has_key key (p ∷ ps) = bytes_eq p.0 key || has_key key ps

-- no key stands twice
abbrev pub HasDistinctKeys : List (List ℕ × Tree) → Type 0
HasDistinctKeys [] = Unit {0}
HasDistinctKeys (p ∷ ps) = (has_key p.0 ps ≡ false) × HasDistinctKeys ps

-- the value at a key; the first, where the key stands twice
abbrev pub value_at : List ℕ → List (List ℕ × Tree) → Option Tree
value_at key [] = None
value_at key (p ∷ ps) = if bytes_eq p.0 key then Some p.1 else value_at key ps

-- the value at a key of a mapping of a tree
abbrev pub field_value : List ℕ → Fields → Option Tree
field_value key no_fields = None
field_value key (field k t fs) = if bytes_eq k key then Some t else field_value key fs

-- the value at a key of a node, None where the node is no mapping or has no such key
abbrev pub value_of_key : List ℕ → Tree → Option Tree
value_of_key key null = None
value_of_key key (boolean b) = None
value_of_key key (integer n) = None
value_of_key key (text s) = None
value_of_key key (list ts) = None
value_of_key key (map fs) = field_value key fs
