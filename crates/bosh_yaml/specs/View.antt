-- What contracts see of a node: its tree.
use Rattle.std.specs.Prelude.{ℕ, List}
use Rattle.bosh_yaml.specs.declared.node.Node.{Node}
use Rattle.bosh_yaml.specs.declared.node.Node.TheVariants.{Null, Bool, Int, Text, List as ListOf, Map as MapOf}
use Rattle.bosh_yaml.specs.Tree.{Tree, null, boolean, integer, text, list, map, trees_of, fields_of}

-- the tree of a node
abbrev pub tree_of : Node → Tree
tree_of Null = null
tree_of (Bool b) = boolean b
tree_of (Int n) = integer n
tree_of (Text s) = text s
tree_of (ListOf ts) = list (trees_of ts)
tree_of (MapOf ps) = map (fields_of ps)

-- a key and the tree of its value
abbrev pub pair_of : List ℕ × Node → List ℕ × Tree
pair_of p = (p.0, tree_of p.1)
