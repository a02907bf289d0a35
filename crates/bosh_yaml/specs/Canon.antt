-- The canonical text of a tree: compact JSON (RFC 8259) with each mapping's keys in byte order.
use Rattle.std.specs.Prelude.{ℕ, List}
use Rattle.serde_json.specs.Data as json
use Rattle.serde_json.specs.Find.{of_integer}
use Rattle.serde_json.specs.Written.{compact_text}
use Rattle.bosh_yaml.specs.Tree.{Tree, Trees, Fields, null, boolean, integer, text, list, map, no_trees, tree, no_fields, field}

-- a tree as JSON data, whose objects have their members in the order of their keys
abbrev mutual
  pub data_of : Tree → json.Data
  data_of null = json.null
  data_of (boolean b) = json.boolean b
  data_of (integer n) = json.number (of_integer n)
  data_of (text s) = json.string s
  data_of (list ts) = json.array (data_items ts)
  data_of (map fs) = json.object (data_members fs json.no_members)

  pub data_items : Trees → json.Items
  data_items no_trees = json.no_items
  data_items (tree t ts) = json.item (data_of t) (data_items ts)

  pub data_members : Fields → json.Members → json.Members
  data_members no_fields found = found
  data_members (field k t fs) found = data_members fs (json.put k (data_of t) found)

abbrev pub canon_text : Tree → List ℕ
canon_text t = compact_text (data_of t)
