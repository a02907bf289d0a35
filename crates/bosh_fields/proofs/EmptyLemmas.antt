-- A list or a mapping that has something is not empty.
use Rattle.std.proofs.Common.{◌≡◌, ℕ, ◌≤◌, false, Some, List, [], ◌∷◌, length, map, refl, arith}
use Rattle.bosh_yaml.specs.Tree.{fields_of, list, map as map_of, trees_of}
use Rattle.bosh_yaml.specs.View.{pair_of, tree_of}
use Rattle.bosh_yaml.specs.declared.node.Node.{Node}
use Rattle.bosh_fields.specs.Empty.{is_empty}

pub some_items :
    (nodes : List Node) → 1 ≤ length nodes → is_empty (Some (list (trees_of (map tree_of nodes)))) ≡ false
some_items [] h = absurd (omega arith)
some_items (node ∷ nodes) h = refl

pub some_fields :
    (pairs : List (List ℕ × Node)) → 1 ≤ length pairs
    → is_empty (Some (map_of (fields_of (map pair_of pairs)))) ≡ false
some_fields [] h = absurd (omega arith)
some_fields (pair ∷ pairs) h = refl
