use Rattle.std.proofs.Common.{◌≡◌, ◌+◌, ◌++◌, map, drop}
use Rattle.bosh_yaml.specs.Code.{node_count, nodes_in_list, nodes_in_pairs}
use Rattle.bosh_yaml.specs.Keys.{HasDistinctKeys}
use Rattle.bosh_yaml.specs.Tree.{fields_of, trees_of}
use Rattle.bosh_yaml.specs.View.{pair_of, tree_of}
use Rattle.bosh_vars.specs.Filled.{filled_fields, filled_items}
use Rattle.bosh_vars.specs.Table.{found_in}
use Rattle.bosh_vars.proofs.TreeLemmas.{fields_behind, items_behind}
use Rattle.bosh_vars.proofs.filling.+fill.Given as goal

-- how many nodes there are, twice, so that a list comes between the node that it is and its own nodes
abbrev pub decreases-fill_node : goal.decreases-fill_node
decreases-fill_node l = node_count (tree_of l.node.now) + node_count (tree_of l.node.now)

abbrev pub decreases-fill_items : goal.decreases-fill_items
decreases-fill_items l = nodes_in_list l.items.now + nodes_in_list l.items.now + 1

abbrev pub decreases-fill_pairs : goal.decreases-fill_pairs
decreases-fill_pairs l = nodes_in_pairs l.pairs.now + nodes_in_pairs l.pairs.now + 1

-- what is left, behind what is filled, fills to the whole
abbrev pub invariant-fill_items-loop-node : goal.invariant-fill_items-loop-node
invariant-fill_items-loop-node l =
    items_behind l.filled (filled_items (found_in l.values) (trees_of (map tree_of (drop l.node-index l.node-items)))) ≡ filled_items (found_in l.values) (trees_of (map tree_of l.node-items))

-- the same of keys and values, and no key stands twice
abbrev pub invariant-fill_pairs-loop-key : goal.invariant-fill_pairs-loop-key
invariant-fill_pairs-loop-key l =
    (HasDistinctKeys (l.filled ++ map pair_of (drop l.key-index l.key-items))) × (fields_behind l.filled (filled_fields (found_in l.values) (fields_of (map pair_of (drop l.key-index l.key-items)))) ≡ filled_fields (found_in l.values) (fields_of (map pair_of l.key-items)))
