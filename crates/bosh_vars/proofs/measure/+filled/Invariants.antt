use Rattle.std.proofs.Common.{◌≡◌, ◌+◌, map, drop}
use Rattle.bosh_yaml.specs.Code.{node_count, nodes_in_list, nodes_in_pairs}
use Rattle.bosh_yaml.specs.Tree.{fields_of, trees_of}
use Rattle.bosh_yaml.specs.View.{pair_of, tree_of}
use Rattle.bosh_vars.specs.Size.{filled_fields_size, filled_items_size}
use Rattle.bosh_vars.specs.Table.{found_in}
use Rattle.bosh_vars.proofs.measure.+filled.Given as goal

-- how many nodes there are, twice, so that a list comes between the node that it is and its own nodes
abbrev pub decreases-after_filled : goal.decreases-after_filled
decreases-after_filled l = node_count (tree_of l.node.now) + node_count (tree_of l.node.now)

abbrev pub decreases-after_items : goal.decreases-after_items
decreases-after_items l = nodes_in_list l.items.now + nodes_in_list l.items.now + 1

abbrev pub decreases-after_pairs : goal.decreases-after_pairs
decreases-after_pairs l = nodes_in_pairs l.pairs.now + nodes_in_pairs l.pairs.now + 1

-- what is left goes to the nodes that are left
abbrev pub invariant-after_items-loop-node : goal.invariant-after_items-loop-node
invariant-after_items-loop-node l =
    l.room + filled_items_size (found_in l.values) (trees_of (map tree_of l.node-items)) ≡ l.left + filled_items_size (found_in l.values) (trees_of (map tree_of (drop l.node-index l.node-items)))

abbrev pub invariant-after_pairs-loop-key : goal.invariant-after_pairs-loop-key
invariant-after_pairs-loop-key l =
    l.room + filled_fields_size (found_in l.values) (fields_of (map pair_of l.key-items)) ≡ l.left + filled_fields_size (found_in l.values) (fields_of (map pair_of (drop l.key-index l.key-items)))
