use Rattle.std.proofs.Common.{◌≡◌, ◌+◌, map, drop}
use Rattle.bosh_yaml.specs.Code.{node_count, nodes_in_list, nodes_in_pairs}
use Rattle.bosh_yaml.specs.Tree.{fields_of, trees_of}
use Rattle.bosh_yaml.specs.View.{pair_of, tree_of}
use Rattle.bosh_vars.specs.Size.{size_of_fields, size_of_items}
use Rattle.bosh_vars.proofs.measure.+value.Given as goal

-- how many nodes there are, twice, so that a list comes between the node that it is and its own nodes
abbrev pub decreases-after_value : goal.decreases-after_value
decreases-after_value l = node_count (tree_of l.node.now) + node_count (tree_of l.node.now)

abbrev pub decreases-after_values : goal.decreases-after_values
decreases-after_values l = nodes_in_list l.items.now + nodes_in_list l.items.now + 1

abbrev pub decreases-after_keyed_values : goal.decreases-after_keyed_values
decreases-after_keyed_values l = nodes_in_pairs l.pairs.now + nodes_in_pairs l.pairs.now + 1

-- what is left goes to the nodes that are left
abbrev pub invariant-after_values-loop-node : goal.invariant-after_values-loop-node
invariant-after_values-loop-node l =
    l.room + size_of_items (trees_of (map tree_of l.node-items)) ≡ l.left + size_of_items (trees_of (map tree_of (drop l.node-index l.node-items)))

abbrev pub invariant-after_keyed_values-loop-key : goal.invariant-after_keyed_values-loop-key
invariant-after_keyed_values-loop-key l =
    l.room + size_of_fields (fields_of (map pair_of l.key-items)) ≡ l.left + size_of_fields (fields_of (map pair_of (drop l.key-index l.key-items)))
