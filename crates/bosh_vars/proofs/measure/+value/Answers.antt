use Rattle.std.proofs.Common.{◌+◌, ◌<◌, ◌≤◌, map, arith, subst}
use Rattle.bosh_yaml.specs.Code.{node_count, nodes_in_list, nodes_in_pairs}
use Rattle.bosh_yaml.specs.View.{pair_of, tree_of}
use Rattle.bosh_vars.proofs.TreeLemmas.{weight_at, weight_at_key}
use Rattle.bosh_vars.proofs.measure.+value.Goals as goal

pub after_values-after_value-requires : goal.after_values-after_value-requires
after_values-after_value-requires t c =
    let nodes = c.as_slice-node-items.result.now in
    let node = c.node-item.result in
    let within : node_count (tree_of node) ≤ nodes_in_list (map tree_of nodes) = weight_at nodes c.loop-node.node-index node c.loop-node-test.true c.node-item.is in
    let below : node_count (tree_of node) ≤ nodes_in_list c.args.items.now = subst (λ ts. node_count (tree_of node) ≤ nodes_in_list ts) c.as_slice-node-items.ensures within in
    let falls : node_count (tree_of node) + node_count (tree_of node) < t = omega (arith, below, c.decreases) in
    (falls, tt)

pub after_keyed_values-after_value-requires : goal.after_keyed_values-after_value-requires
after_keyed_values-after_value-requires t c =
    let entries = c.as_slice-key-items.result.now in
    let entry = c.loop-key-item.result in
    let within : node_count (tree_of entry.1) ≤ nodes_in_pairs (map pair_of entries) = weight_at_key entries c.loop-key.key-index entry c.loop-key-test.true c.loop-key-item.is in
    let below : node_count (tree_of entry.1) ≤ nodes_in_pairs c.args.pairs.now = subst (λ ps. node_count (tree_of entry.1) ≤ nodes_in_pairs ps) c.as_slice-key-items.ensures.value within in
    let falls : node_count (tree_of entry.1) + node_count (tree_of entry.1) < t = omega (arith, below, c.decreases) in
    (falls, tt)
