use Rattle.std.proofs.Common.{◌≡◌, drop, map, take}
use Rattle.serde_json.specs.Data.{no_members}
use Rattle.serde_json.specs.View.{members_view, view}
use Rattle.bosh_yaml.specs.Canon.{data_members, data_of}
use Rattle.bosh_yaml.specs.Order.{IsOfNode}
use Rattle.bosh_yaml.specs.SpelledBlock.{Each}
use Rattle.bosh_yaml.specs.Tree.{fields_of}
use Rattle.bosh_yaml.specs.View.{pair_of, tree_of}
use Rattle.bosh_yaml.proofs.NodeTreeLemmas.{IsPairOfNode}
use Rattle.bosh_yaml.proofs.canonical.+canon.Given as goal

abbrev pub invariant-members_of-loop-key : goal.invariant-members_of-loop-key
invariant-members_of-loop-key l =
    (data_members (fields_of (map pair_of (drop l.key-index l.key-items))) (members_view l.members.entries) ≡ data_members (fields_of (map pair_of l.key-items)) no_members)
    × (Each IsPairOfNode (map pair_of (drop l.key-index l.key-items)) → Each IsPairOfNode (map pair_of l.key-items))

abbrev pub invariant-values_of-loop-node : goal.invariant-values_of-loop-node
invariant-values_of-loop-node l =
    (map view l.values.items ≡ map (λ n. data_of (tree_of n)) (take l.node-index l.node-items))
    × (Each IsOfNode (map tree_of (drop l.node-index l.node-items)) → Each IsOfNode (map tree_of l.node-items))
