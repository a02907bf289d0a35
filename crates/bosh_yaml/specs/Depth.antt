-- No node lies deeper in a list or mapping than there are nodes in it.
use Rattle.std.specs.Prelude.{ℕ, ◌≤◌, max, List, [], ◌∷◌, map}
use Rattle.std.proofs.Common.{arith}
use denote.Param.Weighed.{most}
use Rattle.bosh_yaml.specs.declared.node.Node.{Node}
use Rattle.bosh_yaml.specs.declared.node.Node.TheVariants.{Null, Bool, Int, Text, List as ListOf, Map as MapOf}
use Rattle.bosh_yaml.specs.declared.node.Items.TheDeep.{deep-Node}
use Rattle.bosh_yaml.specs.declared.node.Items.TheShapes.{weighed-Pairs-entries-at-2}
use Rattle.bosh_yaml.specs.declared.node.Node.TheVariants.{the_data}
use Rattle.bosh_yaml.specs.Code.{node_count, nodes_in_list, nodes_in_pairs}
use Rattle.bosh_yaml.specs.View.{tree_of, pair_of}

deep_le_node_count : (n : Node) → deep-Node n ≤ node_count (tree_of n)
deep_le_node_count Null = omega arith
deep_le_node_count (Bool b) = omega arith
deep_le_node_count (Int n) = omega arith
deep_le_node_count (Text s) = omega arith
deep_le_node_count (ListOf ts) = omega arith
deep_le_node_count (MapOf ps) = omega arith

pub most_le_nodes_in_list : (ns : List Node) → most deep-Node ns ≤ nodes_in_list (map tree_of ns)
most_le_nodes_in_list [] = omega arith
most_le_nodes_in_list (n ∷ ns) = omega (arith, most_le_nodes_in_list ns, deep_le_node_count n)

-- as the check weighs what a mapping holds
abbrev deep_pair : List ℕ × Node → ℕ
deep_pair p = (weighed-Pairs-entries-at-2).weight the_data deep-Node p

pub most_le_nodes_in_pairs : (ps : List (List ℕ × Node)) → most deep_pair ps ≤ nodes_in_pairs (map pair_of ps)
most_le_nodes_in_pairs [] = omega arith
most_le_nodes_in_pairs (p ∷ ps) = omega (arith, most_le_nodes_in_pairs ps, deep_le_node_count p.1)

pub max_zero_le : (m n : ℕ) → m ≤ n → max m 0 ≤ n
max_zero_le m n h = omega arith
