use Rattle.std.proofs.Common.{◌≡◌, ◌∙◌, ap, map, sym, List, subst, ℕ}
use Rattle.bosh_yaml.specs.declared.node.Node.{Node}
use Rattle.serde_json.specs.Data.{no_members}
use Rattle.serde_json.specs.View.{items_of}
use Rattle.bosh_yaml.specs.Canon.{data_of, data_items, data_members}
use Rattle.bosh_yaml.specs.Keys.{HasDistinctKeys}
use Rattle.bosh_yaml.specs.Order.{IsOfNode}
use Rattle.bosh_yaml.specs.Tree.{fields_of, list, map as map_tree, trees_of}
use Rattle.bosh_yaml.specs.View.{pair_of, tree_of}
use Rattle.bosh_yaml.proofs.CanonLemmas.{items_of-map, member_more, take_all, value_more}
use Rattle.bosh_yaml.proofs.NodeTreeLemmas.{each_done, each_more, IsPairOfNode, list_of_node, map_of_node}
use Rattle.bosh_yaml.proofs.canonical.+canon.Goals as goal

pub members_of-loop-key-preserved : goal.members_of-loop-key-preserved
members_of-loop-key-preserved t c =
    let l = c.loop-key in
    let items = c.deref-key-items.result.now in (
      member_more (data_members (fields_of (map pair_of items)) no_members) items l.key-index c.loop-key-item.result l.members.entries c.insert.new.self.entries c.in_ok-key.key c.in_ok-value_of.field-0 c.loop-key-test.true c.loop-key-item.is l.invariant.0 c.in_ok-insert.ensures.entries c.in_ok-key.ensures.text c.in_ok-value_of.ensures.as_data,
      each_more IsPairOfNode pair_of items l.key-index c.loop-key-item.result c.loop-key-test.true c.loop-key-item.is l.invariant.1 (c.in_ok-key.ensures.utf8, c.in_ok-value_of.ensures.of_node),
    )

pub members_of-returns-clause-of_node : goal.members_of-returns-clause-of_node
members_of-returns-clause-of_node t c =
    let l = c.loop-key in
    let items = c.deref-key-items.result.now in
    let same : map pair_of items ≡ c.args.pairs.now = ap (λ (es : List (List ℕ × Node)). map pair_of es) c.deref-key-items.ensures.value ∙ c.pairs.view_is in
    let distinct = subst (λ (es : List (List ℕ × Node)). HasDistinctKeys (map pair_of es)) (sym c.deref-key-items.ensures.value) c.pairs.invariant.0 in
    subst (λ ps. IsOfNode (map_tree (fields_of ps))) same (map_of_node (map pair_of items) distinct (each_done IsPairOfNode pair_of items l.key-index c.loop-key-test.false l.invariant.1))

pub values_of-loop-node-preserved : goal.values_of-loop-node-preserved
values_of-loop-node-preserved t c =
    let l = c.loop-node in
    let nodes = c.deref-node-items.result.now in (
      value_more l.values.items c.push.new.self.items c.in_ok-value_of.field-0 nodes l.node-index c.node-item.result c.loop-node-test.true c.node-item.is l.invariant.0 c.in_ok-push.ensures.items c.in_ok-value_of.ensures.as_data,
      each_more IsOfNode tree_of nodes l.node-index c.node-item.result c.loop-node-test.true c.node-item.is l.invariant.1 c.in_ok-value_of.ensures.of_node,
    )

pub values_of-returns : goal.values_of-returns
values_of-returns t c =
    let l = c.loop-node in
    let nodes = c.deref-node-items.result.now in
    let all = l.invariant.0 ∙ ap (λ (ns : List Node). map (λ n. data_of (tree_of n)) ns) (take_all l.node-index nodes c.loop-node-test.false) in
    let same : map tree_of nodes ≡ c.args.items.now = ap (λ (ns : List Node). map tree_of ns) c.deref-node-items.ensures.value ∙ c.items.view_is in
    record {
      as_data = ap items_of all ∙ items_of-map nodes ∙ ap (λ ts. data_items (trees_of ts)) same;
      of_node = subst (λ ts. IsOfNode (list (trees_of ts))) same (list_of_node (map tree_of nodes) (each_done IsOfNode tree_of nodes l.node-index c.loop-node-test.false l.invariant.1));
    }
