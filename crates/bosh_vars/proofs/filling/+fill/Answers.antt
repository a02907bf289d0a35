use Rattle.std.proofs.Common.{◌≡◌, ℕ, ◌+◌, ◌<◌, ◌≤◌, false, List, [], ◌∷◌, ◌++◌, map, drop, Ok, arith, ap, sym, subst, ◌∙◌}
use Rattle.std.proofs.lemmas.Grind.{common_steps}
use Rattle.bosh_yaml.specs.Code.{node_count, nodes_in_list, nodes_in_pairs}
use Rattle.bosh_yaml.specs.Keys.{has_key, HasDistinctKeys}
use Rattle.bosh_yaml.specs.Tree.{fields_of, trees_of}
use Rattle.bosh_yaml.specs.View.{pair_of, tree_of}
use Rattle.bosh_yaml.specs.declared.node.Node.{Node}
use Rattle.bosh_yaml.proofs.NestingLemmas.{next_item}
use Rattle.bosh_vars.specs.Filled.{filled_fields, filled_items}
use Rattle.bosh_vars.specs.Table.{found_in}
use Rattle.bosh_vars.proofs.TreeLemmas.{items_behind, items-step, trees_before-none, fields_behind, fields-step, fields_before-none, next_is_new, distinct_with, weight_at, weight_at_key}
use Rattle.bosh_vars.proofs.filling.+fill.Goals as goal

pub fill_items-fill_node-requires : goal.fill_items-fill_node-requires
fill_items-fill_node-requires t c =
    let nodes = c.as_slice-node-items.result.now in
    let node = c.node-item.result in
    let within : node_count (tree_of node) ≤ nodes_in_list (map tree_of nodes) = weight_at nodes c.loop-node.node-index node c.loop-node-test.true c.node-item.is in
    let below : node_count (tree_of node) ≤ nodes_in_list c.args.items.now = subst (λ ts. node_count (tree_of node) ≤ nodes_in_list ts) c.as_slice-node-items.ensures within in
    let falls : node_count (tree_of node) + node_count (tree_of node) < t = omega (arith, below, c.decreases) in
    (falls, tt)

pub fill_items-loop-node-preserved : goal.fill_items-loop-node-preserved
fill_items-loop-node-preserved t c =
    let values = found_in c.args.values.now in
    let nodes = c.as_slice-node-items.result.now in
    let i = c.loop-node.node-index in
    let node = c.node-item.result in
    let before = c.loop-node.filled in
    let more = filled_items values (trees_of (map tree_of (drop (i + 1) nodes))) in
    let next : drop i nodes ≡ node ∷ drop (i + 1) nodes = next_item nodes i node c.loop-node-test.true c.node-item.is in
    ap (λ us. items_behind us more) c.in_ok-push_item.ensures.ok
    ∙ (sym (items-step values before (tree_of c.in_ok-item.item) (tree_of node) (trees_of (map tree_of (drop (i + 1) nodes))) c.in_ok-item.ensures)
    ∙ (ap (λ (ns : List Node). items_behind before (filled_items values (trees_of (map tree_of ns)))) (sym next) ∙ c.loop-node.invariant))

pub fill_items-returns : goal.fill_items-returns
fill_items-returns t c =
    let values = found_in c.args.values.now in
    let nodes = c.as_slice-node-items.result.now in
    let before = c.loop-node.filled in
    let end : drop c.loop-node.node-index nodes ≡ [] = grind (arith, common_steps) in
    ap (λ ts. filled_items values (trees_of ts)) (sym c.as_slice-node-items.ensures)
    ∙ (sym c.loop-node.invariant
    ∙ (ap (λ (ns : List Node). items_behind before (filled_items values (trees_of (map tree_of ns)))) end ∙ ap Ok (trees_before-none before)))

pub fill_pairs-fill_node-requires : goal.fill_pairs-fill_node-requires
fill_pairs-fill_node-requires t c =
    let entries = c.as_slice-key-items.result.now in
    let entry = c.loop-key-item.result in
    let within : node_count (tree_of entry.1) ≤ nodes_in_pairs (map pair_of entries) = weight_at_key entries c.loop-key.key-index entry c.loop-key-test.true c.loop-key-item.is in
    let below : node_count (tree_of entry.1) ≤ nodes_in_pairs c.args.pairs.now = subst (λ ps. node_count (tree_of entry.1) ≤ nodes_in_pairs ps) c.as_slice-key-items.ensures.value within in
    let falls : node_count (tree_of entry.1) + node_count (tree_of entry.1) < t = omega (arith, below, c.decreases) in
    (falls, tt)

pub fill_pairs-push_pair-requires : goal.fill_pairs-push_pair-requires
fill_pairs-push_pair-requires t c =
    let entries = c.as_slice-key-items.result.now in
    let i = c.loop-key.key-index in
    let entry = c.loop-key-item.result in
    let before = c.loop-key.filled in
    let next : drop i entries ≡ entry ∷ drop (i + 1) entries = next_item entries i entry c.loop-key-test.true c.loop-key-item.is in
    let distinct = subst (λ (es : List (List ℕ × Node)). HasDistinctKeys (before ++ map pair_of es)) next c.loop-key.invariant.0 in
    subst (λ k. has_key k before ≡ false) (sym c.in_ok-key.ensures) (next_is_new before (pair_of entry) (map pair_of (drop (i + 1) entries)) distinct)

pub fill_pairs-loop-key-preserved : goal.fill_pairs-loop-key-preserved
fill_pairs-loop-key-preserved t c =
    let values = found_in c.args.values.now in
    let entries = c.as_slice-key-items.result.now in
    let i = c.loop-key.key-index in
    let entry = c.loop-key-item.result in
    let before = c.loop-key.filled in
    let value = tree_of c.in_ok-value.value in
    let rest = map pair_of (drop (i + 1) entries) in
    let next : drop i entries ≡ entry ∷ drop (i + 1) entries = next_item entries i entry c.loop-key-test.true c.loop-key-item.is in
    let distinct = subst (λ (es : List (List ℕ × Node)). HasDistinctKeys (before ++ map pair_of es)) next c.loop-key.invariant.0 in
    let grown : c.push_pair.new.filled ≡ before ++ (entry.0, value) ∷ [] = c.in_ok-push_pair.ensures.ok ∙ ap (λ (k : List ℕ). before ++ (k, value) ∷ []) c.in_ok-key.ensures in (
      subst (λ ps. HasDistinctKeys (ps ++ rest)) (sym grown) (distinct_with before entry.0 (tree_of entry.1) value rest distinct),
      ap (λ ps. fields_behind ps (filled_fields values (fields_of rest))) grown
          ∙ (sym (fields-step values before entry.0 value (tree_of entry.1) (fields_of rest) c.in_ok-value.ensures)
          ∙ (ap (λ (es : List (List ℕ × Node)). fields_behind before (filled_fields values (fields_of (map pair_of es)))) (sym next) ∙ c.loop-key.invariant.1)),
    )

pub fill_pairs-returns : goal.fill_pairs-returns
fill_pairs-returns t c =
    let values = found_in c.args.values.now in
    let entries = c.as_slice-key-items.result.now in
    let before = c.loop-key.filled in
    let end : drop c.loop-key.key-index entries ≡ [] = grind (arith, common_steps) in
    ap (λ ps. filled_fields values (fields_of ps)) (sym c.as_slice-key-items.ensures.value)
    ∙ (sym c.loop-key.invariant.1
    ∙ (ap (λ (es : List (List ℕ × Node)). fields_behind before (filled_fields values (fields_of (map pair_of es)))) end ∙ ap Ok (fields_before-none before)))
