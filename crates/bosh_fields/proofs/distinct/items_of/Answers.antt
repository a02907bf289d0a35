-- One more item is read.
use Rattle.std.proofs.Common.{◌+◌, ◌∷◌, drop, ap, sym, ◌∙◌}
use Rattle.bosh_yaml.specs.View.{tree_of}
use Rattle.bosh_fields.specs.Distinct.{distinct}
use Rattle.bosh_fields.proofs.DistinctLemmas.{distinct-more, next_item-name}
use Rattle.bosh_fields.proofs.ListLemmas.{trees, after, after-more}
use Rattle.bosh_fields.proofs.distinct.items_of.Goals as goal

pub loop-node-preserved : goal.loop-node-preserved
loop-node-preserved g c =
    let naming = g.T.NamedItem.naming c.args.key.now in
    let item = g.T.NamedItem.item in
    let i = c.loop-node.node-index in
    let node = c.node-item.result in
    let before = c.loop-node.invariant.before in
    let first = c.in_ok-next_item.field-0 in
    let (name, fresh, read) = next_item-name naming item before (tree_of node) first (c.in_ok-next_item.ensures.item before c.loop-node.invariant.seen) in
    let others = distinct naming item (name ∷ before) (trees (drop (i + 1) c.args.nodes.now)) in
    let more = distinct-more naming item before c.args.nodes.now i node name first c.loop-node-test.true c.node-item.is fresh read in
    record {
      before = name ∷ before;
      seen = c.in_ok-next_item.ensures.noted before c.loop-node.invariant.seen name fresh;
      same = c.loop-node.invariant.same ∙ ap (after c.loop-node.items.items) more ∙ after-more c.loop-node.items.items first others
          ∙ ap (λ items. after items others) (sym c.in_ok-push.ensures.items);
    }
