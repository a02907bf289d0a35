use Rattle.std.proofs.Common.{◌≡◌, ℕ, List, [], drop}
use Rattle.bosh_fields.specs.Distinct.{distinct}
use Rattle.bosh_fields.specs.Seen.{HasNames}
use Rattle.bosh_fields.proofs.ListLemmas.{trees, after}
use Rattle.bosh_fields.proofs.distinct.items_of.Given as goal

-- the items so far, and those of the other nodes, are those of all nodes; and the names so far were seen
abbrev pub invariant-loop-node : goal.invariant-loop-node
invariant-loop-node g l =
    let naming = g.T.NamedItem.naming l.key in
    let item = g.T.NamedItem.item in
    record {
      before : List (List ℕ);
      seen : HasNames before l.seen;
      same : distinct naming item [] (trees l.nodes) ≡ after l.items.items (distinct naming item before (trees (drop l.node-index l.nodes)));
    }
