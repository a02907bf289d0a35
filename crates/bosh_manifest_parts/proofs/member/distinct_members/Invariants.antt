use Rattle.std.proofs.Common.{◌≡◌, ℕ, List, [], drop, codes}
use Rattle.bosh_fields.specs.Distinct.{distinct, name_in}
use Rattle.bosh_fields.specs.Seen.{HasNames}
use Rattle.bosh_fields.proofs.ListLemmas.{trees, after}
use Rattle.bosh_manifest_parts.proofs.member.distinct_members.Given as goal

-- the items so far, and those of the other nodes, are those of all nodes; and the names so far were seen
abbrev pub invariant-loop-node : goal.invariant-loop-node
invariant-loop-node g l =
    let naming = name_in (codes "name") l.key in
    let item = g.T.Member.item l.given in
    record {
      before : List (List ℕ);
      seen : HasNames before l.seen;
      same : distinct naming item [] (trees l.nodes) ≡ after l.items.items (distinct naming item before (trees (drop l.node-index l.nodes)));
    }
