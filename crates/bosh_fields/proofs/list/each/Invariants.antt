use Rattle.std.proofs.Common.{◌≡◌, drop}
use Rattle.bosh_fields.specs.List.{each}
use Rattle.bosh_fields.proofs.ListLemmas.{trees, after}
use Rattle.bosh_fields.proofs.list.each.Given as goal

-- the values so far, and those of the other nodes, are those of all nodes
abbrev pub invariant-loop-node : goal.invariant-loop-node
invariant-loop-node g l =
    let read = g.T.FromField.kind l.key in
    each read (trees l.nodes) ≡ after l.values.items (each read (trees (drop l.node-index l.nodes)))
