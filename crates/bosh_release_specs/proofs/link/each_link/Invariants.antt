use Rattle.std.proofs.Common.{◌≡◌, drop}
use Rattle.bosh_fields.specs.List.{each}
use Rattle.bosh_fields.proofs.ListLemmas.{trees, after}
use Rattle.bosh_release_specs.proofs.link.each_link.Given as goal

-- the links so far, and those of the other nodes, are those of all nodes
abbrev pub invariant-loop-node : goal.invariant-loop-node
invariant-loop-node g l =
    let read = g.S.Side.form l.key in
    each read (trees l.nodes) ≡ after l.links.items (each read (trees (drop l.node-index l.nodes)))
