use Rattle.std.proofs.Common.{◌≡◌, map, take}
use Rattle.bosh_compile.specs.Table.{node_by, place_in}
use Rattle.bosh_compile.proofs.table.graph_of.Given as goal

-- the works so far have their nodes
abbrev pub invariant-loop-work : goal.invariant-loop-work
invariant-loop-work l = l.nodes.items ≡ map (node_by (place_in l.table)) (take l.work-index l.works)
