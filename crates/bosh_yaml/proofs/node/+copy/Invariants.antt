use Rattle.std.proofs.Common.{◌≡◌, map, take}
use Rattle.bosh_yaml.specs.View.{pair_of}
use Rattle.bosh_yaml.proofs.node.+copy.Given as goal

abbrev pub invariant-copy_items-loop-node : goal.invariant-copy_items-loop-node
invariant-copy_items-loop-node l = l.nodes.items ≡ take l.node-index l.node-items

abbrev pub invariant-copy_pairs-loop-key : goal.invariant-copy_pairs-loop-key
invariant-copy_pairs-loop-key l = l.copied ≡ map pair_of (take l.key-index l.key-items)
