use Rattle.std.proofs.Common.{◌≡◌, drop, map}
use Rattle.bosh_yaml.specs.Keys.{value_at}
use Rattle.bosh_yaml.specs.View.{pair_of}
use Rattle.bosh_yaml.proofs.node.value_of.Given as goal

-- the key is not among those passed, so its value is the rest's
abbrev pub invariant-loop-written : goal.invariant-loop-written
invariant-loop-written l =
    value_at l.key (map pair_of (drop l.written-index l.entries)) ≡ value_at l.key (map pair_of l.entries)
