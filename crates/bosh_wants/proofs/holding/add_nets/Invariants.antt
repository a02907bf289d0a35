use Rattle.std.proofs.Common.{◌≡◌, ◌++◌, map, take}
use Rattle.bosh_wants.specs.Wants.{held_of}
use Rattle.bosh_wants.proofs.holding.add_nets.Given as goal

abbrev pub invariant-loop-net : goal.invariant-loop-net
invariant-loop-net l = l.held.items ≡ l.initial.held.items ++ map (held_of l.inst) (take l.net-index l.nets)
