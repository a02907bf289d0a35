use Rattle.std.proofs.Common.{◌≡◌, ◌++◌, map, take}
use Rattle.bosh_slots.specs.Slots.{net_addr}
use Rattle.bosh_slots.proofs.holding.add_nets.Given as goal

abbrev pub invariant-loop-net : goal.invariant-loop-net
invariant-loop-net l = l.addrs.items ≡ l.initial.addrs.items ++ map net_addr (take l.net-index l.nets)
