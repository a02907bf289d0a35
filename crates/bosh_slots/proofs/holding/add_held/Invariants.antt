use Rattle.std.proofs.Common.{◌≡◌, ◌++◌, map, take}
use Rattle.bosh_slots.specs.Slots.{held_addr}
use Rattle.bosh_slots.proofs.holding.add_held.Given as goal

abbrev pub invariant-loop-it : goal.invariant-loop-it
invariant-loop-it l = l.addrs.items ≡ l.initial.addrs.items ++ map held_addr (take l.it-index l.held)
