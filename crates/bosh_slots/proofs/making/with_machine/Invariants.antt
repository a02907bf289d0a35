use Rattle.std.proofs.Common.{◌≡◌, map, take}
use Rattle.bosh_slots.specs.Slots.{slot_with}
use Rattle.bosh_slots.proofs.making.with_machine.Given as goal

abbrev pub invariant-loop-addr : goal.invariant-loop-addr
invariant-loop-addr l = l.makes.items ≡ map (slot_with l.compilation l.machine) (take l.addr-index l.addrs)
