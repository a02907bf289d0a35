use Rattle.std.proofs.Common.{◌≡◌, ◌++◌, take}
use Rattle.std.specs.List.{flat_map}
use Rattle.bosh_slots.specs.Slots.{row_addrs}
use Rattle.bosh_slots.proofs.holding.add_rows.Given as goal

abbrev pub invariant-loop-row : goal.invariant-loop-row
invariant-loop-row l = l.addrs.items ≡ l.initial.addrs.items ++ flat_map row_addrs (take l.row-index l.rows)
