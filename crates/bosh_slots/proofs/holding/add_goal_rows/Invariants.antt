use Rattle.std.proofs.Common.{◌≡◌, ◌++◌, take}
use Rattle.std.specs.List.{flat_map}
use Rattle.bosh_slots.specs.Slots.{goal_row_addrs}
use Rattle.bosh_slots.proofs.holding.add_goal_rows.Given as goal

abbrev pub invariant-loop-row : goal.invariant-loop-row
invariant-loop-row l = l.addrs.items ≡ l.initial.addrs.items ++ flat_map goal_row_addrs (take l.row-index l.rows)
