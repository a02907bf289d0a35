-- The orders in which what is recorded is listed (this project's profile).
use Rattle.std.specs.Prelude.{Bool, ◌==◌, ◌&&◌}
use Rattle.std.specs.Ordering.{nat_cmp, ordering_then}
use Rattle.std.specs.declared.cmp.Ordering.{Ordering}
use Rattle.bosh_history.specs.Known.{SlotName}

-- by task, then slot
abbrev pub slot_cmp : SlotName → SlotName → Ordering
slot_cmp a b = ordering_then (nat_cmp a.task b.task) (nat_cmp a.slot b.slot)

abbrev pub same_slot : SlotName → SlotName → Bool
same_slot a b = a.task == b.task && a.slot == b.slot
