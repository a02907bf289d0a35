use Rattle.std.proofs.Common.{◌≡◌, ◌||◌, ℕ, take}
use Rattle.std.specs.List.{list_any}
use Rattle.bosh_cck.specs.Tables.{has, is_slot_of}
use Rattle.bosh_cck.proofs.numbers.note_slots.Given as goal

abbrev pub invariant-loop-slot : goal.invariant-loop-slot
invariant-loop-slot l = (n : ℕ) → has l.numbers n ≡ (has l.fn.numbers n || list_any (is_slot_of n) (take l.slot-index l.slots))
