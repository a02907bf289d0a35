use Rattle.laws_stands_slots.proofs.SlotClosedLemmas.{slot_closed}
use Rattle.laws_stands_slots.proofs.calls.what_is_recorded_stands_once_a_call_of_a_compile_machine_is_closed.Goals as goal

pub returns : goal.returns
returns c = slot_closed
