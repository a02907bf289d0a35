use Rattle.laws_stands_ends.proofs.SlotEndedLemmas.{after_slot_end}
use Rattle.laws_stands_ends.proofs.calls.what_is_recorded_stands_after_a_call_of_a_compile_machine_ends.Goals as goal

pub returns : goal.returns
returns c = after_slot_end
