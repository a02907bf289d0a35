use Rattle.laws_slots.proofs.SlotCases.{slot_kept}
use Rattle.laws_slots.proofs.slots.one_call_keeps_the_facts_of_a_compile_machine.Goals as goal

pub returns : goal.returns
returns c = slot_kept
