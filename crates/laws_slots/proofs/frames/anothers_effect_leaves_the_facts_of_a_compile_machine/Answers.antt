use Rattle.laws_slots.proofs.SlotFrames.{slot_other}
use Rattle.laws_slots.proofs.frames.anothers_effect_leaves_the_facts_of_a_compile_machine.Goals as goal

pub returns : goal.returns
returns c = slot_other
