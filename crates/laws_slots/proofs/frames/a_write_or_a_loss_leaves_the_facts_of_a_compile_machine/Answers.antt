use Rattle.laws_slots.proofs.SlotFrames.{slot_loss, slot_write}
use Rattle.laws_slots.proofs.frames.a_write_or_a_loss_leaves_the_facts_of_a_compile_machine.Goals as goal

pub returns-clause-write : goal.returns-clause-write
returns-clause-write c = slot_write

pub returns-clause-loss : goal.returns-clause-loss
returns-clause-loss c = slot_loss
