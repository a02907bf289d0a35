use Rattle.laws_stands_slots.proofs.SlotToldLemmas.{slot_doubted, slot_shown}
use Rattle.laws_stands_slots.proofs.machines.what_is_recorded_stands_once_a_compile_machine_is_told_of.Goals as goal

pub returns : goal.returns
returns c = record { there = slot_shown; doubt = slot_doubted }
