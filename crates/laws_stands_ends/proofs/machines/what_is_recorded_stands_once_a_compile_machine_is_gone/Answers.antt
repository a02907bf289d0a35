use Rattle.laws_stands_ends.proofs.SlotDroppedLemmas.{slot_dropped}
use Rattle.laws_stands_ends.proofs.machines.what_is_recorded_stands_once_a_compile_machine_is_gone.Goals as goal

pub returns : goal.returns
returns c = slot_dropped
