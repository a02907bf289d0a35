use Rattle.laws_stands_machines.proofs.SlotMadeLemmas.{slot_made}
use Rattle.laws_stands_machines.proofs.machines.what_is_recorded_stands_once_a_compile_machine_is_being_made.Goals as goal

pub returns : goal.returns
returns c = slot_made
