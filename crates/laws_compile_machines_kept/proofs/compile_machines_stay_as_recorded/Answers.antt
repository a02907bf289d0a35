use Rattle.laws_compile_machines_kept.proofs.KeptLemmas.{slots_kept}
use Rattle.laws_compile_machines_kept.proofs.compile_machines_stay_as_recorded.Goals as goal

pub returns : goal.returns
returns c = slots_kept
