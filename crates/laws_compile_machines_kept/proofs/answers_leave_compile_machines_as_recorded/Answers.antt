use Rattle.laws_compile_machines_kept.proofs.KeptLemmas.{owners_kept}
use Rattle.laws_compile_machines_kept.proofs.answers_leave_compile_machines_as_recorded.Goals as goal

pub returns : goal.returns
returns c = owners_kept
