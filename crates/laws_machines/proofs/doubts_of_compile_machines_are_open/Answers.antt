use Rattle.laws_machines.proofs.OpenLemmas.{doubts_kept}
use Rattle.laws_machines.proofs.doubts_of_compile_machines_are_open.Goals as goal

pub returns : goal.returns
returns c = doubts_kept
