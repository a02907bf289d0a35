use Rattle.laws_calls.proofs.MachineLemmas.{machines_kept}
use Rattle.laws_calls.proofs.rows_have_their_machines.Goals as goal

pub returns : goal.returns
returns c = machines_kept
