use Rattle.laws_recovery.proofs.RestLemmas.{stands_shortened}
use Rattle.laws_recovery.proofs.ended.what_is_recorded_stands_for_a_snapshot_of_it.Goals as goal

pub returns : goal.returns
returns c = stands_shortened
