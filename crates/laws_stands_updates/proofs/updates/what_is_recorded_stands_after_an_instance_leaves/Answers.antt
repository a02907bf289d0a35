use Rattle.laws_stands_updates.proofs.LeaveLemmas.{after_gone}
use Rattle.laws_stands_updates.proofs.updates.what_is_recorded_stands_after_an_instance_leaves.Goals as goal

pub returns : goal.returns
returns c = after_gone
