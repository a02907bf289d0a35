use Rattle.laws_stands_updates.proofs.UpdateDoneLemmas.{after_update_done}
use Rattle.laws_stands_updates.proofs.updates.what_is_recorded_stands_after_an_update_is_done.Goals as goal

pub returns : goal.returns
returns c = after_update_done
