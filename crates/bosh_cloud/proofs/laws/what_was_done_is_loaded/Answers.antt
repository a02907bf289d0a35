use Rattle.bosh_cloud.proofs.RunLemmas.{found_after}
use Rattle.bosh_cloud.proofs.laws.what_was_done_is_loaded.Goals as goal

pub returns : goal.returns
returns g c = found_after g.L.Keeper.bodies g.L.Keeper.faults
