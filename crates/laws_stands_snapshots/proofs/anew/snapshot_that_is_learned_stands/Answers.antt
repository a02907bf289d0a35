use Rattle.laws_stands_snapshots.proofs.TellsLemmas.{learned_stands}
use Rattle.laws_stands_snapshots.proofs.anew.snapshot_that_is_learned_stands.Goals as goal

pub returns : goal.returns
returns c = learned_stands
