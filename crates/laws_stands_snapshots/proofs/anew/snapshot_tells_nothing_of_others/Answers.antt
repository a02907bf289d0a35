use Rattle.laws_stands_snapshots.proofs.TellsLemmas.{own}
use Rattle.laws_stands_snapshots.proofs.anew.snapshot_tells_nothing_of_others.Goals as goal

pub returns : goal.returns
returns c = own
