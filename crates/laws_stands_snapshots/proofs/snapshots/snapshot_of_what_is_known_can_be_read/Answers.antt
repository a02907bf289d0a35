use Rattle.laws_stands_snapshots.proofs.CanReadLemmas.{can_be_read}
use Rattle.laws_stands_snapshots.proofs.snapshots.snapshot_of_what_is_known_can_be_read.Goals as goal

pub returns : goal.returns
returns c = λ m told facts agrees well own built. can_be_read m facts told agrees well own built
