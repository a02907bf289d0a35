use Rattle.laws_stands_updates.proofs.DisksLeftLemmas.{left_stands}
use Rattle.laws_stands_updates.proofs.disks.what_is_recorded_stands_once_disks_are_left.Goals as goal

pub returns : goal.returns
returns c = λ told it i disks listed allows places stands ordered. left_stands told it i disks listed allows places
    stands ordered.orphans
