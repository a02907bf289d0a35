use Rattle.laws_stands_after.proofs.DiskEndedLemmas.{after_disk_end}
use Rattle.laws_stands_after.proofs.disks.what_is_recorded_stands_after_a_call_of_a_disk_ends.Goals as goal

pub returns : goal.returns
returns c = after_disk_end
