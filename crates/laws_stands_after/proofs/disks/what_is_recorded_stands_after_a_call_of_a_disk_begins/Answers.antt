use Rattle.laws_stands_after.proofs.DiskBegunLemmas.{after_disk_begin}
use Rattle.laws_stands_after.proofs.disks.what_is_recorded_stands_after_a_call_of_a_disk_begins.Goals as goal

pub returns : goal.returns
returns c = after_disk_begin
