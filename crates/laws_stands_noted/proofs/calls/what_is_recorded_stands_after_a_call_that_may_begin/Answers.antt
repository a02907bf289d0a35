use Rattle.laws_stands_noted.proofs.BeginsLemmas.{begins_disk, begins_instance}
use Rattle.laws_stands_noted.proofs.calls.what_is_recorded_stands_after_a_call_that_may_begin.Goals as goal

pub returns : goal.returns
returns c = record { instances = begins_instance; disks = begins_disk }
