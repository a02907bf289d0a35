use Rattle.laws_stands_noted.proofs.EndsLemmas.{ends_disk, ends_instance}
use Rattle.laws_stands_noted.proofs.calls.what_is_recorded_stands_after_a_call_that_may_end.Goals as goal

pub returns : goal.returns
returns c = record { instances = ends_instance; disks = ends_disk }
