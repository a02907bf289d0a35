use Rattle.laws_stands_noted.proofs.NotedLemmas.{instance_leaves, update_begins, update_done}
use Rattle.laws_stands_noted.proofs.updates.what_is_recorded_stands_after_an_update_that_may_be_noted.Goals as goal

pub returns : goal.returns
returns c = record { begins = update_begins; done = update_done; leaves = instance_leaves }
