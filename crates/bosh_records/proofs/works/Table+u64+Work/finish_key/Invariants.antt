use Rattle.std.proofs.Common.{◌≡◌}
use Rattle.bosh_records.proofs.EachLemmas.{left_after, upto}
use Rattle.bosh_records.proofs.works.Table+u64+Work.finish_key.Given as goal
use Rattle.bosh_work.specs.Finished.{without_key}

abbrev pub invariant-loop-task : goal.invariant-loop-task
invariant-loop-task l = l.self.places.entries ≡ upto (without_key l.key) l.last l.initial.self.places.entries

abbrev pub decreases-loop-task : goal.decreases-loop-task
decreases-loop-task l = left_after l.last
