use Rattle.std.proofs.Common.{◌≡◌, length}
use Rattle.bosh_records.specs.Recorded.{recorded}
use Rattle.bosh_fold.specs.Tasks.{forgotten_in}
use Rattle.bosh_fold.proofs.closing.forget_calls_of.Given as goal

abbrev pub invariant-loop-n : goal.invariant-loop-n
invariant-loop-n l = forgotten_in l.task (recorded l.records) ≡ forgotten_in l.task (recorded l.initial.records)

abbrev pub decreases-loop-n : goal.decreases-loop-n
decreases-loop-n l = length l.records.calls.places.entries
