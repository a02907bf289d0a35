use Rattle.std.proofs.Common.{◌≡◌}
use Rattle.bosh_fold.specs.Tasks.{first_call}
use Rattle.bosh_fold.proofs.closing.open_call_of.Given as goal

abbrev pub invariant-loop-n : goal.invariant-loop-n
invariant-loop-n l = first_call l.task l.n-iterator ≡ first_call l.task l.records.calls.places.entries
