use Rattle.std.proofs.Common.{◌≡◌, ◌++◌}
use Rattle.bosh_plan.specs.WorkBy.{swept_in}
use Rattle.bosh_plan.proofs.opening.to_sweep.Given as goal

abbrev pub invariant-loop-name : goal.invariant-loop-name
invariant-loop-name l =
    l.found.items ++ swept_in l.opening.dep l.name-iterator ≡ swept_in l.opening.dep l.records.machines.places.entries
