use Rattle.std.proofs.Common.{◌≡◌, ◌++◌}
use Rattle.bosh_plan.specs.WorkBy.{asked_in}
use Rattle.bosh_plan.proofs.opening.to_ping.Given as goal

abbrev pub invariant-loop-inst : goal.invariant-loop-inst
invariant-loop-inst l =
    l.found.items ++ asked_in l.opening l.inst-iterator ≡ asked_in l.opening l.records.instances.by_inst.entries
