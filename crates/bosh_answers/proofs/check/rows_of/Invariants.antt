use Rattle.std.proofs.Common.{◌≡◌, ◌++◌}
use Rattle.bosh_answers.specs.Checks.{rows_of}
use Rattle.bosh_answers.proofs.check.rows_of.Given as goal

-- those so far, and those of the others
abbrev pub invariant-loop-inst : goal.invariant-loop-inst
invariant-loop-inst l = l.rows.items ++ rows_of l.dep l.inst-iterator ≡ rows_of l.dep l.records.instances.by_inst.entries
