use Rattle.std.proofs.Common.{◌≡◌, ◌++◌}
use Rattle.bosh_shown.specs.Instances.{instance_lines}
use Rattle.bosh_shown.proofs.instances.instance_lines.Given as goal

-- those so far, and those of the others
abbrev pub invariant-loop-inst : goal.invariant-loop-inst
invariant-loop-inst l =
    l.lines.items ++ instance_lines l.dep l.inst-iterator
    ≡ instance_lines l.dep l.records.instances.by_inst.entries
