use Rattle.std.proofs.Common.{◌≡◌, ◌++◌, drop}
use Rattle.bosh_shown.specs.Cloud.{machine_lines}
use Rattle.bosh_shown.proofs.machines.machine_lines.Given as goal

-- those so far, and those of the others
abbrev pub invariant-loop-slot : goal.invariant-loop-slot
invariant-loop-slot l = l.lines.items ++ machine_lines (drop l.slot-index l.slots) ≡ machine_lines l.slots
