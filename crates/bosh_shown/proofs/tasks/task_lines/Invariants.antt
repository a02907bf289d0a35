use Rattle.std.proofs.Common.{◌≡◌, ◌++◌}
use Rattle.bosh_shown.specs.Tasks.{task_lines}
use Rattle.bosh_shown.proofs.tasks.task_lines.Given as goal

-- those so far, and those of the others
abbrev pub invariant-loop-row : goal.invariant-loop-row
invariant-loop-row l = l.lines.items ++ task_lines l.row-iterator ≡ task_lines l.records.tasks.places.entries
