-- How tasks are listed (bosh.io, "CLI v2", tasks and task).
use Rattle.std.specs.Prelude.{ℕ, List, [], ◌∷◌, ◌++◌, Option, option_map}
use Rattle.std.specs.Option.{option_to_list}
use Rattle.bosh_base.specs.declared.reply.TaskDetail.{TaskDetail}
use Rattle.bosh_base.specs.declared.reply.TaskLine.{TaskLine}
use Rattle.bosh_base.specs.declared.task.TaskRow.{TaskRow}

abbrev pub task_line : TaskRow → TaskLine
task_line row = record { task = row.task; kind = row.kind; dep = row.dep; end = row.end }

abbrev pub task_lines : List (ℕ × Option TaskRow) → List TaskLine
task_lines [] = []
task_lines (it ∷ others) = option_to_list (option_map task_line it.1) ++ task_lines others

abbrev pub task_detail : TaskRow → TaskDetail
task_detail row = record { line = task_line row; calls = row.calls; source = row.source }
