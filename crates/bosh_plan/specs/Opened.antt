-- What the opening of a task changes.
use Rattle.std.specs.Prelude.{◌≡◌, [], Option, Some, None, option_map}
use Rattle.bosh_base.specs.declared.entry.TaskOpen.{TaskOpen}
use Rattle.bosh_base.specs.declared.snapshot.DepRow.{DepRow}
use Rattle.bosh_base.specs.declared.task.TaskRow.{TaskRow}
use Rattle.bosh_records.specs.declared.records.Records.{Records}
use Rattle.bosh_plan.specs.WorkBy.{work_by}
use Rattle.bosh_plan.specs.declared.opening.Opened.{Opened}

-- what is recorded of a task that opens
abbrev pub task_row_of : TaskOpen → TaskRow
task_row_of opening = record {
  task = opening.task;
  kind = opening.kind;
  dep = opening.dep;
  end = None;
  source = opening.source;
  calls = Some 0;
}

-- what is recorded of its deployment
abbrev pub dep_row_of : TaskOpen → Option DepRow
dep_row_of opening = option_map (λ goal. record { dep = goal.dep; goal = goal; shared = [] }) opening.goal

pub record IsOpened (records : Records) (opening : TaskOpen) (opened : Opened) : Type 0 where
  pub row : opened.row ≡ task_row_of opening
  pub deployment : opened.deployment ≡ dep_row_of opening
  pub work : opened.work ≡ work_by records opening
