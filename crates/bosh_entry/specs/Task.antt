-- How tasks are spelled.
use Rattle.std.specs.Prelude.{ℕ, Bool, true, List, None, ◌&&◌, [], ◌∷◌, ◌++◌}
use Rattle.bosh_base.specs.Name.{is_name}
use Rattle.std.specs.Option.{is_none}
use Rattle.bosh_base.specs.declared.task.TaskKind.{TaskKind}
use Rattle.bosh_base.specs.declared.task.TaskKind.TheVariants.{Deploy, Recreate, Start, Stop, DeleteDeployment, DeleteDisk, CleanUp, Fix, Resolve}
use Rattle.bosh_base.specs.declared.task.TaskEnd.{TaskEnd}
use Rattle.bosh_base.specs.declared.task.TaskEnd.TheVariants.{Finished, Fault, Interrupted, Gone}
use Rattle.bosh_base.specs.declared.task.TaskRow.{TaskRow}
use Rattle.bosh_entry.specs.declared.format.Format.{Format}
use Rattle.bosh_entry.specs.Reading.{Reader, making, one_of_at, ◌with◌}
use Rattle.bosh_entry.specs.Number.{number, is_number, number_at}
use Rattle.bosh_entry.specs.List.{text}
use Rattle.bosh_entry.specs.Plain.{name_at, digest, is_digest, digest_at}
use Rattle.bosh_entry.specs.Choice.{option, is_option, option_at}
use Rattle.bosh_entry.specs.Later.{later, is_later, later_at, is_present, present_at}
use Rattle.bosh_entry.specs.Inst.{inst, is_inst, inst_at}
use Rattle.bosh_entry.specs.Owner.{owner, is_owner, owner_at}
use Rattle.bosh_entry.specs.Method.{method, is_method, method_at}

-- what a task does; the older format has not the last two
unfoldable pub task_kind : TaskKind → List ℕ
task_kind Deploy = 0 ∷ []
task_kind (Recreate i) = 1 ∷ inst i
task_kind (Start i) = 2 ∷ inst i
task_kind (Stop i) = 3 ∷ inst i
task_kind DeleteDeployment = 4 ∷ []
task_kind (DeleteDisk n) = 5 ∷ number n
task_kind CleanUp = 6 ∷ []
task_kind Fix = 7 ∷ []
task_kind (Resolve i) = 8 ∷ inst i

unfoldable pub is_task_kind : Format → TaskKind → Bool
is_task_kind format Deploy = true
is_task_kind format (Recreate i) = is_inst i
is_task_kind format (Start i) = is_inst i
is_task_kind format (Stop i) = is_inst i
is_task_kind format DeleteDeployment = true
is_task_kind format (DeleteDisk n) = is_number n
is_task_kind format CleanUp = true
is_task_kind format Fix = is_present format
is_task_kind format (Resolve i) = is_present format && is_inst i

abbrev pub task_kinds : Format → List (Reader TaskKind)
task_kinds format =
    making Deploy
    ∷ making Recreate with inst_at
    ∷ making Start with inst_at
    ∷ making Stop with inst_at
    ∷ making DeleteDeployment
    ∷ making DeleteDisk with number_at
    ∷ making CleanUp
    ∷ present_at format (making Fix)
    ∷ present_at format (making Resolve with inst_at)
    ∷ []

unfoldable pub task_kind_at : Format → Reader TaskKind
task_kind_at format = one_of_at (task_kinds format)

-- how a task ended; the older format has not the last
unfoldable pub task_end : TaskEnd → List ℕ
task_end Finished = 0 ∷ []
task_end (Fault n m o) = 1 ∷ number n ++ method m ++ owner o
task_end Interrupted = 2 ∷ []
task_end (Gone n m o) = 3 ∷ number n ++ method m ++ owner o

unfoldable pub is_task_end : Format → TaskEnd → Bool
is_task_end format Finished = true
is_task_end format (Fault n m o) = is_number n && is_method m && is_owner o
is_task_end format Interrupted = true
is_task_end format (Gone n m o) = is_present format && (is_number n && is_method m && is_owner o)

-- the call that failed, and the one that named what was not there
abbrev pub fault_at : Reader TaskEnd
fault_at = making Fault with number_at with method_at with owner_at

abbrev pub gone_at : Reader TaskEnd
gone_at = making Gone with number_at with method_at with owner_at

abbrev pub task_ends : Format → List (Reader TaskEnd)
task_ends format =
    making Finished
    ∷ fault_at
    ∷ making Interrupted
    ∷ present_at format gone_at
    ∷ []

unfoldable pub task_end_at : Format → Reader TaskEnd
task_end_at format = one_of_at (task_ends format)

-- what is recorded of a task; the older format has neither its source nor its calls
unfoldable pub task_row : Format → TaskRow → List ℕ
task_row format t =
    number t.task
    ++ task_kind t.kind
    ++ option text t.dep
    ++ option task_end t.end
    ++ later (option digest) format t.source
    ++ later (option number) format t.calls

unfoldable pub is_task_row : Format → TaskRow → Bool
is_task_row format t =
    is_number t.task
    && is_task_kind format t.kind
    && is_option is_name t.dep
    && is_option (is_task_end format) t.end
    && is_later is_none (is_option is_digest) format t.source
    && is_later is_none (is_option is_number) format t.calls

unfoldable pub task_row_at : Format → Reader TaskRow
task_row_at format =
    making (λ task kind dep ended source calls. record {
      task = task;
      kind = kind;
      dep = dep;
      end = ended;
      source = source;
      calls = calls;
    })
    with number_at
    with task_kind_at format
    with option_at name_at
    with option_at (task_end_at format)
    with later_at None (option_at digest_at) format
    with later_at None (option_at number_at) format
