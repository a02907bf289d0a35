-- The texts on tasks (this project's profile).
use Rattle.std.specs.Prelude.{ℕ, List, [], ◌++◌, Option, Some, None, codes, decimal}
use Rattle.hex.specs.Hex.{encode_lower}
use Rattle.bosh_base.specs.Method.{name_of}
use Rattle.bosh_base.specs.declared.method.Method.{Method}
use Rattle.bosh_base.specs.declared.owner.Owner.{Owner}
use Rattle.bosh_base.specs.declared.reply.FailedCall.{FailedCall}
use Rattle.bosh_base.specs.declared.reply.TaskDetail.{TaskDetail}
use Rattle.bosh_base.specs.declared.reply.TaskLine.{TaskLine}
use Rattle.bosh_base.specs.declared.task.TaskEnd.{TaskEnd}
use Rattle.bosh_base.specs.declared.task.TaskEnd.TheVariants.{Finished, Fault, Interrupted, Gone}
use Rattle.bosh_base.specs.declared.task.TaskKind.{TaskKind}
use Rattle.bosh_base.specs.declared.task.TaskKind.TheVariants.{Deploy, Recreate, Start, Stop, DeleteDeployment, DeleteDisk, CleanUp, Fix, Resolve}
use Rattle.bosh_report.specs.Owner.{disk_name, inst_text, owner_text}
use Rattle.bosh_report.specs.Piece.{or_dash}

-- `call N METHOD OWNER`, and how it ended
abbrev pub call_text : ℕ → Method → Owner → List ℕ → List ℕ
call_text n method owner outcome =
    codes "call " ++ decimal n ++ codes " " ++ name_of method ++ codes " " ++ owner_text owner ++ outcome

-- `task N done`
abbrev pub task_finished : ℕ → List ℕ
task_finished task = codes "task " ++ decimal task ++ codes " done\n"

-- `task N error: CALL`
abbrev pub task_error : FailedCall → List ℕ → List ℕ
task_error call outcome =
    codes "task " ++ decimal call.task ++ codes " error: " ++ call_text call.n call.method call.owner outcome
    ++ codes "\n"

-- a verb and what it is about
abbrev pub named_text : List ℕ → List ℕ → List ℕ
named_text verb named = verb ++ codes " " ++ named

-- the kind of a task, and the deployment, instance or disk that it names; a deploy that looks first
-- whether machines answer is a deploy
abbrev pub what_text : TaskKind → Option (List ℕ) → List ℕ
what_text Deploy dep = named_text (codes "deploy") (or_dash (λ name. name) dep)
what_text (Recreate inst) dep = named_text (codes "recreate") (inst_text inst)
what_text (Start inst) dep = named_text (codes "start") (inst_text inst)
what_text (Stop inst) dep = named_text (codes "stop") (inst_text inst)
what_text DeleteDeployment dep = named_text (codes "delete-deployment") (or_dash (λ name. name) dep)
what_text (DeleteDisk disk) dep = codes "delete-disk " ++ disk_name disk
what_text CleanUp dep = codes "clean-up"
what_text Fix dep = named_text (codes "deploy") (or_dash (λ name. name) dep)
what_text (Resolve inst) dep = named_text (codes "resolve") (inst_text inst)

-- ` done `, ` error ` or, of a task without an end, ` open `
abbrev pub status_text : Option TaskEnd → List ℕ
status_text None = codes " open "
status_text (Some Finished) = codes " done "
status_text (Some (Fault n method owner)) = codes " error "
status_text (Some Interrupted) = codes " error "
status_text (Some (Gone n method owner)) = codes " error "

-- why a task ended as an error
abbrev pub cause_text : Option TaskEnd → List ℕ
cause_text None = []
cause_text (Some Finished) = []
cause_text (Some (Fault n method owner)) = codes ": " ++ call_text n method owner (codes " failed")
cause_text (Some Interrupted) = codes ": interrupted"
cause_text (Some (Gone n method owner)) = codes ": " ++ call_text n method owner (codes " gone")

-- `N done WHAT`, `N error WHAT: CAUSE` or `N open WHAT`
abbrev pub task_line : TaskLine → List ℕ
task_line task =
    decimal task.task ++ status_text task.end ++ what_text task.kind task.dep ++ cause_text task.end ++ codes "\n"

-- the line of a task, `calls C` and `manifest H`
abbrev pub task_detail : TaskDetail → List ℕ
task_detail task =
    task_line task.line ++ codes "calls " ++ or_dash decimal task.calls
    ++ codes "\nmanifest " ++ or_dash (λ digest. encode_lower digest.0) task.source ++ codes "\n"
