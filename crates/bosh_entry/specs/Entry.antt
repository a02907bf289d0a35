-- How the fields of entries are spelled.
use Rattle.std.specs.Prelude.{ℕ, Bool, List, None, ◌&&◌, ◌++◌}
use Rattle.bosh_base.specs.Name.{is_name}
use Rattle.std.specs.Option.{is_none}
use Rattle.bosh_base.specs.declared.entry.TaskOpen.{TaskOpen}
use Rattle.bosh_base.specs.declared.entry.Begin.{Begin}
use Rattle.bosh_base.specs.declared.entry.End.{End}
use Rattle.bosh_base.specs.declared.entry.Update.{Update}
use Rattle.bosh_base.specs.declared.entry.TaskError.{TaskError}
use Rattle.bosh_base.specs.declared.entry.Effect.{Effect}
use Rattle.bosh_base.specs.declared.entry.Write.{Write}
use Rattle.bosh_base.specs.declared.entry.Loss.{Loss}
use Rattle.bosh_entry.specs.declared.format.Format.{Format}
use Rattle.bosh_entry.specs.Reading.{Reader, making, ◌with◌}
use Rattle.bosh_entry.specs.Number.{number, is_number, number_at, is_byte, worker_at}
use Rattle.bosh_entry.specs.Choice.{flag, is_flag, flag_at, option, is_option, option_at}
use Rattle.bosh_entry.specs.List.{text, is_text, text_at, list, is_list, list_at}
use Rattle.bosh_entry.specs.Plain.{name_at, digest, is_digest, digest_at}
use Rattle.bosh_entry.specs.Later.{later, is_later, later_at}
use Rattle.bosh_entry.specs.Inst.{inst, is_inst, inst_at}
use Rattle.bosh_entry.specs.Goal.{goal, is_goal, goal_at}
use Rattle.bosh_entry.specs.Owner.{owner, is_owner, owner_at}
use Rattle.bosh_entry.specs.Call.{call, is_call, call_at}
use Rattle.bosh_entry.specs.Answer.{answer, is_answer, answer_at}
use Rattle.bosh_entry.specs.Failure.{failure, is_failure, failure_at}
use Rattle.bosh_entry.specs.Task.{task_kind, is_task_kind, task_kind_at}

-- a task is opened; the older format has not its source
unfoldable pub task_open : Format → TaskOpen → List ℕ
task_open format t =
    number t.task
    ++ task_kind t.kind
    ++ option text t.dep
    ++ option (goal format) t.goal
    ++ list inst t.changed
    ++ list inst t.obsolete
    ++ list number t.disks
    ++ later (option digest) format t.source

unfoldable pub is_task_open : Format → TaskOpen → Bool
is_task_open format t =
    is_number t.task
    && is_task_kind format t.kind
    && is_option is_name t.dep
    && is_option (is_goal format) t.goal
    && is_list is_inst t.changed
    && is_list is_inst t.obsolete
    && is_list is_number t.disks
    && is_later is_none (is_option is_digest) format t.source

unfoldable pub task_open_at : Format → Reader TaskOpen
task_open_at format =
    making (λ task kind dep goal changed obsolete disks source. record {
      task = task;
      kind = kind;
      dep = dep;
      goal = goal;
      changed = changed;
      obsolete = obsolete;
      disks = disks;
      source = source;
    })
    with number_at
    with task_kind_at format
    with option_at name_at
    with option_at (goal_at format)
    with list_at inst_at
    with list_at inst_at
    with list_at number_at
    with later_at None (option_at digest_at) format

-- the intent of a call
unfoldable pub begin : Begin → List ℕ
begin b = number b.n ++ number b.task ++ number b.worker ++ owner b.owner ++ call b.call

unfoldable pub is_begin : Begin → Bool
is_begin b =
    is_number b.n
    && is_number b.task
    && is_byte b.worker
    && is_owner b.owner
    && is_call b.call

unfoldable pub begin_at : Reader Begin
begin_at =
    making (λ n task worker owner call. record {
      n = n;
      task = task;
      worker = worker;
      owner = owner;
      call = call;
    })
    with number_at
    with number_at
    with worker_at
    with owner_at
    with call_at

-- what a call answered
unfoldable pub end : End → List ℕ
end e = number e.n ++ answer e.answer

unfoldable pub is_end : End → Bool
is_end e = is_number e.n && is_answer e.answer

unfoldable pub end_at : Reader End
end_at = making (λ n answer. record { n = n; answer = answer }) with number_at with answer_at

-- a task and one of its instances
unfoldable pub update : Update → List ℕ
update u = number u.task ++ inst u.inst

unfoldable pub is_update : Update → Bool
is_update u = is_number u.task && is_inst u.inst

unfoldable pub update_at : Reader Update
update_at = making (λ task inst. record { task = task; inst = inst }) with number_at with inst_at

-- a task ended without being done
unfoldable pub task_error : TaskError → List ℕ
task_error t = number t.task ++ failure t.cause

unfoldable pub is_task_error : Format → TaskError → Bool
is_task_error format t = is_number t.task && is_failure format t.cause

unfoldable pub task_error_at : Format → Reader TaskError
task_error_at format =
    making (λ task cause. record {
      task = task;
      cause = cause;
    })
    with number_at
    with failure_at format

-- a call that changed the cloud
unfoldable pub effect : Effect → List ℕ
effect e = number e.n ++ owner e.owner ++ text e.dep ++ call e.call

unfoldable pub is_effect : Effect → Bool
is_effect e = is_number e.n && is_owner e.owner && is_name e.dep && is_call e.call

unfoldable pub effect_at : Reader Effect
effect_at =
    making (λ n owner dep call. record {
      n = n;
      owner = owner;
      dep = dep;
      call = call;
    })
    with number_at
    with owner_at
    with name_at
    with call_at

-- what a running job wrote to its disk
unfoldable pub write : Write → List ℕ
write w = number w.disk ++ text w.text

unfoldable pub is_write : Write → Bool
is_write w = is_number w.disk && is_text w.text

unfoldable pub write_at : Reader Write
write_at = making (λ disk text. record { disk = disk; text = text }) with number_at with text_at

-- a machine vanished, or its agent fell silent
unfoldable pub loss : Loss → List ℕ
loss l = number l.vm ++ flag l.whole

unfoldable pub is_loss : Loss → Bool
is_loss l = is_number l.vm && is_flag l.whole

unfoldable pub loss_at : Reader Loss
loss_at = making (λ vm whole. record { vm = vm; whole = whole }) with number_at with flag_at
