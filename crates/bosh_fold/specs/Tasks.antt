-- What is recorded once a task opens or ends.
use Rattle.std.specs.Prelude.{ℕ, Bool, true, false, List, Option, Some, None, fold, is_some, slice_get, if◌then◌else◌}
use Rattle.std.specs.List.{enumerate_from}
use Rattle.std.specs.Option.{option_and_then, option_map_or}
use Rattle.std.specs.Ordering.{nat_cmp}
use Rattle.bosh_base.specs.Inst.{inst_cmp}
use Rattle.bosh_base.specs.declared.entry.Begin.{Begin}
use Rattle.bosh_base.specs.declared.goal.Goal.{Goal}
use Rattle.bosh_base.specs.declared.goal.GoalRow.{GoalRow}
use Rattle.bosh_base.specs.declared.inst.Inst.{Inst}
use Rattle.bosh_base.specs.declared.offer.Offer.{Offer}
use Rattle.bosh_base.specs.declared.snapshot.DepRow.{DepRow}
use Rattle.bosh_base.specs.declared.task.TaskEnd.{TaskEnd}
use Rattle.bosh_base.specs.declared.task.TaskEnd.TheVariants as ends
use Rattle.bosh_base.specs.declared.task.TaskKind.{TaskKind}
use Rattle.bosh_base.specs.declared.task.TaskKind.TheVariants as kinds
use Rattle.bosh_base.specs.declared.task.TaskRow.{TaskRow}
use Rattle.bosh_base.specs.declared.entry.Entry.{Entry}
use Rattle.bosh_base.specs.declared.entry.Entry.TheVariants as entries
use Rattle.bosh_plan.specs.declared.opening.Opened.{Opened}
use Rattle.bosh_records.specs.Changes.{since_cmp, with_deleting, with_end}
use Rattle.bosh_records.specs.Changes.{with_goal}
use Rattle.bosh_records.specs.Changes.{with_shared, with_sweep}
use Rattle.bosh_records.specs.Instances.{with_change, with_leaving, with_ping}
use Rattle.bosh_records.specs.Kinds.{deploys}
use Rattle.bosh_records.specs.Readers.{deployment_in, machine_cmp, since_in}
use Rattle.bosh_records.specs.Recorded.{Recorded}
use Rattle.bosh_records.specs.Table.{altered, changed, put_at, thing_in, without}
use Rattle.bosh_records.specs.declared.instances.Instance.{Instance}
use Rattle.bosh_records.specs.declared.machines.Machine.{Machine}
use Rattle.bosh_records.specs.declared.orphans.LooseDisk.{LooseDisk}
use Rattle.bosh_records.specs.declared.records.Since.{Since}
use Rattle.bosh_records.specs.declared.records.Since.TheVariants as sinces
use Rattle.bosh_work.specs.declared.part.MachineName.{MachineName}
use Rattle.bosh_work.specs.declared.work.Work.{Work}
use Rattle.bosh_work.specs.declared.groups.GroupWork.{GroupWork}
use Rattle.std.specs.Prelude.{◌==◌, find, not, option_map}
use Rattle.std.specs.List.{filter}
use Rattle.bosh_records.specs.Table.{things}
use Rattle.bosh_fold.specs.Calls.{closed_call}

-- ---- how goals want instances

abbrev pub with_want : Option ℕ → Instance → Instance
with_want place it = record it { want = place }

abbrev pub want_noted : List (Inst × Instance) → ℕ × GoalRow → List (Inst × Instance)
want_noted instances want = altered inst_cmp want.1.inst (with_want (Some want.0)) instances

-- each by its place in the goal
abbrev pub wants_noted : List GoalRow → List (Inst × Instance) → List (Inst × Instance)
wants_noted rows instances = fold want_noted instances (enumerate_from 0 rows)

abbrev pub want_forgotten : List (Inst × Instance) → GoalRow → List (Inst × Instance)
want_forgotten instances want = altered inst_cmp want.inst (with_want None) instances

abbrev pub wants_forgotten : List GoalRow → List (Inst × Instance) → List (Inst × Instance)
wants_forgotten rows instances = fold want_forgotten instances rows

-- what the current goal of a deployment wanted
abbrev pub wants_cleared : Since → Recorded → List (Inst × Instance)
wants_cleared since it =
    option_map_or (λ row. wants_forgotten row.goal.rows it.instances) (thing_in since_cmp it.deployments since) it.instances

abbrev pub with_wants_cleared : Since → Recorded → Recorded
with_wants_cleared since it = record it { instances = wants_cleared since it }

-- ---- the opening of a task

-- a deployment that is not recorded yet
abbrev pub deployment_added : ℕ → DepRow → Recorded → Recorded
deployment_added task row it = record it {
  instances = wants_noted row.goal.rows it.instances;
  deployments = put_at since_cmp (sinces.Task task) row it.deployments;
}

-- the goal takes the place of the current one
abbrev pub goal_replaced : Since → Goal → Recorded → Recorded
goal_replaced since goal it = record it {
  instances = wants_noted goal.rows (wants_cleared since it);
  deployments = changed since_cmp since (with_goal goal) it.deployments;
}

abbrev pub goal_set_at : Option Since → ℕ → DepRow → Recorded → Recorded
goal_set_at (Some since) task row it = goal_replaced since row.goal it
goal_set_at None task row it = deployment_added task row it

abbrev pub goal_set : ℕ → Option DepRow → Recorded → Recorded
goal_set task (Some row) it = goal_set_at (since_in it.deployments row.dep) task row it
goal_set task None it = it

-- ---- where each instance, machine and disk stands in a task

abbrev pub ping_set : List (Inst × Instance) → ℕ × Inst → List (Inst × Instance)
ping_set instances item = altered inst_cmp item.1 (with_ping (Some item.0)) instances

abbrev pub pings_set : List Inst → List (Inst × Instance) → List (Inst × Instance)
pings_set items instances = fold ping_set instances (enumerate_from 0 items)

abbrev pub leaving_set : List (Inst × Instance) → ℕ × Inst → List (Inst × Instance)
leaving_set instances item = altered inst_cmp item.1 (with_leaving (Some item.0)) instances

abbrev pub leavings_set : List Inst → List (Inst × Instance) → List (Inst × Instance)
leavings_set items instances = fold leaving_set instances (enumerate_from 0 items)

abbrev pub change_set : List Inst → ℕ → List (Inst × Instance) → ℕ × ℕ → List (Inst × Instance)
change_set changed group instances item =
    option_map_or (λ inst. altered inst_cmp inst (with_change (Some (record { group = group; place = item.0 }))) instances)
    (slice_get changed item.1) instances

abbrev pub places_set : List Inst → ℕ → List (Inst × Instance) → List ℕ → List (Inst × Instance)
places_set changed group instances places = fold (change_set changed group) instances (enumerate_from 0 places)

abbrev pub group_set : List Inst → List (Inst × Instance) → ℕ × GroupWork → List (Inst × Instance)
group_set changed instances group = places_set changed group.0 instances group.1.places

abbrev pub changes_set : List Inst → List GroupWork → List (Inst × Instance) → List (Inst × Instance)
changes_set changed groups instances = fold (group_set changed) instances (enumerate_from 0 groups)

abbrev pub sweep_set : List (MachineName × Option Machine) → ℕ × MachineName → List (MachineName × Option Machine)
sweep_set machines item = changed machine_cmp item.1 (with_sweep (Some item.0)) machines

abbrev pub sweeps_set : List MachineName → List (MachineName × Option Machine) → List (MachineName × Option Machine)
sweeps_set items machines = fold sweep_set machines (enumerate_from 0 items)

abbrev pub deleting_set : List (ℕ × Option LooseDisk) → ℕ × ℕ → List (ℕ × Option LooseDisk)
deleting_set orphans item = changed nat_cmp item.1 (with_deleting (Some item.0)) orphans

abbrev pub deletings_set : List ℕ → List (ℕ × Option LooseDisk) → List (ℕ × Option LooseDisk)
deletings_set items orphans = fold deleting_set orphans (enumerate_from 0 items)

abbrev pub parts_set : Work → Recorded → Recorded
parts_set work it = record it {
  instances = changes_set work.changed work.groups
      (leavings_set work.obsolete.items (pings_set work.pings.items it.instances));
  machines = sweeps_set work.sweep.items it.machines;
  orphans = deletings_set work.disks.items it.orphans;
}

-- a task is open, with what is left of it
abbrev pub task_noted : TaskRow → Work → Recorded → Recorded
task_noted row work it = record it {
  came = record it.came { opened = row.task };
  tasks = put_at nat_cmp row.task row it.tasks;
  works = put_at nat_cmp row.task work it.works;
}

abbrev pub opened_in : Opened → Recorded → Recorded
opened_in opened it =
    task_noted opened.row opened.work (parts_set opened.work (goal_set opened.row.task opened.deployment it))

-- ---- the end of a task

-- the deployment that a task is of
abbrev pub dep_of : Recorded → ℕ → Option (List ℕ)
dep_of it task = option_and_then (λ row. row.dep) (thing_in nat_cmp it.tasks task)

-- what is recorded of it, where the task is a deploy
abbrev pub deployed : Recorded → ℕ → Option DepRow
deployed it task =
    option_and_then (λ row. if deploys row.kind then option_and_then (deployment_in it.deployments) row.dep else None)
    (thing_in nat_cmp it.tasks task)

-- since when it is recorded
abbrev pub since_of : Recorded → ℕ → Option Since
since_of it task = option_and_then (since_in it.deployments) (dep_of it task)

abbrev pub deletes : TaskKind → Bool
deletes kinds.DeleteDeployment = true
deletes kind = false

abbrev pub is_deletion : Recorded → ℕ → Bool
is_deletion it task = option_map_or (λ row. deletes row.kind) (thing_in nat_cmp it.tasks task) false

-- what a deploy offers from now on
abbrev pub shared_at : Option Since → List Offer → Recorded → Recorded
shared_at (Some since) offers it = record it { deployments = changed since_cmp since (with_shared offers) it.deployments }
shared_at None offers it = it

-- a deployment is recorded no more
abbrev pub dropped_at : Option Since → Recorded → Recorded
dropped_at (Some since) it = record it {
  instances = wants_cleared since it;
  deployments = without since_cmp since it.deployments;
}
dropped_at None it = it

-- the deployment of a task that is done
abbrev pub deployment_done : ℕ → List Offer → Recorded → Recorded
deployment_done task offers it =
    if is_some (deployed it task) then shared_at (since_of it task) offers it
    else (if is_deletion it task then dropped_at (since_of it task) it else it)

-- no instance, machine or disk stands in the task any more

abbrev pub ping_cleared : List (Inst × Instance) → Inst → List (Inst × Instance)
ping_cleared instances inst = altered inst_cmp inst (with_ping None) instances

abbrev pub leaving_cleared : List (Inst × Instance) → Inst → List (Inst × Instance)
leaving_cleared instances inst = altered inst_cmp inst (with_leaving None) instances

abbrev pub change_cleared : List (Inst × Instance) → Inst → List (Inst × Instance)
change_cleared instances inst = altered inst_cmp inst (with_change None) instances

abbrev pub instances_cleared : Work → List (Inst × Instance) → List (Inst × Instance)
instances_cleared work instances =
    fold change_cleared (fold leaving_cleared (fold ping_cleared instances work.pings.items) work.obsolete.items)
    work.changed

abbrev pub sweep_cleared : List (MachineName × Option Machine) → MachineName → List (MachineName × Option Machine)
sweep_cleared machines name = changed machine_cmp name (with_sweep None) machines

abbrev pub deleting_cleared : List (ℕ × Option LooseDisk) → ℕ → List (ℕ × Option LooseDisk)
deleting_cleared orphans disk = changed nat_cmp disk (with_deleting None) orphans

abbrev pub machines_cleared : Work → List (MachineName × Option Machine) → List (MachineName × Option Machine)
machines_cleared work machines = fold sweep_cleared machines work.sweep.items

abbrev pub disks_cleared : Work → List (ℕ × Option LooseDisk) → List (ℕ × Option LooseDisk)
disks_cleared work orphans = fold deleting_cleared orphans work.disks.items

abbrev pub cleared : Option Work → Recorded → Recorded
cleared (Some work) it = record it {
  instances = instances_cleared work it.instances;
  machines = machines_cleared work it.machines;
  orphans = disks_cleared work it.orphans;
}
cleared None it = it

-- a task has ended, and nothing is left of it
abbrev pub closed_task : ℕ → TaskEnd → Recorded → Recorded
closed_task task end it = record (cleared (thing_in nat_cmp it.works task) it) {
  tasks = changed nat_cmp task (with_end end) it.tasks;
  works = without nat_cmp task it.works;
}

abbrev pub done_in : Entry → List Offer → Recorded → Recorded
done_in (entries.TaskDone task) offers it = closed_task task ends.Finished (deployment_done task offers it)
done_in entry offers it = it

-- ---- the calls of a task that a stop interrupted are open no more

abbrev pub is_call_of : ℕ → Option Begin → Bool
is_call_of task begin = option_map_or (λ it. it.task == task) begin false

-- how they began, in their order
abbrev pub calls_of : ℕ → List (ℕ × Option Begin) → List Begin
calls_of task places = filter (λ it. it.task == task) (things places)

abbrev pub forgotten_call : Recorded → Begin → Recorded
forgotten_call it begin = closed_call begin it

-- the first of them, by its number
abbrev pub first_call : ℕ → List (ℕ × Option Begin) → Option ℕ
first_call task places = option_map (λ place. place.0) (find (λ place. is_call_of task place.1) places)

-- where it was open
abbrev pub closed_where : Option Begin → Recorded → Recorded
closed_where (Some begin) it = closed_call begin it
closed_where None it = it

-- one of them is not open any more
abbrev pub without_call : ℕ → Recorded → Recorded
without_call n it =
    closed_where (thing_in nat_cmp it.calls n) (record it { calls = without nat_cmp n it.calls })

abbrev pub forgotten_in : ℕ → Recorded → Recorded
forgotten_in task it = record (fold forgotten_call it (calls_of task it.calls)) {
  calls = filter (λ place. not (is_call_of task place.1)) it.calls;
}

abbrev pub interrupted_in : ℕ → TaskEnd → Recorded → Recorded
interrupted_in task ends.Interrupted it = forgotten_in task it
interrupted_in task end it = it

abbrev pub error_in : Entry → TaskEnd → Recorded → Recorded
error_in (entries.TaskError error) end it = closed_task error.task end (interrupted_in error.task end it)
error_in entry end it = it
