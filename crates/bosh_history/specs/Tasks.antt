-- What the opening and the end of a task tell (this project's profile).
use Rattle.std.specs.Prelude.{ℕ, Bool, false, eqb, not, ◌&&◌, if◌then◌else◌, Option, Some, None, is_some, List, [], ◌∷◌, ◌++◌, filter}
use Rattle.std.specs.List.{list_any}
use Rattle.std.specs.Str.{bytes_eq}
use Rattle.bosh_base.specs.Call.{method_of}
use Rattle.bosh_base.specs.declared.entry.Begin.{Begin}
use Rattle.bosh_base.specs.declared.entry.TaskOpen.{TaskOpen}
use Rattle.bosh_base.specs.declared.failure.Failure.{Failure}
use Rattle.bosh_base.specs.declared.failure.Failure.TheVariants as failures
use Rattle.bosh_base.specs.declared.goal.Goal.{Goal}
use Rattle.bosh_base.specs.declared.inst.Inst.{Inst}
use Rattle.bosh_base.specs.declared.task.TaskEnd.{TaskEnd}
use Rattle.bosh_base.specs.declared.task.TaskEnd.TheVariants as ends
use Rattle.bosh_base.specs.declared.task.TaskKind.{TaskKind}
use Rattle.bosh_base.specs.declared.task.TaskKind.TheVariants.{Deploy, DeleteDeployment, Fix, Resolve}
use Rattle.bosh_history.specs.Known.{Known, Task, no_task, dep_of_task, with_task, offers_in}
use Rattle.bosh_history.specs.Words.{at, without, holds}
use Rattle.bosh_rows.specs.Same.{same_inst}

-- ---- a task opens

-- its rows that have a machine which is not known to be lost
abbrev pub has_machine : Known → Inst → Bool
has_machine k i = is_some (k.row i).vm && not (k.row i).lost

abbrev pub is_of_dep : Option (List ℕ) → Inst → Bool
is_of_dep dep i = holds (bytes_eq i.dep) dep

-- A deploy that looks whether each machine answers asks those of all rows of its deployment, and the task that
-- resolves one instance asks that of its row.
abbrev pub asks_of : TaskKind → Option (List ℕ) → Inst → Bool
asks_of Fix dep i = is_of_dep dep i
asks_of (Resolve named) dep i = same_inst named i
asks_of kind dep i = false

abbrev pub to_ping : Known → TaskOpen → List Inst
to_ping k o = filter (λ i. asks_of o.kind o.dep i && has_machine k i) k.instances

abbrev pub task_opened : Known → TaskOpen → Task
task_opened k o = record no_task {
  kind = o.kind;
  dep = o.dep;
  source = o.source;
  goal = o.goal;
  changed = o.changed;
  obsolete = o.obsolete;
  disks = o.disks;
  to_ping = to_ping k o;
  orphans = k.orphans;
  calls = Some 0;
}

-- the goal of a task is the current one of its deployment from here on
abbrev pub goal_set : Option (List ℕ) → Option Goal → (List ℕ → Option Goal) → List ℕ → Option Goal
goal_set (Some dep) goal old = at bytes_eq dep goal old
goal_set None goal old = old

abbrev pub listed : List ℕ → List (List ℕ) → List (List ℕ)
listed dep deps = if list_any (bytes_eq dep) deps then deps else deps ++ dep ∷ []

abbrev pub deployment_listed : Option (List ℕ) → List (List ℕ) → List (List ℕ)
deployment_listed (Some dep) deps = listed dep deps
deployment_listed None deps = deps

abbrev pub opened : TaskOpen → Known → Known
opened o k = record k {
  tasks = o.task;
  task = at eqb o.task (task_opened k o) k.task;
  goal = goal_set o.dep o.goal k.goal;
  deployments = deployment_listed o.dep k.deployments;
}

-- ---- a task ends

-- the owner and the method of a call, where it is known how it began
abbrev pub end_by : Failure → Option Begin → TaskEnd
end_by failures.Interrupted begin = ends.Interrupted
end_by (failures.Call n) (Some b) = ends.Fault n (method_of b.call) b.owner
end_by (failures.Gone n) (Some b) = ends.Gone n (method_of b.call) b.owner
end_by failure None = ends.Interrupted

-- A deploy that is done offers what its goal does, and a deployment that is deleted is recorded no more.
abbrev pub settles : TaskKind → Option Goal → List ℕ → Known → Known
settles Deploy goal dep k = record k { shared = at bytes_eq dep (offers_in goal) k.shared }
settles Fix goal dep k = record k { shared = at bytes_eq dep (offers_in goal) k.shared }
settles DeleteDeployment goal dep k = record k {
  deployments = without bytes_eq dep k.deployments;
  goal = at bytes_eq dep None k.goal;
  shared = at bytes_eq dep [] k.shared;
}
settles kind goal dep k = k

abbrev pub task_done : ℕ → Known → Known
task_done t k =
    with_task t (λ it. record it { end = Some ends.Finished })
    (settles (k.task t).kind (k.task t).goal (dep_of_task k t) k)
