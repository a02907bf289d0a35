-- All that is known, as one entry tells it, and what is known by that entry (this project's profile).
use Rattle.std.specs.Prelude.{ℕ, ◌&&◌, ◌==◌, Option, Some, None, List, [], find, length, map}
use Rattle.std.specs.List.{filter_map}
use Rattle.std.specs.Option.{option_and_then, option_map}
use Rattle.std.specs.Str.{bytes_eq}
use Rattle.bosh_base.specs.Cloud.{numbers_to}
use Rattle.bosh_base.specs.declared.digest.Digest.{Digest}
use Rattle.bosh_base.specs.declared.goal.Goal.{Goal}
use Rattle.bosh_base.specs.declared.inst.Inst.{Inst}
use Rattle.bosh_base.specs.declared.key.Key.{Key}
use Rattle.bosh_base.specs.declared.offer.Offer.{Offer}
use Rattle.bosh_base.specs.declared.row.Row.{Row}
use Rattle.bosh_base.specs.declared.snapshot.CompileRow.{CompileRow}
use Rattle.bosh_base.specs.declared.snapshot.DepRow.{DepRow}
use Rattle.bosh_base.specs.declared.snapshot.Snapshot.{Snapshot}
use Rattle.bosh_base.specs.declared.task.TaskRow.{TaskRow}
use Rattle.bosh_compile.specs.Readiness.{same_key}
use Rattle.bosh_history.specs.Known.{Known, Task, Slot, SlotName, no_task}
use Rattle.bosh_rows.specs.After.{bare}
use Rattle.bosh_rows.specs.Same.{same_inst}

-- ---- as an entry tells it

abbrev pub task_row : Known → ℕ → TaskRow
task_row k t = record {
  task = t;
  kind = (k.task t).kind;
  dep = (k.task t).dep;
  end = (k.task t).end;
  source = (k.task t).source;
  calls = (k.task t).calls;
}

abbrev pub dep_row : Known → List ℕ → Option DepRow
dep_row k dep = option_map (λ goal. record { dep = dep; goal = goal; shared = k.shared dep }) (k.goal dep)

abbrev pub compile_row : Known → SlotName → Option CompileRow
compile_row k name = option_map row (k.slot name.task name.slot)
  where
    row : Slot → CompileRow
    row it = record { task = name.task; slot = name.slot; dep = it.dep; make = it.make; vm = it.vm; doubt = it.doubt }

-- all that is known, but for what only a task that goes on needs
abbrev pub snapshot_of : Known → Snapshot
snapshot_of k = record {
  releases = k.releases;
  stemcells = k.stemcells;
  config = k.config;
  deployments = filter_map (dep_row k) k.deployments;
  rows = map k.row k.instances;
  compile_rows = filter_map (compile_row k) k.machines;
  orphans = filter_map k.orphan k.orphans;
  built_keys = k.built;
  tasks = map (task_row k) (numbers_to k.tasks);
  last_call = k.last_call;
}

-- ---- what is known by it

abbrev pub deployment : Snapshot → List ℕ → Option DepRow
deployment s dep = find (λ it. bytes_eq it.dep dep) s.deployments

abbrev pub current_goal : Snapshot → List ℕ → Option Goal
current_goal s dep = option_map (λ it. it.goal) (deployment s dep)

abbrev pub offers : Option DepRow → List Offer
offers (Some it) = it.shared
offers None = []

abbrev pub or_bare : Inst → Option Row → Row
or_bare i (Some it) = it
or_bare i None = bare i

abbrev pub row : Snapshot → Inst → Row
row s i = or_bare i (find (λ it. same_inst it.inst i) s.rows)

abbrev pub slot : CompileRow → Slot
slot it = record { dep = it.dep; make = it.make; vm = it.vm; doubt = it.doubt; key = None }

abbrev pub compile_slot : Snapshot → ℕ → ℕ → Option Slot
compile_slot s t number = option_map slot (find (λ it. it.task == t && it.slot == number) s.compile_rows)

abbrev pub compiled : Snapshot → Key → Option Digest
compiled s key = option_map (λ it. it.digest) (find (λ it. same_key it.key key) s.built_keys)

abbrev pub task : Snapshot → TaskRow → Task
task s it = record no_task {
  kind = it.kind;
  dep = it.dep;
  source = it.source;
  calls = it.calls;
  end = it.end;
  goal = option_and_then (current_goal s) it.dep;
}

abbrev pub task_of : Snapshot → ℕ → Task
task_of s t = found (find (λ it. it.task == t) s.tasks)
  where
    found : Option TaskRow → Task
    found (Some it) = task s it
    found None = no_task

abbrev pub known_by : Snapshot → Known
known_by s = record {
  releases = s.releases;
  stemcells = s.stemcells;
  config = s.config;
  deployments = map (λ it. it.dep) s.deployments;
  goal = current_goal s;
  shared = λ dep. offers (deployment s dep);
  instances = map (λ it. it.inst) s.rows;
  row = row s;
  machines = map (λ it. record { task = it.task; slot = it.slot }) s.compile_rows;
  slot = compile_slot s;
  orphans = map (λ it. it.disk) s.orphans;
  orphan = λ d. find (λ it. it.disk == d) s.orphans;
  built = s.built_keys;
  digest = compiled s;
  tasks = length s.tasks;
  task = task_of s;
  begun = λ n. None;
  last_call = s.last_call;
}
