-- What is left to do of a task that opens.
use Rattle.std.specs.Prelude.{ℕ, Bool, false, true, ◌&&◌, List, [], Option, Some, None, fold, is_some, length, map, not}
use Rattle.std.specs.Prelude.{replicate, if◌then◌else◌}
use Rattle.std.specs.List.{enumerate_from, filter}
use Rattle.std.specs.Option.{option_map_or}
use Rattle.std.specs.Str.{bytes_eq}
use Rattle.bosh_base.specs.contracts.inst.InstPartialEq.TheImpl as inst_test
use Rattle.bosh_base.specs.declared.entry.TaskOpen.{TaskOpen}
use Rattle.bosh_base.specs.declared.goal.Goal.{Goal}
use Rattle.bosh_base.specs.declared.inst.Inst.{Inst}
use Rattle.bosh_base.specs.declared.key.Key.{Key}
use Rattle.bosh_base.specs.declared.key.KeyWork.{KeyWork}
use Rattle.bosh_base.specs.declared.row.Row.{Row}
use Rattle.bosh_base.specs.declared.task.TaskKind.{TaskKind}
use Rattle.bosh_base.specs.declared.task.TaskKind.TheVariants as kinds
use Rattle.bosh_records.specs.Keys.{digest_in}
use Rattle.bosh_records.specs.declared.instances.Instance.{Instance}
use Rattle.bosh_records.specs.declared.keys.Keys.{Keys}
use Rattle.bosh_records.specs.declared.machines.Machine.{Machine}
use Rattle.bosh_records.specs.declared.records.Records.{Records}
use Rattle.bosh_work.specs.Line.{finished_line}
use Rattle.bosh_work.specs.declared.line.Line.{Line}
use Rattle.bosh_work.specs.declared.part.MachineName.{MachineName}
use Rattle.bosh_work.specs.declared.work.Work.{Work}
use Rattle.bosh_plan.specs.Grouping.{groups_by}

-- ---- lines

abbrev pub no_line : {T : Type 0} → Line T
no_line = record { items = []; queue = record { left = []; free = [] } }

-- items of which all are left
abbrev pub full : {T : Type 0} → List T → Line T
full items = record {
  items = items;
  queue = record { left = replicate (length items) true; free = replicate (length items) true };
}

-- nothing is left to do of a task
abbrev pub nothing : ℕ → Work
nothing task = record {
  task = task;
  pings = no_line;
  sweep = no_line;
  keys = no_line;
  slots = 0;
  machines = 0;
  obsolete = no_line;
  changed = [];
  groups = [];
  disks = no_line;
  failed = None;
  «open» = 0;
}

-- ---- who is asked first whether its machine answers

-- it is this deployment, where there is one
abbrev pub is_of : Option (List ℕ) → List ℕ → Bool
is_of dep other = option_map_or (λ it. bytes_eq it other) dep false

-- a deploy that looks whether machines answer asks its deployment, the task that resolves an instance that one
abbrev pub is_asked : TaskOpen → Inst → Bool
is_asked opening inst = by opening.kind
  where
    by : TaskKind → Bool
    by kinds.Fix = is_of opening.dep inst.dep
    by (kinds.Resolve named) = inst_test.ghosts.eq named inst
    by kind = false

-- it has a machine that is not known to be lost
abbrev pub has_machine : Option Row → Bool
has_machine row = option_map_or (λ it. is_some it.vm && not it.lost) row false

abbrev pub asked_in : TaskOpen → List (Inst × Instance) → List Inst
asked_in opening instances =
    map (λ entry. entry.0) (filter (λ entry. is_asked opening entry.0 && has_machine entry.1.row) instances)

-- ---- the compile machines of the deployment that are recorded

abbrev pub is_swept : Option (List ℕ) → Option Machine → Bool
is_swept dep machine = option_map_or (λ it. is_of dep it.row.dep) machine false

abbrev pub swept_in : Option (List ℕ) → List (MachineName × Option Machine) → List MachineName
swept_in dep machines = map (λ place. place.0) (filter (λ place. is_swept dep place.1) machines)

-- ---- keys: those that are compiled already are not left

abbrev pub with_key : Keys → Line Key → ℕ × KeyWork → Line Key
with_key keys line work =
    if is_some (digest_in keys work.1.key) then finished_line line (Some work.0) else line

abbrev pub key_line : Keys → List KeyWork → Line Key
key_line keys works = fold (with_key keys) (full (map (λ work. work.key) works)) (enumerate_from 0 works)

-- ---- all of a task

abbrev pub with_keys : Keys → Option Goal → Work → Work
with_keys keys (Some goal) work = record work { keys = key_line keys goal.keys; slots = length goal.slots }
with_keys keys None work = work

-- what is asked, swept and compiled before any instance changes
abbrev pub with_before : Records → TaskOpen → Work → Work
with_before records opening work = with_keys records.keys opening.goal (record work {
  pings = full (asked_in opening records.instances.by_inst.entries);
  sweep = full (swept_in opening.dep records.machines.places.entries);
})

-- which instances leave and change, and which disks are deleted
abbrev pub with_changes : TaskOpen → Work → Work
with_changes opening work = record work {
  obsolete = full opening.obsolete;
  changed = opening.changed;
  groups = groups_by opening;
  disks = full opening.disks;
}

abbrev pub work_by : Records → TaskOpen → Work
work_by records opening = with_changes opening (with_before records opening (nothing opening.task))
