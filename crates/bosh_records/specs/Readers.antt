-- What is read from the records.
use Rattle.std.specs.Prelude.{ℕ, Bool, false, ◌&&◌, ◌==◌, List, [], Option, None, find, is_none, length, option_map}
use Rattle.std.specs.Prelude.{slice_get, if◌then◌else◌}
use Rattle.std.specs.List.{list_any}
use Rattle.std.specs.Option.{option_and_then, option_map_or}
use Rattle.std.specs.Ordering.{nat_cmp, ordering_then}
use Rattle.std.specs.Str.{bytes_eq}
use Rattle.std.specs.declared.cmp.Ordering.{Ordering}
use Rattle.bosh_base.specs.declared.digest.Digest.{Digest}
use Rattle.bosh_base.specs.declared.entry.Begin.{Begin}
use Rattle.bosh_base.specs.declared.goal.Goal.{Goal}
use Rattle.bosh_base.specs.declared.goal.GoalRow.{GoalRow}
use Rattle.bosh_base.specs.declared.inst.Inst.{Inst}
use Rattle.bosh_base.specs.declared.key.Key.{Key}
use Rattle.bosh_base.specs.declared.offer.Offer.{Offer}
use Rattle.bosh_base.specs.declared.row.Row.{Row}
use Rattle.bosh_base.specs.declared.snapshot.DepRow.{DepRow}
use Rattle.bosh_base.specs.declared.task.TaskRow.{TaskRow}
use Rattle.bosh_records.specs.Instances.{known_in, row_in}
use Rattle.bosh_records.specs.Keys.{digest_in, is_compiling_in}
use Rattle.bosh_records.specs.Kinds.{deploys}
use Rattle.bosh_records.specs.Table.{thing_at, things}
use Rattle.bosh_records.specs.declared.instances.Instance.{Instance}
use Rattle.bosh_records.specs.declared.machines.Machine.{Machine}
use Rattle.bosh_work.specs.declared.part.MachineName.{MachineName}
use Rattle.bosh_records.specs.declared.orphans.LooseDisk.{LooseDisk}
use Rattle.bosh_records.specs.declared.records.Records.{Records}
use Rattle.bosh_records.specs.declared.records.Since.{Since}
use Rattle.bosh_work.specs.declared.work.Work.{Work}

-- nothing was recorded yet
abbrev pub is_empty : Records → Bool
is_empty records =
    length records.releases.items == 0
    && (length records.stemcells.items == 0 && (is_none records.config && records.opened == 0))

-- since when a deployment is recorded
abbrev pub since_in : List (Since × Option DepRow) → List ℕ → Option Since
since_in places dep =
    option_map (λ place. place.0) (find (λ place. option_map_or (λ row. bytes_eq row.dep dep) place.1 false) places)

-- what is recorded of a deployment
abbrev pub deployment_in : List (Since × Option DepRow) → List ℕ → Option DepRow
deployment_in places dep = find (λ row. bytes_eq row.dep dep) (things places)

abbrev pub deployment_of : Records → List ℕ → Option DepRow
deployment_of records dep = deployment_in records.deployments.places.entries dep

-- the current goal of a deployment
abbrev pub goal_of : Records → List ℕ → Option Goal
goal_of records dep = option_map (λ row. row.goal) (deployment_of records dep)

-- the offers of the last deploy of a deployment that was done
abbrev pub shared_of : Records → List ℕ → List Offer
shared_of records dep = option_map_or (λ row. row.shared) (deployment_of records dep) []

-- what is known of an instance
abbrev pub instance_at : Records → Inst → Option Instance
instance_at records inst = known_in records.instances inst

-- what is recorded of an instance
abbrev pub row_at : Records → Inst → Option Row
row_at records inst = row_in records.instances inst

-- how a goal wants the instance that stands at a place of it
abbrev pub want_at : Option Goal → Option ℕ → Option GoalRow
want_at goal place = option_and_then (λ it. option_and_then (λ k. slice_get it.rows k) place) goal

-- how the current goal of its deployment wants an instance
abbrev pub want_of : Records → Inst → Option GoalRow
want_of records inst =
    want_at (goal_of records inst.dep) (option_and_then (λ it. it.want) (instance_at records inst))

-- by task, then slot
abbrev pub machine_cmp : MachineName → MachineName → Ordering
machine_cmp a b = ordering_then (nat_cmp a.task b.task) (nat_cmp a.slot b.slot)

-- a compile machine that is recorded
abbrev pub machine_at : Records → MachineName → Option Machine
machine_at records name = thing_at machine_cmp records.machines.places name

-- a disk that belongs to no instance any more
abbrev pub orphan_at : Records → ℕ → Option LooseDisk
orphan_at records disk = thing_at nat_cmp records.orphans.places disk

-- a row has a disk
abbrev pub has_disk : Option Row → ℕ → Bool
has_disk row disk = option_map_or (λ it. list_any (λ d. d.disk == disk) it.disks) row false

-- the first of the instances whose row has a disk
abbrev pub owner_in : List (Inst × Instance) → ℕ → Option Inst
owner_in entries disk = option_map (λ entry. entry.0) (find (λ entry. has_disk entry.1.row disk) entries)

abbrev pub disk_owner : Records → ℕ → Option Inst
disk_owner records disk = owner_in records.instances.by_inst.entries disk

-- the digest of a compiled key
abbrev pub digest_of : Records → Key → Option Digest
digest_of records key = digest_in records.keys key

-- an open call compiles a key
abbrev pub is_compiling : Records → Key → Bool
is_compiling records key = is_compiling_in records.keys key

-- a task, by its number
abbrev pub task_at : Records → ℕ → Option TaskRow
task_at records task = thing_at nat_cmp records.tasks.places task

-- the deployment that a task is of
abbrev pub dep_of_task : Records → ℕ → Option (List ℕ)
dep_of_task records task = option_and_then (λ row. row.dep) (task_at records task)

-- what is recorded of the deployment of a task, where it is a deploy
abbrev pub deployed_in : Records → TaskRow → Option DepRow
deployed_in records row = if deploys row.kind then option_and_then (deployment_of records) row.dep else None

abbrev pub deployed_by : Records → ℕ → Option DepRow
deployed_by records task = option_and_then (deployed_in records) (task_at records task)

-- what is left to do of an open task
abbrev pub work_at : Records → ℕ → Option Work
work_at records task = thing_at nat_cmp records.works.places task

-- how an open call began
abbrev pub call_at : Records → ℕ → Option Begin
call_at records n = thing_at nat_cmp records.calls.places n
