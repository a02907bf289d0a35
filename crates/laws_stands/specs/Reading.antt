-- What is read from all that records say, each at one subject.
use Rattle.std.specs.Prelude.{ℕ, Bool, false, List, Option, is_some}
use Rattle.std.specs.Option.{option_and_then, option_map, option_map_or}
use Rattle.std.specs.Ordering.{nat_cmp}
use Rattle.bosh_base.specs.Inst.{inst_cmp}
use Rattle.bosh_base.specs.declared.digest.Digest.{Digest}
use Rattle.bosh_base.specs.declared.entry.Begin.{Begin}
use Rattle.bosh_base.specs.declared.goal.Goal.{Goal}
use Rattle.bosh_base.specs.declared.inst.Inst.{Inst}
use Rattle.bosh_base.specs.declared.key.Key.{Key}
use Rattle.bosh_base.specs.declared.row.Row.{Row}
use Rattle.bosh_base.specs.declared.task.TaskRow.{TaskRow}
use Rattle.bosh_records.specs.Keys.{key_cmp}
use Rattle.bosh_records.specs.Readers.{deployment_in, machine_cmp}
use Rattle.bosh_records.specs.Recorded.{Recorded}
use Rattle.bosh_records.specs.Table.{found, thing_in}
use Rattle.bosh_records.specs.declared.instances.Instance.{Instance}
use Rattle.bosh_records.specs.declared.keys.KeyState.{KeyState}
use Rattle.bosh_records.specs.declared.machines.Machine.{Machine}
use Rattle.bosh_records.specs.declared.orphans.LooseDisk.{LooseDisk}
use Rattle.bosh_work.specs.declared.part.MachineName.{MachineName}
use Rattle.bosh_work.specs.declared.work.Work.{Work}

-- what is known of an instance
abbrev pub instance_of : Recorded → Inst → Option Instance
instance_of it i = found inst_cmp it.instances i

-- its row, where it is recorded
abbrev pub row_of : Recorded → Inst → Option Row
row_of it i = option_and_then (λ known. known.row) (instance_of it i)

-- a compile machine that is recorded
abbrev pub machine_of : Recorded → MachineName → Option Machine
machine_of it name = thing_in machine_cmp it.machines name

-- a disk that belongs to no instance any more
abbrev pub orphan_of : Recorded → ℕ → Option LooseDisk
orphan_of it d = thing_in nat_cmp it.orphans d

-- what is known of a key
abbrev pub state_of : Recorded → Key → Option KeyState
state_of it key = found key_cmp it.keys key

-- the digest of a compiled key
abbrev pub digest_of : Recorded → Key → Option Digest
digest_of it key = option_and_then (λ state. state.digest) (state_of it key)

-- an open call compiles a key
abbrev pub is_compiling : Recorded → Key → Bool
is_compiling it key = option_map_or (λ state. is_some state.call) (state_of it key) false

-- a task
abbrev pub task_of : Recorded → ℕ → Option TaskRow
task_of it t = thing_in nat_cmp it.tasks t

-- the deployment that it is of
abbrev pub dep_of : Recorded → ℕ → Option (List ℕ)
dep_of it t = option_and_then (λ row. row.dep) (task_of it t)

-- what is left of an open one
abbrev pub work_of : Recorded → ℕ → Option Work
work_of it t = thing_in nat_cmp it.works t

-- how an open call began
abbrev pub call_of : Recorded → ℕ → Option Begin
call_of it n = thing_in nat_cmp it.calls n

-- the current goal of a deployment
abbrev pub goal_of : Recorded → List ℕ → Option Goal
goal_of it dep = option_map (λ row. row.goal) (deployment_in it.deployments dep)
