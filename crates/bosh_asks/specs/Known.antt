-- What is known of what an ask names, by the records that are given.
use Rattle.std.specs.Prelude.{ℕ, ◌+◌, Bool, false, not, ◌&&◌, List, Option, is_some, map, min}
use Rattle.std.specs.Option.{option_map_or}
use Rattle.bosh_base.specs.declared.goal.GoalRow.{GoalRow}
use Rattle.bosh_base.specs.declared.inst.Inst.{Inst}
use Rattle.bosh_base.specs.declared.row.Row.{Row}
use Rattle.bosh_records.specs.Readers.{deployment_of, disk_owner, goal_of, orphan_at, row_at}
use Rattle.bosh_records.specs.declared.records.Records.{Records}
use Rattle.bosh_asks.specs.Changed.{is_in}
use Rattle.bosh_asks.specs.Recorded.{holder, is_full}

-- tasks are numbered from 1 on, and the last number that there is stays the last
abbrev pub next_task : Records → ℕ
next_task records = min (records.opened + 1) 18446744073709551615

-- the first open task that has the lock of a deployment, or that of the tasks that delete disks
abbrev pub lock_holder : Records → Option (List ℕ) → Option ℕ
lock_holder records dep = holder dep records.tasks.places.entries

abbrev pub is_recorded : Records → List ℕ → Bool
is_recorded records dep = is_some (deployment_of records dep)

-- the current goal of its deployment wants the instance
abbrev pub is_wanted : Records → Inst → Bool
is_wanted records inst = option_map_or (λ goal. is_in goal inst) (goal_of records inst.dep) false

abbrev pub is_orphaned : Records → ℕ → Bool
is_orphaned records disk = is_some (orphan_at records disk)

-- an instance has the disk
abbrev pub is_owned : Records → ℕ → Bool
is_owned records disk = is_some (disk_owner records disk)

-- the deployment is not recorded, and as many are as there may be
abbrev pub lacks_room : Records → List ℕ → Bool
lacks_room records dep = not (is_recorded records dep) && is_full records.deployments.places.entries

-- what is recorded of each instance that is wanted
abbrev pub rows_at : Records → List GoalRow → List (Option Row)
rows_at records wants = map (λ want. row_at records want.inst) wants
