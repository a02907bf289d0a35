-- What is recorded once a snapshot has taken the place of all.
use Rattle.std.specs.Prelude.{ℕ, ◌+◌, List, Option, Some, None, fold, min}
use Rattle.std.specs.List.{enumerate_from}
use Rattle.std.specs.Ordering.{nat_cmp}
use Rattle.bosh_base.specs.Inst.{inst_cmp}
use Rattle.bosh_base.specs.declared.goal.Goal.{Goal}
use Rattle.bosh_base.specs.declared.inst.Inst.{Inst}
use Rattle.bosh_base.specs.declared.key.Key.{Key}
use Rattle.bosh_base.specs.declared.row.Row.{Row}
use Rattle.bosh_base.specs.declared.snapshot.BuiltKey.{BuiltKey}
use Rattle.bosh_base.specs.declared.snapshot.CompileRow.{CompileRow}
use Rattle.bosh_base.specs.declared.snapshot.DepRow.{DepRow}
use Rattle.bosh_base.specs.declared.snapshot.Orphan.{Orphan}
use Rattle.bosh_base.specs.declared.snapshot.Snapshot.{Snapshot}
use Rattle.bosh_base.specs.declared.task.TaskRow.{TaskRow}
use Rattle.bosh_plan.specs.Roomy.{want_room}
use Rattle.bosh_records.specs.Changes.{since_cmp}
use Rattle.bosh_records.specs.Instances.{unknown}
use Rattle.bosh_records.specs.Keys.{asked, key_cmp}
use Rattle.bosh_records.specs.Readers.{machine_cmp}
use Rattle.bosh_records.specs.Recorded.{Recorded, nothing}
use Rattle.bosh_records.specs.Table.{altered, put_at, with_room}
use Rattle.bosh_records.specs.declared.instances.Instance.{Instance}
use Rattle.bosh_records.specs.declared.keys.KeyState.{KeyState}
use Rattle.bosh_records.specs.declared.machines.Machine.{Machine}
use Rattle.bosh_records.specs.declared.orphans.LooseDisk.{LooseDisk}
use Rattle.bosh_records.specs.declared.records.Since.{Since}
use Rattle.bosh_records.specs.declared.records.Since.TheVariants as sinces
use Rattle.bosh_work.specs.declared.part.MachineName.{MachineName}
use Rattle.bosh_fold.specs.Calls.{machine_name}
use Rattle.bosh_fold.specs.Tasks.{wants_noted}
use Rattle.bosh_fold.specs.Updates.{with_loose}

-- ---- one of each, whether there was a place for it or not

abbrev pub goal_read : List (Inst × Instance) → Goal → List (Inst × Instance)
goal_read instances goal = wants_noted goal.rows (fold want_room instances goal.rows)

abbrev pub wants_read : List (Inst × Instance) → DepRow → List (Inst × Instance)
wants_read instances row = goal_read instances row.goal

abbrev pub deployment_read : List (Since × Option DepRow) → ℕ × DepRow → List (Since × Option DepRow)
deployment_read deployments row =
    put_at since_cmp (sinces.Snapshot row.0) row.1 (with_room since_cmp (sinces.Snapshot row.0) None deployments)

abbrev pub row_read : List (Inst × Instance) → Row → List (Inst × Instance)
row_read instances row =
    altered inst_cmp row.inst (λ known. record known { row = Some row }) (with_room inst_cmp row.inst unknown instances)

abbrev pub machine_of : CompileRow → Machine
machine_of row = record { row = row; key = None; sweep = None; call = None }

abbrev pub machine_read : List (MachineName × Option Machine) → CompileRow → List (MachineName × Option Machine)
machine_read machines row =
    put_at machine_cmp (machine_name row.task row.slot) (machine_of row)
    (with_room machine_cmp (machine_name row.task row.slot) None machines)

abbrev pub orphan_read : List (ℕ × Option LooseDisk) → Orphan → List (ℕ × Option LooseDisk)
orphan_read orphans orphan = with_loose (with_room nat_cmp orphan.disk None orphans) orphan

abbrev pub key_read : List (Key × KeyState) → BuiltKey → List (Key × KeyState)
key_read keys built =
    altered key_cmp built.key (λ state. record state { digest = Some built.digest })
    (with_room key_cmp built.key (asked built.name) keys)

-- one task more is counted
abbrev pub task_read : Recorded → TaskRow → Recorded
task_read it row = record it {
  came = record it.came { opened = min (it.came.opened + 1) 18446744073709551615 };
  tasks = put_at nat_cmp row.task row (with_room nat_cmp row.task None it.tasks);
}

-- ---- all of a kind

abbrev pub uploads_read : Snapshot → Recorded → Recorded
uploads_read snapshot it = record it {
  came = record it.came {
    releases = snapshot.releases;
    stemcells = snapshot.stemcells;
    config = snapshot.config;
  };
}

-- each deployment by its place in the snapshot
abbrev pub deployments_read : List DepRow → Recorded → Recorded
deployments_read rows it = record it {
  instances = fold wants_read it.instances rows;
  deployments = fold deployment_read it.deployments (enumerate_from 0 rows);
}

abbrev pub owners_read : Snapshot → Recorded → Recorded
owners_read snapshot it = record it {
  instances = fold row_read it.instances snapshot.rows;
  machines = fold machine_read it.machines snapshot.compile_rows;
  orphans = fold orphan_read it.orphans snapshot.orphans;
}

abbrev pub keys_read : List BuiltKey → Recorded → Recorded
keys_read keys it = record it { keys = fold key_read it.keys keys }

abbrev pub tasks_read : List TaskRow → Recorded → Recorded
tasks_read rows it = fold task_read it rows

abbrev pub with_last_call : ℕ → Recorded → Recorded
with_last_call n it = record it { came = record it.came { last_call = n } }

-- all that a snapshot tells
abbrev pub anew : Snapshot → Recorded
anew it =
    with_last_call it.last_call
    (tasks_read it.tasks (keys_read it.built_keys (owners_read it (deployments_read it.deployments (uploads_read it nothing)))))
