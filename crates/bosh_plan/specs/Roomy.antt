-- The room that is made for an entry before anything changes, place by place: what is recorded says the same with it.
use Rattle.std.specs.Prelude.{ℕ, List, Option, Some, None, fold}
use Rattle.std.specs.Ordering.{nat_cmp}
use Rattle.bosh_base.specs.Inst.{inst_cmp}
use Rattle.bosh_base.specs.declared.call.Call.{Call}
use Rattle.bosh_base.specs.declared.call.Call.TheVariants as calls
use Rattle.bosh_base.specs.declared.entry.Begin.{Begin}
use Rattle.bosh_base.specs.declared.entry.TaskOpen.{TaskOpen}
use Rattle.bosh_base.specs.declared.goal.Goal.{Goal}
use Rattle.bosh_base.specs.declared.goal.GoalRow.{GoalRow}
use Rattle.bosh_base.specs.declared.inst.Inst.{Inst}
use Rattle.bosh_base.specs.declared.key.Key.{Key}
use Rattle.bosh_base.specs.declared.key.KeyWork.{KeyWork}
use Rattle.bosh_base.specs.declared.owner.Owner.{Owner}
use Rattle.bosh_base.specs.declared.owner.Owner.TheVariants as owners
use Rattle.bosh_base.specs.declared.snapshot.Orphan.{Orphan}
use Rattle.bosh_records.specs.Changes.{since_cmp}
use Rattle.bosh_records.specs.Instances.{unknown}
use Rattle.bosh_records.specs.Keys.{asked, key_cmp}
use Rattle.bosh_records.specs.Readers.{machine_cmp}
use Rattle.bosh_records.specs.Recorded.{Recorded}
use Rattle.bosh_records.specs.Table.{with_room}
use Rattle.bosh_records.specs.declared.instances.Instance.{Instance}
use Rattle.bosh_records.specs.declared.keys.KeyState.{KeyState}
use Rattle.bosh_records.specs.declared.orphans.LooseDisk.{LooseDisk}
use Rattle.bosh_records.specs.declared.records.Since.TheVariants as sinces

-- ---- a task that opens

-- for an instance that a goal wants
abbrev pub want_room : List (Inst × Instance) → GoalRow → List (Inst × Instance)
want_room instances want = with_room inst_cmp want.inst unknown instances

-- for a key that it asks for
abbrev pub key_room : List (Key × KeyState) → KeyWork → List (Key × KeyState)
key_room keys work = with_room key_cmp work.key (asked work.name) keys

abbrev pub roomy_for_goal : Goal → Recorded → Recorded
roomy_for_goal goal it =
    record it { instances = fold want_room it.instances goal.rows; keys = fold key_room it.keys goal.keys }

abbrev pub roomy_for_deployment : ℕ → Option Goal → Recorded → Recorded
roomy_for_deployment task (Some goal) it =
    roomy_for_goal goal (record it { deployments = with_room since_cmp (sinces.Task task) None it.deployments })
roomy_for_deployment task None it = it

abbrev pub roomy_for_task : TaskOpen → Recorded → Recorded
roomy_for_task opening it = roomy_for_deployment opening.task opening.goal (record it {
  tasks = with_room nat_cmp opening.task None it.tasks;
  works = with_room nat_cmp opening.task None it.works;
})

-- ---- a call that begins

-- for what is said of its owner
abbrev pub roomy_for_owner : Owner → Call → Recorded → Recorded
roomy_for_owner (owners.Instance inst) call it =
    record it { instances = with_room inst_cmp inst unknown it.instances }
roomy_for_owner (owners.Compile task slot) (calls.CreateVm make disks) it =
    record it { machines = with_room machine_cmp (record { task = task; slot = slot }) None it.machines }
roomy_for_owner (owners.Compile task slot) (calls.CompilePackage vm work deps) it =
    record it { keys = key_room it.keys work }
roomy_for_owner owner call it = it

abbrev pub roomy_for_call : Begin → Recorded → Recorded
roomy_for_call begin it =
    roomy_for_owner begin.owner begin.call (record it { calls = with_room nat_cmp begin.n None it.calls })

-- ---- disks that are left behind

abbrev pub disk_room : List (ℕ × Option LooseDisk) → Orphan → List (ℕ × Option LooseDisk)
disk_room orphans orphan = with_room nat_cmp orphan.disk None orphans

abbrev pub roomy_for_disks : List Orphan → Recorded → Recorded
roomy_for_disks left it = record it { orphans = fold disk_room it.orphans left }
