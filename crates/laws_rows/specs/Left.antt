-- How many calls an instance needs until nothing is to be done for it (this project's profile): each step of the step
-- rule, answered as it is asked, leaves one less at least.
use Rattle.std.specs.Prelude.{ℕ, ◌+◌, Bool, true, false, not, ◌&&◌, ◌||◌, if◌then◌else◌, Option, Some, None, is_some, is_none, List, map}
use Rattle.std.specs.List.{sum_by}
use Rattle.bosh_base.specs.CallStep.{answer_of}
use Rattle.bosh_base.specs.declared.call.Call.{Call}
use Rattle.bosh_base.specs.declared.digest.Digest.{Digest}
use Rattle.bosh_base.specs.declared.disk_want.DiskWant.{DiskWant}
use Rattle.bosh_base.specs.declared.entry.Entry.{Entry}
use Rattle.bosh_base.specs.declared.goal.GoalRow.{GoalRow}
use Rattle.bosh_base.specs.declared.key.KeyWork.{KeyWork}
use Rattle.bosh_base.specs.declared.method.Method.{Method}
use Rattle.bosh_base.specs.declared.method.Method.TheVariants.{FindDisk, HasVm}
use Rattle.bosh_base.specs.declared.row.DiskRow.{DiskRow}
use Rattle.bosh_base.specs.declared.row.Doubt.{Doubt}
use Rattle.bosh_base.specs.declared.row.Row.{Row}
use Rattle.bosh_base.specs.declared.row.Vm.{Vm}
use Rattle.bosh_rows.specs.After.{after, let_go}
use Rattle.bosh_rows.specs.CallOf.{call_of}
use Rattle.bosh_rows.specs.Disks.{active, coming, is_active, is_detached, is_right, is_running, is_spare_beside}
use Rattle.bosh_rows.specs.NextStep.{has_to_go, has_to_stop, lost_step, probe_step, spec_differs}
pub use Rattle.bosh_rows.specs.Tied.{one_if}
use Rattle.bosh_rows.specs.declared.step.Step.{Step}

-- ---- the disks

-- a disk that is to be unmounted and detached
abbrev pub to_free : DiskRow → ℕ
to_free d = one_if d.attached + one_if d.mounted

-- a disk that is to be attached and mounted
abbrev pub to_place : DiskRow → ℕ
to_place d = one_if (not d.attached) + one_if (not d.mounted)

-- Where a disk is wanted, the active one is to be at its place, and the one that comes in the place of an active one.
abbrev pub is_of_use : Option DiskWant → List DiskRow → DiskRow → Bool
is_of_use None disks d = false
is_of_use (Some wanted) disks d =
    is_active d || (is_some (active disks) && not (is_spare_beside (coming (Some wanted) disks) d))

abbrev pub left_by : Bool → DiskRow → ℕ
left_by true d = to_place d
left_by false d = to_free d

abbrev pub disk_left : Option DiskWant → List DiskRow → DiskRow → ℕ
disk_left want disks d = left_by (is_of_use want disks d) d

-- A disk that is missing is to be created, attached and mounted. Where another takes the place of the active one, the
-- contents are to be moved, and the old one to be unmounted and detached.
abbrev pub missing_beside : DiskWant → Option DiskRow → Option DiskRow → ℕ
missing_beside wanted None new = 3
missing_beside wanted (Some old) new = if is_right wanted old then 0 else 3 + (if is_none new then 3 else 0)

abbrev pub disks_missing : Option DiskWant → List DiskRow → ℕ
disks_missing None disks = 0
disks_missing (Some wanted) disks = missing_beside wanted (active disks) (coming (Some wanted) disks)

abbrev pub disk_work : Option DiskWant → List DiskRow → ℕ
disk_work want disks = sum_by (disk_left want disks) disks + disks_missing want disks

-- ---- the machine

-- A machine is created, gets its disks and its spec, and is started.
abbrev pub left_from_nothing : Option GoalRow → List DiskRow → ℕ
left_from_nothing None disks = 0
left_from_nothing (Some want) disks =
    if is_detached want.state then 0
    else 2 + disk_work want.disk (map let_go disks) + one_if (is_running want.state)

-- A machine that nobody wants is drained, stopped, loses its disks, and is deleted.
abbrev pub left_to_remove : Row → ℕ
left_to_remove row =
    one_if (row.running && not row.drained) + one_if row.running + sum_by to_free row.disks + 1

-- what is left of the right machine while it rests
abbrev pub left_at_rest : GoalRow → Row → ℕ
left_at_rest want row =
    disk_work want.disk row.disks + one_if (spec_differs want row) + one_if (is_running want.state)

-- A right machine that runs is drained and stopped first, where something is to be done for it.
abbrev pub left_to_tend : GoalRow → Row → ℕ
left_to_tend want row =
    if row.running
    then (if has_to_stop want row then one_if (not row.drained) + 1 + left_at_rest want row else 0)
    else left_at_rest want row

abbrev pub left_of_machine : Option GoalRow → Row → Option Vm → ℕ
left_of_machine want row None = left_from_nothing want row.disks
left_of_machine None row (Some vm) = left_to_remove row
left_of_machine (Some want) row (Some vm) =
    if has_to_go want row vm then left_to_remove row + left_from_nothing (Some want) row.disks
    else left_to_tend want row

-- .. of a row that is neither lost nor in doubt
abbrev pub left_known : Option GoalRow → Row → ℕ
left_known want row = left_of_machine want row row.vm

-- ---- what is not known

-- the row as the answer to a call leaves it that only asks
abbrev pub asked : (KeyWork → List Digest → Digest) → List Entry → Step → Row → Row
asked built effects step row = by_call (call_of step None row)
  where
    by_call : Option Call → Row
    by_call (Some call) = after 0 call (answer_of built effects call) row
    by_call None = row

-- the row, once it was asked what became of the call in doubt
abbrev pub settled : (KeyWork → List Digest → Digest) → List Entry → Row → Row
settled built effects row = by_doubt row.doubt
  where
    by_doubt : Option Doubt → Row
    by_doubt (Some doubt) = asked built effects (probe_step doubt) row
    by_doubt None = row

-- the machine of a lost row is deleted, once it is known which disk or machine there is
abbrev pub left_of_lost : (KeyWork → List Digest → Digest) → Option GoalRow → List Entry → Row → ℕ
left_of_lost built want effects row = by_doubt row.doubt
  where
    by_method : Step → Method → ℕ
    by_method step FindDisk = 2 + left_from_nothing want (asked built effects step row).disks
    by_method step HasVm = 2 + left_from_nothing want (asked built effects step row).disks
    by_method step method = 1 + left_from_nothing want row.disks

    by_doubt : Option Doubt → ℕ
    by_doubt doubt = by_method (lost_step doubt) (lost_step doubt).method

abbrev pub left_in_doubt : (KeyWork → List Digest → Digest) → Option GoalRow → List Entry → Row → Option Doubt → ℕ
left_in_doubt built want effects row (Some doubt) = 1 + left_known want (settled built effects row)
left_in_doubt built want effects row None = left_known want row

abbrev pub calls_left : (KeyWork → List Digest → Digest) → Option GoalRow → List Entry → Row → ℕ
calls_left built want effects row =
    if row.lost then left_of_lost built want effects row else left_in_doubt built want effects row row.doubt
