-- What is to be done next for an instance: the first rule that applies
-- (this project's profile; bosh.io, "Deploying" and "Job lifecycle": a machine is drained, stopped, and its disks are
-- unmounted and detached before it is deleted; a job is stopped before its spec or its disk changes).
use Rattle.std.specs.Prelude.{Bool, not, nat_le, ◌&&◌, ◌||◌, if◌then◌else◌, Option, Some, None, List, [], ◌∷◌}
use Rattle.std.specs.List.{list_any}
use Rattle.std.specs.Option.{option_eq, option_map}
use Rattle.bosh_base.specs.Call.{method_of}
use Rattle.bosh_base.specs.Cloud.{when}
use Rattle.bosh_base.specs.declared.disk_want.DiskWant.{DiskWant}
use Rattle.bosh_base.specs.declared.goal.GoalRow.{GoalRow}
use Rattle.bosh_base.specs.declared.method.Method.{Method}
use Rattle.bosh_base.specs.declared.method.Method.TheVariants.{CreateVm, DeleteVm, HasVm, FindVm, CreateDisk, FindDisk, AttachDisk, DetachDisk, GetDisks, GetState, Apply, Start, Drain, Stop, MountDisk, UnmountDisk, ListDisk, MigrateDisk}
use Rattle.bosh_base.specs.declared.row.DiskRow.{DiskRow}
use Rattle.bosh_base.specs.declared.row.Doubt.{Doubt}
use Rattle.bosh_base.specs.declared.row.Row.{Row}
use Rattle.bosh_base.specs.declared.row.Vm.{Vm}
use Rattle.bosh_rows.specs.Disks.{is_active, meets, least, active, is_running, is_detached, is_right, coming, is_spare}
use Rattle.bosh_rows.specs.Same.{same_make, same_spec}
use Rattle.bosh_rows.specs.declared.step.Step.{Step}

-- a step that names no disk
abbrev pub plain : Method → Step
plain method = record { method = method; disk = None }

-- a step on a disk
abbrev pub with_disk : Method → DiskRow → Step
with_disk method d = record { method = method; disk = Some d.disk }

-- a step on a disk, where there is one
abbrev pub on : Method → Option DiskRow → Option Step
on method d = option_map (with_disk method) d

-- the first step that there is
abbrev pub first_of : List (Option Step) → Option Step
first_of [] = None
first_of (Some step ∷ steps) = Some step
first_of (None ∷ steps) = first_of steps

-- the least mounted disk of those that meet the test is unmounted, and else the least attached one detached
abbrev pub letting_go : (DiskRow → Bool) → List DiskRow → Option Step
letting_go test disks = first_of
    (on UnmountDisk (least (λ d. test d && d.mounted) disks)
    ∷ on DetachDisk (least (λ d. test d && d.attached) disks)
    ∷ [])

-- ---- rules 0 and 1: what is not known comes first

-- 0. A machine that did not answer goes, once it is known which disk or machine there is.
abbrev pub lost_method : Method → Method
lost_method CreateDisk = FindDisk
lost_method DeleteVm = HasVm
lost_method method = DeleteVm

abbrev pub lost_step : Option Doubt → Step
lost_step (Some doubt) = plain (lost_method (method_of doubt.call))
lost_step None = plain DeleteVm

-- 1. A call whose answer is not known is asked for.
abbrev pub probe_method : Method → Method
probe_method CreateVm = FindVm
probe_method DeleteVm = HasVm
probe_method CreateDisk = FindDisk
probe_method AttachDisk = GetDisks
probe_method DetachDisk = GetDisks
probe_method MountDisk = ListDisk
probe_method UnmountDisk = ListDisk
probe_method method = GetState

abbrev pub probe_step : Doubt → Step
probe_step doubt = plain (probe_method (method_of doubt.call))

-- ---- rules 2 and 3: another machine, or none

-- nobody wants the machine: the instance is to be detached, or is wanted of another make or of a later call
abbrev pub has_to_go : GoalRow → Row → Vm → Bool
has_to_go want row vm =
    is_detached want.state
    || (not (option_eq same_make row.make (Some want.make)) || nat_le vm.agent want.fresh_after)

-- 2. A machine that nobody wants is drained, stopped, loses its disks, and is deleted.
abbrev pub removal : Row → Option Step
removal row = first_of
    (when (row.running && not row.drained) (plain Drain)
    ∷ when row.running (plain Stop)
    ∷ on UnmountDisk (least (λ d. d.mounted) row.disks)
    ∷ on DetachDisk (least (λ d. d.attached) row.disks)
    ∷ Some (plain DeleteVm)
    ∷ [])

-- 3. A machine that is missing is created.
abbrev pub creation : GoalRow → Option Step
creation want = when (not (is_detached want.state)) (plain CreateVm)

-- ---- rules 4 to 11: the right machine

abbrev pub spec_differs : GoalRow → Row → Bool
spec_differs want row = not (option_eq same_spec row.spec (Some want.spec))

-- the disk is right, and at its place on the machine
abbrev pub is_in_place : DiskWant → DiskRow → Bool
is_in_place wanted d = is_right wanted d && (d.attached && d.mounted)

-- where a disk is wanted, the active one is in its place; where none is, it is not attached
abbrev pub is_disk_settled : Option DiskWant → List DiskRow → Bool
is_disk_settled (Some wanted) disks = meets (is_in_place wanted) (active disks)
is_disk_settled None disks = not (meets (λ d. d.attached) (active disks))

-- something is to be done that a running job must not see
abbrev pub has_to_stop : GoalRow → Row → Bool
has_to_stop want row =
    spec_differs want row
    || (not (is_running want.state)
    || (not (is_disk_settled want.disk row.disks)
    || (list_any (λ d. is_spare want.disk row.disks d && d.attached) row.disks
    || list_any (λ d. not (is_active d) && d.mounted) row.disks)))

-- 4. A running machine is drained and stopped first.
abbrev pub pausing : GoalRow → Row → Option Step
pausing want row =
    if row.running && has_to_stop want row
    then first_of (when (not row.drained) (plain Drain) ∷ Some (plain Stop) ∷ [])
    else None

-- 5. Spare disks are unmounted and detached.
abbrev pub clearing : GoalRow → Row → Option Step
clearing want row = first_of
    (on UnmountDisk (least (λ d. is_spare want.disk row.disks d && d.mounted) row.disks)
    ∷ on DetachDisk (least (λ d. is_spare want.disk row.disks d && d.attached) row.disks)
    ∷ [])

-- 6. Where no disk is wanted, the active one is unmounted and detached.
abbrev pub releasing : Row → Option Step
releasing row = first_of
    (on UnmountDisk (least (λ d. is_active d && d.mounted) row.disks)
    ∷ on DetachDisk (least (λ d. is_active d && d.attached) row.disks)
    ∷ [])

-- 8. A disk is attached and mounted.
abbrev pub placing : DiskRow → Option Step
placing d = first_of
    (when (not d.attached) (with_disk AttachDisk d)
    ∷ when (not d.mounted) (with_disk MountDisk d)
    ∷ [])

-- 9. An active disk that is not right has its contents moved to a new one.
abbrev pub replacing : Option DiskRow → Option Step
replacing (Some new) = first_of (placing new ∷ Some (with_disk MigrateDisk new) ∷ [])
replacing None = Some (plain CreateDisk)

-- 7. Where a disk is wanted and there is no active one, it is created; 8 and 9 speak of the active one.
abbrev pub providing : DiskWant → List DiskRow → Option DiskRow → Option Step
providing wanted disks None = Some (plain CreateDisk)
providing wanted disks (Some old) =
    first_of (placing old ∷ (if is_right wanted old then None else replacing (coming (Some wanted) disks)) ∷ [])

abbrev pub disk_step : GoalRow → Row → Option DiskWant → Option Step
disk_step want row (Some wanted) = providing wanted row.disks (active row.disks)
disk_step want row None = releasing row

-- 10. The spec that is wanted is applied.
abbrev pub applying : GoalRow → Row → Option Step
applying want row = when (spec_differs want row) (plain Apply)

-- 11. The machine is started.
abbrev pub starting : GoalRow → Row → Option Step
starting want row = when (is_running want.state && not row.running) (plain Start)

abbrev pub tending : GoalRow → Row → Option Step
tending want row = first_of
    (pausing want row
    ∷ clearing want row
    ∷ disk_step want row want.disk
    ∷ applying want row
    ∷ starting want row
    ∷ [])

-- ---- the first rule that applies

abbrev pub machine_step : Option GoalRow → Row → Option Vm → Option Step
machine_step None row (Some vm) = removal row
machine_step None row None = None
machine_step (Some want) row (Some vm) = if has_to_go want row vm then removal row else tending want row
machine_step (Some want) row None = creation want

abbrev pub known_step : Option GoalRow → Row → Option Doubt → Option Step
known_step want row (Some doubt) = Some (probe_step doubt)
known_step want row None = machine_step want row row.vm

-- the next step of an instance, as it is wanted and as it is recorded; without a want it is to have nothing
abbrev pub next_step : Option GoalRow → Row → Option Step
next_step want row = if row.lost then Some (lost_step row.doubt) else known_step want row row.doubt
