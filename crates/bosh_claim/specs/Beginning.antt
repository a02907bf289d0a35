-- Whether a call may begin.
use Rattle.std.specs.Prelude.{ℕ, Bool, false, ◌==◌, ◌&&◌, Option, Some, None, is_none, slice_get, slice_index_or}
use Rattle.std.specs.Prelude.{if◌then◌else◌}
use Rattle.std.specs.Option.{option_and_then, option_map, option_map_or}
use Rattle.bosh_base.specs.contracts.call.CallPartialEq.TheImpl as call_test
use Rattle.bosh_base.specs.declared.call.Call.{Call}
use Rattle.bosh_base.specs.declared.call.Call.TheVariants as calls
use Rattle.bosh_base.specs.declared.entry.Begin.{Begin}
use Rattle.bosh_base.specs.declared.inst.Inst.{Inst}
use Rattle.bosh_base.specs.declared.owner.Owner.{Owner}
use Rattle.bosh_base.specs.declared.owner.Owner.TheVariants as owners
use Rattle.bosh_records.specs.Readers.{instance_at, machine_at, orphan_at, want_of, work_at}
use Rattle.bosh_work.specs.declared.part.GroupPlace.{GroupPlace}
use Rattle.bosh_records.specs.declared.instances.Instance.{Instance}
use Rattle.bosh_records.specs.declared.machines.Machine.{Machine}
use Rattle.bosh_records.specs.declared.orphans.LooseDisk.{LooseDisk}
use Rattle.bosh_records.specs.declared.records.Records.{Records}
use Rattle.bosh_work.specs.declared.groups.GroupWork.{GroupWork}
use Rattle.bosh_work.specs.declared.line.Line.{Line}
use Rattle.bosh_work.specs.declared.work.Work.{Work}
use Rattle.bosh_claim.specs.Number.{is_next}
use Rattle.bosh_claim.specs.Phase.{present}
use Rattle.bosh_claim.specs.Slot.{call_of_slot}
use Rattle.bosh_claim.specs.Step.{step_of}
use Rattle.bosh_claim.specs.Sweep.{deletion, sweep_of}
use Rattle.bosh_claim.specs.declared.phase.Phase.{Phase}
use Rattle.bosh_claim.specs.declared.phase.Phase.TheVariants.{Ask, DeleteDisks, Sweep, Compile, Leave, Update}

-- the item at a place is left, and nobody works on it
abbrev pub is_free_at : {T : Type 0} → Line T → Option ℕ → Bool
is_free_at line place = option_map_or (λ k. slice_index_or line.queue.free k false) place false

-- the ping of an instance, where it is among those that are asked
abbrev pub ping_in : Work → Instance → Option Call
ping_in work it =
    if is_free_at work.pings it.part.ping
    then option_map (λ vm. calls.Ping vm.vm) (option_and_then (λ row. row.vm) it.row) else None

abbrev pub ping_of : Records → Work → Inst → Option Call
ping_of records work inst = option_and_then (ping_in work) (instance_at records inst)

-- the deletion of a disk, where it is among those that are deleted
abbrev pub deletion_in : Work → LooseDisk → Option Call
deletion_in work loose = if is_free_at work.disks loose.deleting then Some (deletion loose) else None

abbrev pub deletion_of : Records → Work → ℕ → Option Call
deletion_of records work disk = option_and_then (deletion_in work) (orphan_at records disk)

-- the call for a compile machine, where it is among those that are swept
abbrev pub sweep_in : Work → Machine → Option Call
sweep_in work it = if is_free_at work.sweep it.sweep then sweep_of it else None

abbrev pub sweep_for : Records → Work → ℕ → ℕ → Option Call
sweep_for records work task slot =
    option_and_then (sweep_in work) (machine_at records (record { task = task; slot = slot }))

-- an obsolete instance has not left yet, and nobody works on it
abbrev pub is_leaving : Records → Work → Inst → Bool
is_leaving records work inst =
    option_map_or (λ it. is_free_at work.obsolete it.part.leaving) (instance_at records inst) false

-- the place of a changed instance in the open task of its deployment
abbrev pub change_of : Records → Inst → Option GroupPlace
change_of records inst = option_and_then (λ it. it.part.change) (instance_at records inst)

-- the update at a place of a group of the stage has begun, and nobody works on it
abbrev pub is_idle_in : ℕ → ℕ → GroupWork → Bool
is_idle_in stage place group = group.stage == stage && slice_index_or group.roll.idle place false

abbrev pub is_idle_at : Work → ℕ → GroupPlace → Bool
is_idle_at work stage change =
    option_map_or (is_idle_in stage change.place) (slice_get work.groups change.group) false

abbrev pub is_idle : Records → Work → ℕ → Inst → Bool
is_idle records work stage inst = option_map_or (is_idle_at work stage) (change_of records inst) false

-- the next call of an obsolete instance that has not left yet
abbrev pub leaving_call : Records → Work → Inst → Option Call
leaving_call records work inst = if is_leaving records work inst then step_of records None inst else None

-- the next call of a changed instance whose update has begun
abbrev pub update_call : Records → Work → ℕ → Inst → Option Call
update_call records work stage inst =
    if is_idle records work stage inst then step_of records (want_of records inst) inst else None

-- the call that is to be made for an owner in a phase
abbrev pub call_for : Records → Work → Phase → Owner → Option Call
call_for records work Ask (owners.Instance inst) = ping_of records work inst
call_for records work DeleteDisks (owners.Disk disk) = deletion_of records work disk
call_for records work Sweep (owners.Compile task slot) = sweep_for records work task slot
call_for records work Compile (owners.Compile task slot) =
    if task == work.task then call_of_slot records work slot else None
call_for records work Leave (owners.Instance inst) = leaving_call records work inst
call_for records work (Update stage) (owners.Instance inst) = update_call records work stage inst
call_for records work phase owner = None

abbrev pub is_call : Option Call → Call → Bool
is_call expected call = option_map_or (λ it. call_test.ghosts.eq it call) expected false

-- it has the next number, and it is the one that is to be made for its owner in the present phase of a task that is
-- open and has no failed call
abbrev pub begins_in : Records → Begin → Work → Bool
begins_in records begin work =
    is_none work.failed
    && (is_next begin.n records.last_call
    && is_call (option_and_then (λ phase. call_for records work phase begin.owner) (present records work)) begin.call)

abbrev pub begins : Records → Begin → Bool
begins records begin = option_map_or (begins_in records begin) (work_at records begin.task) false
