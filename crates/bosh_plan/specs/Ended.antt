-- What the end of a call changes.
use Rattle.std.specs.Prelude.{ℕ, Bool, true, false, not, Option, Some, None, if◌then◌else◌}
use Rattle.std.specs.Option.{option_and_then, option_map, option_map_or}
use Rattle.bosh_base.specs.Call.{method_of}
use Rattle.bosh_base.specs.declared.answer.Answer.{Answer}
use Rattle.bosh_base.specs.declared.answer.Answer.TheVariants as answers
use Rattle.bosh_base.specs.declared.call.Call.{Call}
use Rattle.bosh_base.specs.declared.call.Call.TheVariants as calls
use Rattle.bosh_base.specs.declared.digest.Digest.{Digest}
use Rattle.bosh_base.specs.declared.entry.Begin.{Begin}
use Rattle.bosh_base.specs.declared.entry.End.{End}
use Rattle.bosh_base.specs.declared.owner.Owner.{Owner}
use Rattle.bosh_base.specs.declared.owner.Owner.TheVariants as owners
use Rattle.bosh_base.specs.declared.task.TaskEnd.{TaskEnd}
use Rattle.bosh_base.specs.declared.task.TaskEnd.TheVariants as ends
use Rattle.bosh_rows.specs.After.{after}
use Rattle.bosh_records.specs.Readers.{call_at, row_at}
use Rattle.bosh_plan.specs.declared.ending.After.{After}
use Rattle.bosh_plan.specs.declared.ending.After.TheVariants as afters
use Rattle.bosh_plan.specs.declared.ending.Ended.{Ended}
use Rattle.bosh_plan.specs.declared.ending.Told.{Told}
use Rattle.bosh_plan.specs.declared.ending.Told.TheVariants.{Nothing, There, Absent}
use Rattle.bosh_records.specs.declared.records.Records.{Records}

-- ---- how a call failed

abbrev pub fault_of : Begin → TaskEnd
fault_of begin = ends.Fault begin.n (method_of begin.call) begin.owner

abbrev pub gone_of : Begin → TaskEnd
gone_of begin = ends.Gone begin.n (method_of begin.call) begin.owner

-- the machine of an instance is known to be lost
abbrev pub is_lost : Records → Owner → Bool
is_lost records (owners.Instance inst) = option_map_or (λ row. row.lost) (row_at records inst) false
is_lost records owner = false

-- a call fails where what it names is gone: but for a ping, and for the deletion of a machine that is known to be lost
abbrev pub fails_gone : Records → Begin → Bool
fails_gone records begin = by_call begin.call
  where
    by_call : Call → Bool
    by_call (calls.Ping vm) = false
    by_call (calls.DeleteVm vm) = not (is_lost records begin.owner)
    by_call call = true

abbrev pub failure_of : Records → Answer → Begin → Option TaskEnd
failure_of records answers.Failed begin = Some (fault_of begin)
failure_of records answers.Gone begin = if fails_gone records begin then Some (gone_of begin) else None
failure_of records answer begin = None

abbrev pub failure : Records → End → Option TaskEnd
failure records end = option_and_then (failure_of records end.answer) (call_at records end.n)

-- ---- what an answer tells

abbrev pub found : ℕ → Option ℕ → Told
found agent (Some vm) = There (Some (record { vm = vm; agent = agent }))
found agent None = Absent

-- of a compile machine
abbrev pub machine_told : ℕ → Call → Answer → Told
machine_told n (calls.CreateVm make disks) (answers.Cid vm) = There (Some (record { vm = vm; agent = n }))
machine_told n (calls.FindVm agent) (answers.Found vm) = found agent vm
machine_told n (calls.DeleteVm vm) answers.Done = Absent
machine_told n (calls.HasVm vm) answers.No = Absent
machine_told n (calls.DeleteVm vm) answers.Gone = There None
machine_told n (calls.HasVm vm) answers.Yes = There None
machine_told n call answer = Nothing

-- of an orphaned disk
abbrev pub disk_told : Call → Answer → Told
disk_told (calls.DeleteDisk disk) answers.Done = Absent
disk_told (calls.HasDisk disk) answers.No = Absent
disk_told (calls.DeleteDisk disk) answers.Gone = There None
disk_told (calls.HasDisk disk) answers.Yes = There None
disk_told call answer = Nothing

-- of the owner of a call
abbrev pub after_by : Records → Answer → Begin → Option After
after_by records answer begin = by_owner begin.owner
  where
    by_owner : Owner → Option After
    by_owner (owners.Instance inst) =
        option_map (λ row. afters.Instance (after begin.n begin.call answer row)) (row_at records inst)
    by_owner (owners.Compile task slot) = Some (afters.Other (machine_told begin.n begin.call answer))
    by_owner (owners.Disk disk) = Some (afters.Other (disk_told begin.call answer))

abbrev pub after_of : Records → End → Option After
after_of records end = option_and_then (after_by records end.answer) (call_at records end.n)

abbrev pub built_by : Answer → Option Digest
built_by (answers.Built digest) = Some digest
built_by answer = None

-- a ping that is answered so was answered
abbrev pub is_told : Answer → Bool
is_told answers.Failed = false
is_told answer = true

abbrev pub ended_of : Records → End → Ended
ended_of records end = record {
  n = end.n;
  after = after_of records end;
  failed = failure records end;
  built = built_by end.answer;
  is_asked = is_told end.answer;
}
