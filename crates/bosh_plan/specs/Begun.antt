-- What the beginning of a call changes in what is recorded of its owner.
use Rattle.std.specs.Prelude.{ℕ, List, Option, Some, None, unwrap_or}
use Rattle.std.specs.Option.{option_and_then, option_map_or}
use Rattle.bosh_base.specs.declared.call.Call.{Call}
use Rattle.bosh_base.specs.declared.call.Call.TheVariants as calls
use Rattle.bosh_base.specs.declared.entry.Begin.{Begin}
use Rattle.bosh_base.specs.declared.inst.Inst.{Inst}
use Rattle.bosh_base.specs.declared.make.Make.{Make}
use Rattle.bosh_base.specs.declared.owner.Owner.{Owner}
use Rattle.bosh_base.specs.declared.owner.Owner.TheVariants as owners
use Rattle.bosh_base.specs.declared.row.Doubt.{Doubt}
use Rattle.bosh_base.specs.declared.row.Row.{Row}
use Rattle.bosh_base.specs.declared.snapshot.CompileRow.{CompileRow}
use Rattle.bosh_rows.specs.After.{bare, begun_row}
use Rattle.bosh_records.specs.NextKey as keys
use Rattle.bosh_records.specs.Readers.{dep_of_task, row_at, work_at}
use Rattle.bosh_plan.specs.declared.beginning.Subject.{Subject}
use Rattle.bosh_plan.specs.declared.beginning.Subject.TheVariants as subjects
use Rattle.bosh_records.specs.declared.machines.Machine.{Machine}
use Rattle.bosh_work.specs.declared.part.MachineName.{MachineName}
use Rattle.bosh_records.specs.declared.records.Records.{Records}

abbrev pub doubt_of : Begin → Doubt
doubt_of begin = record { n = begin.n; call = begin.call }

-- what is recorded of an instance, or nothing
abbrev pub row_or_bare : Records → Inst → Row
row_or_bare records inst = unwrap_or (row_at records inst) (bare inst)

abbrev pub row_begun : Records → Begin → Inst → Row
row_begun records begin inst = begun_row begin.n begin.call (row_or_bare records inst)

-- the first key that a machine may be made for
abbrev pub next_key : Records → ℕ → Option ℕ
next_key records task = option_and_then (keys.next_key records) (work_at records task)

-- what is recorded of a compile machine that is being made
abbrev pub compile_row_of : Begin → MachineName → Make → List ℕ → CompileRow
compile_row_of begin name make dep = record {
  task = name.task;
  slot = name.slot;
  dep = dep;
  make = make;
  vm = None;
  doubt = Some (doubt_of begin);
}

abbrev pub machine_of : Records → Begin → MachineName → Make → List ℕ → Machine
machine_of records begin name make dep = record {
  row = compile_row_of begin name make dep;
  key = next_key records begin.task;
  sweep = None;
  call = None;
}

-- only a task of a deployment makes a compile machine
abbrev pub machine_begun : Records → Begin → MachineName → Make → Subject
machine_begun records begin name make =
    option_map_or (λ dep. subjects.Machine (machine_of records begin name make dep))
    (dep_of_task records name.task) subjects.Same

-- a machine is made, or a deletion is in doubt from now on
abbrev pub subject_of : Records → Begin → Subject
subject_of records begin = by begin.owner begin.call
  where
    by : Owner → Call → Subject
    by (owners.Instance inst) call = subjects.Instance (row_begun records begin inst)
    by (owners.Compile task slot) (calls.CreateVm make disks) =
        machine_begun records begin (record { task = task; slot = slot }) make
    by (owners.Compile task slot) (calls.DeleteVm vm) = subjects.Doubt (doubt_of begin)
    by (owners.Disk disk) (calls.DeleteDisk it) = subjects.Doubt (doubt_of begin)
    by owner call = subjects.Same
