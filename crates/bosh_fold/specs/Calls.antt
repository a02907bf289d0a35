-- What is recorded once a call begins or ends, over all that records say.
use Rattle.std.specs.Prelude.{ℕ, Bool, true, Option, Some, None}
use Rattle.std.specs.Option.{option_and_then}
use Rattle.std.specs.Ordering.{nat_cmp}
use Rattle.bosh_base.specs.Inst.{inst_cmp}
use Rattle.bosh_base.specs.declared.call.Call.{Call}
use Rattle.bosh_base.specs.declared.call.Call.TheVariants as calls
use Rattle.bosh_base.specs.declared.digest.Digest.{Digest}
use Rattle.bosh_base.specs.declared.entry.Begin.{Begin}
use Rattle.bosh_base.specs.declared.owner.Owner.{Owner}
use Rattle.bosh_base.specs.declared.owner.Owner.TheVariants as owners
use Rattle.bosh_base.specs.declared.row.Doubt.{Doubt}
use Rattle.bosh_base.specs.declared.row.Row.{Row}
use Rattle.bosh_base.specs.declared.task.TaskEnd.{TaskEnd}
use Rattle.bosh_plan.specs.declared.beginning.Begun.{Begun}
use Rattle.bosh_plan.specs.declared.beginning.Subject.{Subject}
use Rattle.bosh_plan.specs.declared.beginning.Subject.TheVariants as subjects
use Rattle.bosh_plan.specs.declared.ending.After.{After}
use Rattle.bosh_plan.specs.declared.ending.After.TheVariants as afters
use Rattle.bosh_plan.specs.declared.ending.Ended.{Ended}
use Rattle.bosh_plan.specs.declared.ending.Told.{Told}
use Rattle.bosh_plan.specs.declared.ending.Told.TheVariants.{Nothing, There, Absent}
use Rattle.bosh_records.specs.Changes.{machine_there, with_disk_call, with_disk_doubt}
use Rattle.bosh_records.specs.Changes.{with_machine_call, with_machine_doubt, with_one_call, with_pinged}
use Rattle.bosh_records.specs.Keys.{built_as, key_cmp}
use Rattle.bosh_records.specs.Places.{places_in}
use Rattle.bosh_records.specs.Readers.{machine_cmp}
use Rattle.bosh_records.specs.Recorded.{Recorded}
use Rattle.bosh_records.specs.Table.{altered, changed, each_thing, put_at, thing_in, without}
use Rattle.bosh_records.specs.declared.machines.Machine.{Machine}
use Rattle.bosh_work.specs.Finished.{without_disk, without_key, without_swept}
use Rattle.bosh_work.specs.Work.{failed_by, given, taken, with_machine, without_machine}
use Rattle.bosh_work.specs.declared.part.MachineName.{MachineName}

-- ---- what is recorded of an owner

-- the name of a compile machine
abbrev pub machine_name : ℕ → ℕ → MachineName
machine_name task slot = record { task = task; slot = slot }

-- its open call, or that it has none
abbrev pub with_call : Owner → Option ℕ → Recorded → Recorded
with_call (owners.Instance inst) call it =
    record it { instances = altered inst_cmp inst (λ known. record known { call = call }) it.instances }
with_call (owners.Compile task slot) call it =
    record it { machines = changed machine_cmp (machine_name task slot) (with_machine_call call) it.machines }
with_call (owners.Disk disk) call it =
    record it { orphans = changed nat_cmp disk (with_disk_call call) it.orphans }

-- the open call that compiles a key, or that none does
abbrev pub with_compiling : Call → Option ℕ → Recorded → Recorded
with_compiling (calls.CompilePackage vm work deps) «open» it =
    record it { keys = altered key_cmp work.key (λ state. record state { call = «open» }) it.keys }
with_compiling call «open» it = it

-- the row of an instance
abbrev pub with_row : Row → Recorded → Recorded
with_row row it =
    record it { instances = altered inst_cmp row.inst (λ known. record known { row = Some row }) it.instances }

-- a compile machine or a disk is in doubt
abbrev pub with_doubt : Owner → Doubt → Recorded → Recorded
with_doubt (owners.Instance inst) doubt it = it
with_doubt (owners.Compile task slot) doubt it =
    record it { machines = changed machine_cmp (machine_name task slot) (with_machine_doubt doubt) it.machines }
with_doubt (owners.Disk disk) doubt it =
    record it { orphans = changed nat_cmp disk (with_disk_doubt (Some doubt)) it.orphans }

-- ---- the beginning of a call

-- a compile machine is made for a task
abbrev pub with_machine_of : Machine → Recorded → Recorded
with_machine_of machine it = record it {
  works = changed nat_cmp machine.row.task (λ work. with_machine work machine.key) it.works;
  machines = put_at machine_cmp (machine_name machine.row.task machine.row.slot) machine it.machines;
}

abbrev pub with_subject : Owner → Subject → Recorded → Recorded
with_subject owner (subjects.Instance row) it = with_row row it
with_subject owner (subjects.Machine machine) it = with_machine_of machine it
with_subject owner (subjects.Doubt doubt) it = with_doubt owner doubt it
with_subject owner subjects.Same it = it

-- somebody works on an owner for a task
abbrev pub taken_by : ℕ → Owner → Recorded → Recorded
taken_by task owner it = record it { works = changed nat_cmp task (λ work. taken work (places_in it owner)) it.works }

-- one more call of a task
abbrev pub counted : ℕ → Recorded → Recorded
counted task it = record it { tasks = changed nat_cmp task with_one_call it.tasks }

-- the call is open
abbrev pub opened_call : Begin → Recorded → Recorded
opened_call begin it =
    taken_by begin.task begin.owner (with_compiling begin.call (Some begin.n) (with_call begin.owner (Some begin.n) it))

-- it is the last one
abbrev pub noted_call : Begin → Recorded → Recorded
noted_call begin it = record it {
  came = record it.came { last_call = begin.n };
  calls = put_at nat_cmp begin.n begin it.calls;
}

abbrev pub begun_in : Begun → Recorded → Recorded
begun_in begun it =
    noted_call begun.begin (counted begun.begin.task (opened_call begun.begin (with_subject begun.begin.owner begun.subject it)))

-- ---- the end of a call

-- nobody works on an owner for a task any more
abbrev pub given_by : ℕ → Owner → Recorded → Recorded
given_by task owner it = record it { works = changed nat_cmp task (λ work. given work (places_in it owner)) it.works }

-- the call is open no more
abbrev pub closed_call : Begin → Recorded → Recorded
closed_call begin it = with_compiling begin.call None (with_call begin.owner None it)

-- an answered ping is noted for its instance
abbrev pub pinged_by : Bool → Begin → Recorded → Recorded
pinged_by is_asked begin it = by is_asked begin.call
  where
    by : Bool → Call → Recorded
    by true (calls.Ping vm) =
        record it { works = changed nat_cmp begin.task (with_pinged (places_in it begin.owner).part.ping) it.works }
    by told call = it

-- a call of a task failed, where it did
abbrev pub failed_in : ℕ → Option TaskEnd → Recorded → Recorded
failed_in task failed it = record it { works = changed nat_cmp task (λ work. failed_by work failed) it.works }

-- a machine that is swept is not there any more
abbrev pub swept_in : MachineName → Option ℕ → Recorded → Recorded
swept_in name (Some place) it = record it { works = each_thing (without_swept name place) it.works }
swept_in name None it = it

-- a compile machine is not there any more
abbrev pub dropped_machine : MachineName → Option Machine → Recorded → Recorded
dropped_machine name (Some machine) it = swept_in name machine.sweep (record it {
  machines = without machine_cmp name it.machines;
  works = changed nat_cmp name.task (λ work. without_machine work machine.key) it.works;
})
dropped_machine name None it = it

abbrev pub machine_told : MachineName → Told → Recorded → Recorded
machine_told name Nothing it = it
machine_told name (There vm) it = record it { machines = changed machine_cmp name (machine_there vm) it.machines }
machine_told name Absent it = dropped_machine name (thing_in machine_cmp it.machines name) it

-- a disk that is deleted is not there any more
abbrev pub deleted_in : ℕ → Option ℕ → Recorded → Recorded
deleted_in disk (Some place) it = record it { works = each_thing (without_disk disk place) it.works }
deleted_in disk None it = it

abbrev pub disk_told : ℕ → Told → Recorded → Recorded
disk_told disk Nothing it = it
disk_told disk (There vm) it = record it { orphans = changed nat_cmp disk (with_disk_doubt None) it.orphans }
disk_told disk Absent it =
    deleted_in disk (option_and_then (λ loose. loose.deleting) (thing_in nat_cmp it.orphans disk))
    (record it { orphans = without nat_cmp disk it.orphans })

-- what an answer tells of a compile machine or of a disk
abbrev pub other_told : Owner → Told → Recorded → Recorded
other_told (owners.Instance inst) told it = it
other_told (owners.Compile task slot) told it = machine_told (machine_name task slot) told it
other_told (owners.Disk disk) told it = disk_told disk told it

abbrev pub told_of : Owner → Option After → Recorded → Recorded
told_of owner None it = it
told_of owner (Some (afters.Instance row)) it = with_row row it
told_of owner (Some (afters.Other told)) it = other_told owner told it

-- a compilation that is answered records its key, and no open task has it left
abbrev pub built_in : Call → Option Digest → Recorded → Recorded
built_in (calls.CompilePackage vm work deps) (Some digest) it = record it {
  works = each_thing (without_key work.key) it.works;
  keys = altered key_cmp work.key (built_as work digest) it.keys;
}
built_in call built it = it

abbrev pub answered_in : Begin → Ended → Recorded → Recorded
answered_in begin ended it =
    built_in begin.call ended.built
    (told_of begin.owner ended.after
    (failed_in begin.task ended.failed
    (pinged_by ended.is_asked begin (given_by begin.task begin.owner (closed_call begin it)))))

-- where the call was open
abbrev pub ended_by : Option Begin → Ended → Recorded → Recorded
ended_by (Some begin) ended it = answered_in begin ended it
ended_by None ended it = it

abbrev pub ended_in : Ended → Recorded → Recorded
ended_in ended it =
    ended_by (thing_in nat_cmp it.calls ended.n) ended (record it { calls = without nat_cmp ended.n it.calls })
