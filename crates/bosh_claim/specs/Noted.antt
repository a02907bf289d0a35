-- What is noted of the first item of a phase that is not passed over.
use Rattle.std.specs.Prelude.{ℕ, ◌+◌, Option, Some, None, min, slice_get}
use Rattle.std.specs.Option.{option_and_then, option_map}
use Rattle.bosh_base.specs.declared.call.Call.{Call}
use Rattle.bosh_base.specs.declared.call.Call.TheVariants as calls
use Rattle.bosh_base.specs.declared.entry.Entry.{Entry}
use Rattle.bosh_base.specs.declared.entry.Entry.TheVariants as entries
use Rattle.bosh_base.specs.declared.entry.Update.{Update}
use Rattle.bosh_base.specs.declared.inst.Inst.{Inst}
use Rattle.bosh_base.specs.declared.owner.Owner.{Owner}
use Rattle.bosh_base.specs.declared.owner.Owner.TheVariants as owners
use Rattle.bosh_progress.specs.Tree.{first_marked}
use Rattle.bosh_records.specs.Readers.{row_at}
use Rattle.bosh_records.specs.declared.records.Records.{Records}
use Rattle.bosh_work.specs.declared.line.Line.{Line}
use Rattle.bosh_work.specs.declared.work.Work.{Work}
use Rattle.bosh_claim.specs.Step.{step_of}

-- the first item on which nobody works
abbrev pub first_of : {T : Type 0} → Line T → Option T
first_of line = option_and_then (λ place. slice_get line.items place) (first_marked line.queue.free)

-- a call of an owner begins, with the next number
abbrev pub beginning : Records → Work → ℕ → Owner → Call → Entry
beginning records work worker owner call =
    entries.Begin (record {
      n = min (records.last_call + 1) 18446744073709551615;
      task = work.task;
      worker = worker;
      owner = owner;
      call = call;
    })

-- the machine of an instance
abbrev pub vm_of : Records → Inst → Option ℕ
vm_of records inst = option_map (λ it. it.vm) (option_and_then (λ row. row.vm) (row_at records inst))

-- the machine of an instance is asked whether it answers
abbrev pub ping_at : Records → Work → ℕ → Inst → Option Entry
ping_at records work worker inst =
    option_map (λ vm. beginning records work worker (owners.Instance inst) (calls.Ping vm)) (vm_of records inst)

-- the first machine of those that are asked
abbrev pub ping : Records → Work → ℕ → Option Entry
ping records work worker = option_and_then (ping_at records work worker) (first_of work.pings)

-- a task and one of its instances
abbrev pub update_of : Work → Inst → Update
update_of work inst = record { task = work.task; inst = inst }

-- a call of an instance begins, or it has nothing left
abbrev pub leaving : Records → Work → ℕ → Inst → Option Call → Entry
leaving records work worker inst (Some call) = beginning records work worker (owners.Instance inst) call
leaving records work worker inst None = entries.Gone (update_of work inst)

-- the next call of the first obsolete instance, or that it has nothing left
abbrev pub leaving_entry : Records → Work → ℕ → Option Entry
leaving_entry records work worker =
    option_map (λ inst. leaving records work worker inst (step_of records None inst)) (first_of work.obsolete)
