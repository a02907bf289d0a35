-- The calls for the compile slots of a task.
use Rattle.std.specs.Prelude.{ℕ, zero, suc, List, [], Option, Some, None, is_some, slice_get, if◌then◌else◌}
use Rattle.std.specs.List.{filter_map}
use Rattle.std.specs.Option.{option_and_then, option_map, option_or}
use Rattle.bosh_base.specs.declared.call.Call.{Call}
use Rattle.bosh_base.specs.declared.call.Call.TheVariants.{CreateVm, DeleteVm, CompilePackage}
use Rattle.bosh_base.specs.declared.digest.Digest.{Digest}
use Rattle.bosh_base.specs.declared.key.Key.{Key}
use Rattle.bosh_base.specs.declared.key.KeyWork.{KeyWork}
use Rattle.bosh_base.specs.declared.make.Make.{Make}
use Rattle.bosh_base.specs.declared.owner.Owner.{Owner}
use Rattle.bosh_base.specs.declared.owner.Owner.TheVariants.{Compile}
use Rattle.bosh_base.specs.declared.row.Doubt.{Doubt}
use Rattle.bosh_records.specs.NextKey.{goal_for, next_key}
use Rattle.bosh_records.specs.Readers.{digest_of, is_compiling, machine_at}
use Rattle.bosh_records.specs.declared.machines.Machine.{Machine}
use Rattle.bosh_records.specs.declared.records.Records.{Records}
use Rattle.bosh_work.specs.declared.work.Work.{Work}

-- what a task compiles, by its place among the keys of the goal
abbrev pub key_at : Records → Work → ℕ → Option KeyWork
key_at records work place = option_and_then (λ goal. slice_get goal.keys place) (goal_for records work.task)

-- the make of a slot of a task
abbrev pub slot_at : Records → Work → ℕ → Option Make
slot_at records work slot = option_and_then (λ goal. slice_get goal.slots slot) (goal_for records work.task)

-- the digests of what is compiled of keys
abbrev pub digests_of : Records → List Key → List Digest
digests_of records keys = filter_map (digest_of records) keys

-- a machine is deleted once its key is compiled, waits while another call compiles the key, and else compiles it
abbrev pub call_for_key : Records → ℕ → KeyWork → Option Call
call_for_key records vm key =
    if is_some (digest_of records key.key) then Some (DeleteVm vm)
    else (if is_compiling records key.key then None
    else Some (CompilePackage vm key (digests_of records key.deps)))

-- what a machine is for
abbrev pub key_for : Records → Work → Machine → Option KeyWork
key_for records work machine = option_and_then (key_at records work) machine.key

-- the call of a slot that has a machine; one with an open call or in doubt is passed over
abbrev pub own_call : Records → Work → Machine → Option Call
own_call records work machine = by machine.call machine.row.doubt
  where
    by : Option ℕ → Option Doubt → Option Call
    by None None =
        option_and_then (λ it. option_and_then (call_for_key records it.vm) (key_for records work machine))
        machine.row.vm
    by call doubt = None

-- the make of a slot, with the operating system and the version of a key
abbrev pub make_for : KeyWork → Make → Make
make_for key make = record make { os = key.key.os; version = key.key.version }

-- the first key that a slot may take
abbrev pub first_key : Records → Work → Option KeyWork
first_key records work = option_and_then (key_at records work) (next_key records work)

abbrev pub creation_for : Records → Work → ℕ → KeyWork → Option Call
creation_for records work slot key = option_map (λ make. CreateVm (make_for key make) []) (slot_at records work slot)

-- the call of an idle slot: it makes a machine for the first key that it may take
abbrev pub creation : Records → Work → ℕ → Option Call
creation records work slot = option_and_then (creation_for records work slot) (first_key records work)

-- the call of a slot that has this machine, or none
abbrev pub call_with : Records → Work → ℕ → Option Machine → Option Call
call_with records work slot (Some machine) = own_call records work machine
call_with records work slot None = creation records work slot

-- the call of a slot, where it is not passed over
abbrev pub call_of_slot : Records → Work → ℕ → Option Call
call_of_slot records work slot =
    call_with records work slot (machine_at records (record { task = work.task; slot = slot }))

abbrev pub for_slot : Work → ℕ → Call → Owner × Call
for_slot work slot call = (Compile work.task slot, call)

-- the call for the first of so many slots that is not passed over
abbrev pub call_below : Records → Work → ℕ → Option (Owner × Call)
call_below records work zero = None
call_below records work (suc slot) =
    option_or (call_below records work slot) (option_map (for_slot work slot) (call_of_slot records work slot))

-- the call for the first slot of a task
abbrev pub slot_call : Records → Work → Option (Owner × Call)
slot_call records work = call_below records work work.slots
