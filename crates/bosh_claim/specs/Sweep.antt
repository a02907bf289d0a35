-- The calls for compile machines that an earlier task left, and for disks that belong to no instance.
use Rattle.std.specs.Prelude.{ℕ, Option, Some, None, is_some, if◌then◌else◌}
use Rattle.std.specs.Option.{option_and_then, option_map}
use Rattle.bosh_base.specs.declared.call.Call.{Call}
use Rattle.bosh_base.specs.declared.call.Call.TheVariants.{FindVm, HasVm, DeleteVm, HasDisk, DeleteDisk}
use Rattle.bosh_base.specs.declared.owner.Owner.{Owner}
use Rattle.bosh_base.specs.declared.owner.Owner.TheVariants as owners
use Rattle.bosh_base.specs.declared.row.Doubt.{Doubt}
use Rattle.bosh_base.specs.declared.row.Vm.{Vm}
use Rattle.bosh_records.specs.Readers.{machine_at, orphan_at}
use Rattle.bosh_records.specs.declared.machines.Machine.{Machine}
use Rattle.bosh_work.specs.declared.part.MachineName.{MachineName}
use Rattle.bosh_records.specs.declared.orphans.LooseDisk.{LooseDisk}
use Rattle.bosh_records.specs.declared.records.Records.{Records}
use Rattle.bosh_work.specs.declared.work.Work.{Work}
use Rattle.bosh_claim.specs.Noted.{first_of}

-- a machine is deleted, once it is known which there is
abbrev pub sweep_by : Option Vm → Option Doubt → Option Call
sweep_by None (Some doubt) = Some (FindVm doubt.n)
sweep_by None None = None
sweep_by (Some it) (Some doubt) = Some (HasVm it.vm)
sweep_by (Some it) None = Some (DeleteVm it.vm)

abbrev pub sweep_of : Machine → Option Call
sweep_of machine = sweep_by machine.row.vm machine.row.doubt

-- the call for a compile machine, with its owner
abbrev pub sweep_named : Records → MachineName → Option (Owner × Call)
sweep_named records name =
    option_map (λ call. (owners.Compile name.task name.slot, call)) (option_and_then sweep_of (machine_at records name))

-- the call for the first compile machine that an earlier task left
abbrev pub sweep_call : Records → Work → Option (Owner × Call)
sweep_call records work = option_and_then (sweep_named records) (first_of work.sweep)

-- a disk is deleted, once it is known whether it was
abbrev pub deletion : LooseDisk → Call
deletion loose =
    if is_some loose.orphan.doubt then HasDisk loose.orphan.disk else DeleteDisk loose.orphan.disk

-- the call for a disk, with its owner
abbrev pub deletion_named : Records → ℕ → Option (Owner × Call)
deletion_named records disk = option_map (λ loose. (owners.Disk disk, deletion loose)) (orphan_at records disk)

-- the call for the first disk of a task that deletes disks
abbrev pub disk_call : Records → Work → Option (Owner × Call)
disk_call records work = option_and_then (deletion_named records) (first_of work.disks)
