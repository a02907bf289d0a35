-- What is done to the tables: a machine or a disk is made, or something changes.
use Rattle.std.specs.Prelude.{List}
use Rattle.bosh_base.specs.declared.entry.Entry.{Entry}
use Rattle.bosh_inventory.specs.Changes.{Leads}
use Rattle.bosh_inventory.specs.Made.{MakesDisk, MakesVm}
use Rattle.bosh_inventory.specs.declared.step.Step.{Step}
use Rattle.bosh_inventory.specs.declared.step.Step.TheVariants.{Vm, Disk, Change}

-- the step is what the entry does after what was done before
abbrev pub IsStep : List Entry → Entry → Step → Type 0
IsStep before entry (Vm machine) = MakesVm before entry machine
IsStep before entry (Disk disk) = MakesDisk before entry disk
IsStep before entry (Change change) = Leads before entry change
