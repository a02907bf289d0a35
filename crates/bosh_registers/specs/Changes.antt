-- What a change leaves in the tables.
use Rattle.std.specs.Prelude.{◌≡◌, ℕ, true, Option, None, is_some, List}
use Rattle.std.specs.Option.{option_map}
use Rattle.bosh_agent.specs.Agent.{with_contents}
use Rattle.bosh_agent.specs.Change.{IsIn, IsMade, machine_changed, disks_changed}
use Rattle.bosh_agent.specs.Slots.{at, with_slot}
use Rattle.bosh_base.specs.declared.machine.Machine.{Machine}
use Rattle.bosh_registers.specs.declared.change.Change.{Change}
use Rattle.bosh_registers.specs.declared.change.Change.TheVariants.{NoVm, NoDisk, Moved, Acted, Silent, Written}
use Rattle.bosh_registers.specs.declared.tables.Tables.{Tables}

-- a machine with these disks, and one whose agent is silent
abbrev pub holding : List ℕ → Machine → Machine
holding attached machine = record machine { attached = attached }

abbrev pub silenced : Machine → Machine
silenced machine = record machine { silent = true }

-- the tables after it
abbrev pub tables_after : Tables → Change → Tables
tables_after tables (NoVm vm) = record tables { vms = with_slot tables.vms vm None }
tables_after tables (NoDisk disk) = record tables { disks = with_slot tables.disks disk None }
tables_after tables (Moved vm disk holder attached) = record tables {
  vms = with_slot tables.vms vm (option_map (holding attached) (at tables.vms vm));
  holders = with_slot tables.holders disk holder;
}
tables_after tables (Acted vm change) = record tables {
  vms = with_slot tables.vms vm (option_map (λ machine. machine_changed machine change) (at tables.vms vm));
  disks = disks_changed tables.disks change;
}
tables_after tables (Silent vm) = record tables { vms = with_slot tables.vms vm (option_map silenced (at tables.vms vm)) }
tables_after tables (Written disk text) = record tables { disks = with_contents tables.disks disk text }

-- the machines and disks that it changes were made, and the machine is there
abbrev pub IsThere : {T : Type 0} → List (Option T) → ℕ → Type 0
IsThere slots number = IsMade slots number × (is_some (at slots number) ≡ true)

abbrev pub IsFitting : Change → Tables → Type 0
IsFitting (NoVm vm) tables = IsMade tables.vms vm
IsFitting (NoDisk disk) tables = IsMade tables.disks disk
IsFitting (Moved vm disk holder attached) tables = IsThere tables.vms vm × IsMade tables.holders disk
IsFitting (Acted vm change) tables = IsThere tables.vms vm × IsIn change tables.disks
IsFitting (Silent vm) tables = IsThere tables.vms vm
IsFitting (Written disk text) tables = IsMade tables.disks disk
