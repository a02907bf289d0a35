-- What a change of a machine or of a disk leaves.
use Rattle.std.specs.Prelude.{ℕ, ◌≤◌, true, false, Option, Some, List, length}
use Rattle.bosh_base.specs.declared.machine.Disk.{Disk}
use Rattle.bosh_base.specs.declared.machine.Machine.{Machine}
use Rattle.bosh_agent.specs.Agent.{with_contents}
use Rattle.bosh_agent.specs.declared.change.Change.{Change}
use Rattle.bosh_agent.specs.declared.change.Change.TheVariants.{Nothing, Spec, Started, Drained, Stopped, Mounted, Contents}

-- the machine after it
abbrev pub machine_changed : Machine → Change → Machine
machine_changed machine Nothing = machine
machine_changed machine (Spec spec) = record machine { spec = Some spec }
machine_changed machine Started = record machine { running = true; drained = false }
machine_changed machine Drained = record machine { drained = true }
machine_changed machine Stopped = record machine { running = false }
machine_changed machine (Mounted mounted) = record machine { mounted = mounted }
machine_changed machine (Contents disk text) = machine

-- the disks after it
abbrev pub disks_changed : List (Option Disk) → Change → List (Option Disk)
disks_changed disks (Contents disk text) = with_contents disks disk text
disks_changed disks change = disks

-- a number of some disk that was made
abbrev pub IsMade : {T : Type 0} → List (Option T) → ℕ → Type 0
IsMade slots number = (1 ≤ number) × (number ≤ length slots)

-- the disk that it changes was made
abbrev pub IsIn : Change → List (Option Disk) → Type 0
IsIn (Contents disk text) disks = IsMade disks disk
IsIn change disks = Unit {0}
