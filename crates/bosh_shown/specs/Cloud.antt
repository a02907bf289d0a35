-- How the machines and disks of a cloud are listed (this project's profile).
use Rattle.std.specs.Prelude.{◌≡◌, ◌==◌, ℕ, Bool, List, [], ◌∷◌, ◌++◌, Option, Some, None, map, option_map}
use Rattle.std.specs.Prelude.{if◌then◌else◌}
use Rattle.std.specs.BTreeMap.{BTreeMap, get}
use Rattle.std.specs.List.{list_any}
use Rattle.std.specs.Option.{option_or, option_to_list}
use Rattle.std.specs.Ordering.{nat_cmp}
use Rattle.bosh_base.specs.declared.machine.Disk.{Disk}
use Rattle.bosh_base.specs.declared.machine.Machine.{Machine}
use Rattle.bosh_base.specs.declared.reply.CloudDiskLine.{CloudDiskLine}
use Rattle.bosh_base.specs.declared.reply.CloudListing.{CloudListing}
use Rattle.bosh_base.specs.declared.reply.HeldDisk.{HeldDisk}
use Rattle.bosh_base.specs.declared.reply.MachineLine.{MachineLine}

abbrev pub has_disk : List ℕ → ℕ → Bool
has_disk disks disk = list_any (λ other. other == disk) disks

abbrev pub held_disk : Machine → ℕ → HeldDisk
held_disk machine disk = record { disk = disk; mounted = has_disk machine.mounted disk }

abbrev pub machine_line : Machine → MachineLine
machine_line machine = record {
  vm = machine.vm;
  owner = machine.owner;
  az = machine.make.az;
  addrs = map (λ net. net.addr) machine.make.nets;
  running = machine.running;
  disks = map (held_disk machine) machine.attached;
}

-- of the machines that stand in slots
abbrev pub machine_lines : List (Option Machine) → List MachineLine
machine_lines [] = []
machine_lines (slot ∷ others) = option_to_list (option_map machine_line slot) ++ machine_lines others

-- a machine, where a disk that it has is this one
abbrev pub held_by : ℕ → ℕ → ℕ → Option ℕ
held_by vm held disk = if held == disk then Some vm else None

-- a machine, where one of the disks that it has is this one
abbrev pub holder_in : ℕ → List ℕ → ℕ → Option ℕ
holder_in vm [] disk = None
holder_in vm (held ∷ others) disk = option_or (held_by vm held disk) (holder_in vm others disk)

-- the first machine of slots that a disk is attached to
abbrev pub holder : List (Option Machine) → ℕ → Option ℕ
holder [] disk = None
holder (Some machine ∷ others) disk = option_or (holder_in machine.vm machine.attached disk) (holder others disk)
holder (None ∷ others) disk = holder others disk

-- a table has it of each disk
abbrev pub AreHolders : List (Option Machine) → BTreeMap ℕ ℕ → Type 0
AreHolders machines holders = (disk : ℕ) → get nat_cmp holders disk ≡ holder machines disk

abbrev pub disk_line : Disk → Option ℕ → CloudDiskLine
disk_line disk vm = record { disk = disk.disk; owner = disk.owner; size = disk.want.size; vm = vm }

-- of the disks that stand in slots
abbrev pub disk_lines : List (Option Machine) → List (Option Disk) → List CloudDiskLine
disk_lines machines [] = []
disk_lines machines (slot ∷ others) =
    option_to_list (option_map (λ it. disk_line it (holder machines it.disk)) slot) ++ disk_lines machines others

abbrev pub cloud_listing : List (Option Machine) → List (Option Disk) → CloudListing
cloud_listing machines disks = record { machines = machine_lines machines; disks = disk_lines machines disks }
