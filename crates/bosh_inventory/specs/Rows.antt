-- The tables that a cloud keeps of what is there.
use Rattle.std.specs.Prelude.{◌≡◌, ℕ, Option, List, map}
use Rattle.bosh_base.specs.Cloud.{vms_created, disks_created, machine_of, disk_of, numbers_to}
use Rattle.bosh_base.specs.declared.entry.Entry.{Entry}
use Rattle.bosh_base.specs.declared.machine.Disk.{Disk}
use Rattle.bosh_base.specs.declared.machine.Machine.{Machine}
use Rattle.bosh_inventory.specs.Orderly.{IsOrderlyCloud, last_holder}

-- a slot for each number from 1 to n
abbrev pub slots : {T : Type 0} → (ℕ → Option T) → ℕ → List (Option T)
slots row n = map row (numbers_to n)

-- the tables of machines and disks, and of the machine that each disk was last attached to
pub record AreTables
    (entries : List Entry) (vms : List (Option Machine)) (volumes : List (Option Disk)) (holders : List (Option ℕ))
    : Type 0 where
  pub are_orderly : IsOrderlyCloud entries
  pub all_vms : vms ≡ slots (machine_of entries) (vms_created entries)
  pub all_disks : volumes ≡ slots (disk_of entries) (disks_created entries)
  pub all_holders : holders ≡ slots (last_holder entries) (disks_created entries)
