-- A machine and a disk as they are made: a machine has no spec and no disks, and does not run; a disk is empty
-- (bosh.io, "CPI API v1", create_vm and create_disk).
use Rattle.std.specs.Prelude.{◌≡◌, ℕ, ◌+◌, false, None, Some, List, []}
use Rattle.bosh_base.specs.Cloud.{disks_created, make_of, vms_created, want_of}
use Rattle.bosh_base.specs.declared.disk_want.DiskWant.{DiskWant}
use Rattle.bosh_base.specs.declared.entry.Effect as effect
use Rattle.bosh_base.specs.declared.entry.Entry.{Entry}
use Rattle.bosh_base.specs.declared.entry.Entry.TheVariants.{Effect}
use Rattle.bosh_base.specs.declared.machine.Disk.{Disk}
use Rattle.bosh_base.specs.declared.machine.Machine.{Machine}
use Rattle.bosh_base.specs.declared.make.Make.{Make}

-- machine v, of this creation and this make
abbrev pub new_machine : ℕ → effect.Effect → Make → Machine
new_machine v creation make = record {
  vm = v;
  agent = creation.n;
  owner = creation.owner;
  dep = creation.dep;
  make = make;
  spec = None;
  running = false;
  drained = false;
  attached = [];
  mounted = [];
  silent = false;
}

-- disk d, of this creation and as it is wanted
abbrev pub new_disk : ℕ → effect.Effect → DiskWant → Disk
new_disk d creation want = record { disk = d; tag = creation.n; owner = creation.owner; want = want; contents = [] }

-- the entry is the creation of this machine, the next one
pub record MakesVm (before : List Entry) (entry : Entry) (machine : Machine) : Type 0 where
  pub creation : effect.Effect
  pub make : Make
  pub is : entry ≡ Effect creation
  pub asks : make_of creation.call ≡ Some make
  pub made : machine ≡ new_machine (vms_created before + 1) creation make

-- the entry is the creation of this disk, the next one
pub record MakesDisk (before : List Entry) (entry : Entry) (disk : Disk) : Type 0 where
  pub creation : effect.Effect
  pub want : DiskWant
  pub is : entry ≡ Effect creation
  pub asks : want_of creation.call ≡ Some want
  pub made : disk ≡ new_disk (disks_created before + 1) creation want
