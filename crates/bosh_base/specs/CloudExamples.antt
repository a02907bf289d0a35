-- Small clouds, for the examples of `src/cloud.rt`.
use Rattle.std.specs.Prelude.{ℕ, codes, List, [], ◌∷◌, false, true}
use Rattle.bosh_base.specs.declared.call.Call.{Call}
use Rattle.bosh_base.specs.declared.call.Call.TheVariants.{CreateVm, DeleteVm, CreateDisk, AttachDisk, Start, Stop, Drain, MountDisk, MigrateDisk}
use Rattle.bosh_base.specs.declared.entry.Entry.{Entry}
use Rattle.bosh_base.specs.declared.entry.Entry.TheVariants.{Effect, Write, Lost}
use Rattle.bosh_base.specs.declared.make.Make.{Make}
use Rattle.bosh_base.specs.declared.disk_want.DiskWant.{DiskWant}
use Rattle.bosh_base.specs.declared.owner.Owner.TheVariants.{Compile}

abbrev pub small : Make
small = record { os = codes "jammy"; version = codes "1.1"; az = codes "z1"; vm = codes "null"; nets = [] }

abbrev pub ten : DiskWant
ten = record { size = 10; properties = codes "null" }

-- the n-th call had its effect
abbrev pub did : ℕ → Call → Entry
did n call = Effect (record { n = n; owner = Compile 1 0; dep = codes "dep"; call = call })

-- machine 1, made by call 1
abbrev pub one_made : List Entry
one_made = did 1 (CreateVm small []) ∷ []

abbrev pub one_started : List Entry
one_started = did 1 (CreateVm small []) ∷ did 2 (Start 1) ∷ []

abbrev pub one_stopped : List Entry
one_stopped = did 1 (CreateVm small []) ∷ did 2 (Start 1) ∷ did 3 (Drain 1) ∷ did 4 (Stop 1) ∷ []

abbrev pub one_deleted : List Entry
one_deleted = did 1 (CreateVm small []) ∷ did 2 (DeleteVm 1) ∷ []

-- disk 1 on machine 1, and mounted there
abbrev pub one_attached : List Entry
one_attached = did 1 (CreateVm small []) ∷ did 2 (CreateDisk ten 1) ∷ did 3 (AttachDisk 1 1) ∷ []

abbrev pub one_mounted : List Entry
one_mounted = did 1 (CreateVm small []) ∷ did 2 (CreateDisk ten 1) ∷ did 3 (AttachDisk 1 1) ∷ did 4 (MountDisk 1 1) ∷ []

abbrev pub attached_and_deleted : List Entry
attached_and_deleted = did 1 (CreateVm small []) ∷ did 2 (CreateDisk ten 1) ∷ did 3 (AttachDisk 1 1) ∷ did 4 (DeleteVm 1) ∷ []

-- `hello` is written to disk 1, moved to disk 2, and then disk 1 is written over
abbrev pub one_migrated : List Entry
one_migrated = did 2 (CreateDisk ten 1) ∷ Write (record { disk = 1; text = codes "hello" }) ∷ did 3 (CreateDisk ten 1) ∷ did 4 (MigrateDisk 1 1 2) ∷ Write (record { disk = 1; text = codes "later" }) ∷ []

abbrev pub one_lost : List Entry
one_lost = did 1 (CreateVm small []) ∷ Lost (record { vm = 1; whole = true }) ∷ []

abbrev pub one_silent : List Entry
one_silent = did 1 (CreateVm small []) ∷ Lost (record { vm = 1; whole = false }) ∷ []
