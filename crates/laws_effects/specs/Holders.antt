-- A machine that holds a disk was made for the one that the disk was made for (this project's profile).
use Rattle.std.specs.Prelude.{◌≡◌, ℕ, Option, Some, List}
use Rattle.std.specs.Option.{option_map}
use Rattle.bosh_base.specs.Cloud.{disk_creation, holder_of, vm_creation}
use Rattle.bosh_base.specs.declared.call.Call.{Call}
use Rattle.bosh_base.specs.declared.call.Call.TheVariants.{AttachDisk}
use Rattle.bosh_base.specs.declared.entry.Entry.{Entry}
use Rattle.bosh_base.specs.declared.entry.Entry.TheVariants.{Effect}
use Rattle.bosh_base.specs.declared.owner.Owner.{Owner}

-- whom a machine and whom a disk was made for
abbrev pub vm_owner : List Entry → ℕ → Option Owner
vm_owner entries v = option_map (λ e. e.owner) (vm_creation entries v)

abbrev pub disk_owner : List Entry → ℕ → Option Owner
disk_owner entries d = option_map (λ e. e.owner) (disk_creation entries d)

abbrev pub AreHeldByTheirOwn : List Entry → Type 0
AreHeldByTheirOwn entries =
    (d v : ℕ) → holder_of entries d ≡ Some v → vm_owner entries v ≡ disk_owner entries d

-- an attachment joins what was made for the same one
abbrev pub JoinsBy : List Entry → Call → Type 0
JoinsBy before (AttachDisk vm disk) = vm_owner before vm ≡ disk_owner before disk
JoinsBy before call = Unit {0}

abbrev pub JoinsTheSame : List Entry → Entry → Type 0
JoinsTheSame before (Effect e) = JoinsBy before e.call
JoinsTheSame before entry = Unit {0}
