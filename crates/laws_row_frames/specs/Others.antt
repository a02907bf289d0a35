-- What is asked of a call that is done for another owner, so that it leaves a row as it is.
use Rattle.std.specs.Prelude.{ℕ, Bool, true, not, ◌&&◌, List}
use Rattle.std.specs.List.{list_all}
use Rattle.bosh_base.specs.CallStep.{has_number}
use Rattle.bosh_base.specs.Cloud.{disk_creation, vm_creation}
use Rattle.bosh_base.specs.declared.call.Call.{Call}
use Rattle.bosh_base.specs.declared.call.Call.TheVariants.{DeleteDisk}
use Rattle.bosh_base.specs.declared.entry.Effect.{Effect}
use Rattle.bosh_base.specs.declared.entry.Entry.{Entry}
use Rattle.bosh_base.specs.declared.entry.Entry.TheVariants.{Lost}
use Rattle.bosh_base.specs.declared.owner.Owner.{Owner}
use Rattle.bosh_base.specs.declared.row.Row.{Row}
use Rattle.laws_effects.specs.Orderly.{vms_named_by}
use Rattle.laws_row_facts.specs.Cloud.{is_for_instance}
use Rattle.laws_row_facts.specs.Words.{where_any}
use Rattle.laws_rows.specs.SoundDisks.{is_recorded}
use Rattle.bosh_rows.specs.Tied.{is_made_for}

-- the machine was made for the owner
abbrev pub is_owned_by : List Entry → Owner → ℕ → Bool
is_owned_by effects owner v = is_made_for owner (vm_creation effects v)

-- each machine that the call names was made for the owner of the call
abbrev pub names_own_machines : List Entry → Effect → Bool
names_own_machines effects e = list_all (is_owned_by effects e.owner) (vms_named_by e.call)

-- the row has no such disk, and its call in doubt did not make it
abbrev pub is_without_disk : List Entry → Row → ℕ → Bool
is_without_disk effects row d =
    not (is_recorded row.disks d) && where_any (λ doubt. not (has_number doubt.n (disk_creation effects d))) row.doubt

-- where the call deletes a disk, it is none of the row's
abbrev pub spares_disks : List Entry → Row → Call → Bool
spares_disks effects row (DeleteDisk d) = is_without_disk effects row d
spares_disks effects row call = true

-- where the entry is a loss, it is of a machine that was made for an instance
abbrev pub is_of_instance : List Entry → Entry → Bool
is_of_instance effects (Lost loss) = is_for_instance (vm_creation effects loss.vm)
is_of_instance effects entry = true
