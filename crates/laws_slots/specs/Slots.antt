-- Facts on the record of one compile machine and what was done to the cloud. They are asked of three records: the
-- recorded one; what it was before an open call, until the cloud did that; and what it will be once the call is
-- answered as the cloud did.
use Rattle.std.specs.Prelude.{◌≡◌, ℕ, Bool, true, false, nat_eq, not, ◌&&◌, ◌==◌, Option, Some, None, is_some, List, []}
use Rattle.std.specs.Cmp.Lexicographic.{pointwise}
use Rattle.std.specs.List.{list_all}
use Rattle.bosh_base.specs.Cloud.{vm_creation}
use Rattle.bosh_base.specs.declared.call.Call.{Call}
use Rattle.bosh_base.specs.declared.call.Call.TheVariants.{CreateVm, DeleteVm, HasVm, FindVm, CompilePackage}
use Rattle.bosh_base.specs.declared.entry.Entry.{Entry}
use Rattle.bosh_base.specs.declared.make.Make.{Make}
use Rattle.bosh_base.specs.declared.owner.Owner.{Owner}
use Rattle.bosh_base.specs.declared.owner.Owner.TheVariants.{Compile}
use Rattle.bosh_base.specs.declared.row.Doubt.{Doubt}
use Rattle.bosh_base.specs.declared.row.Vm.{Vm}
use Rattle.bosh_history.specs.Known.{Slot, SlotName}
use Rattle.bosh_history.specs.Ties.{is_tied_slot, was_made_as}
use Rattle.laws_row_facts.specs.Numbers.{is_effect_of}
use Rattle.laws_row_facts.specs.Rows.{is_made_in}
use Rattle.laws_row_facts.specs.Words.{is_some_with, where_any}
use Rattle.laws_rows.specs.Rightful.{is_machine}
use Rattle.bosh_rows.specs.Same.{same_make}
use Rattle.bosh_rows.specs.Tied.{vms_of}

-- whom a compile machine is made for
abbrev pub owner_of : SlotName → Owner
owner_of name = Compile name.task name.slot

-- ---- its record alone

-- the call creates a machine of the make
abbrev pub is_creation_of : Make → Call → Bool
is_creation_of make (CreateVm other disks) = same_make other make
is_creation_of make call = false

-- the call deletes the machine
abbrev pub is_deletion_of : ℕ → Call → Bool
is_deletion_of v (DeleteVm vm) = vm == v
is_deletion_of v call = false

-- without a machine it is in doubt of the creation of its make, and with one of nothing or of its deletion
abbrev pub is_shaped_by : Make → Option Vm → Option Doubt → Bool
is_shaped_by make None doubt = is_some_with (λ d. is_creation_of make d.call) doubt
is_shaped_by make (Some vm) doubt = where_any (λ d. is_deletion_of vm.vm d.call) doubt

-- the record is so
abbrev pub has_shape : Slot → Bool
has_shape it = is_shaped_by it.make it.vm it.doubt

-- ---- its record and the cloud

-- its machine was made as it is recorded, for its deployment
abbrev pub is_slot_created : List Entry → Owner → Slot → Bool
is_slot_created effects owner it =
    was_made_as effects owner it it.vm && where_any (λ vm. is_made_in it.dep (vm_creation effects vm.vm)) it.vm

-- Its machine is the only one there that was made for it, before the call in doubt or after it; where nothing is
-- recorded there is none.
abbrev pub is_slot_tied : List Entry → SlotName → Option Slot → Bool
is_slot_tied effects name (Some it) = is_tied_slot effects name (Some it)
is_slot_tied effects name None = pointwise nat_eq (vms_of effects (owner_of name)) []

-- the facts on the record of a compile machine and the cloud
pub record SlotFacts (effects : List Entry) (name : SlotName) (slot : Option Slot) : Type 0 where
  -- its machine and its call in doubt are such as it can come to
  pub shape : where_any has_shape slot ≡ true
  -- its machine was made as it is recorded
  pub created : where_any (is_slot_created effects (owner_of name)) slot ≡ true
  -- its machine is the only one that is there
  pub tied : is_slot_tied effects name slot ≡ true

-- the tests of the facts
abbrev pub are_slot_facts : List Entry → SlotName → Option Slot → Bool
are_slot_facts effects name slot =
    where_any has_shape slot
    && (where_any (is_slot_created effects (owner_of name)) slot && is_slot_tied effects name slot)

-- an effect of the number of its call in doubt is that call's, for the compile machine and its deployment
abbrev pub is_slot_doubt_its_own : List Entry → SlotName → Slot → Bool
is_slot_doubt_its_own effects name it =
    where_any (λ d. list_all (is_effect_of d.n (owner_of name) it.dep d.call) effects) it.doubt

-- ---- its calls

-- The call is one for the compile machine: to create it where nothing is recorded, to ask what became of a call in
-- doubt, and else to compile on its machine or to delete it.
abbrev pub is_call_of_slot : Call → Option Slot → Bool
is_call_of_slot (CreateVm make disks) None = true
is_call_of_slot (DeleteVm v) (Some it) = is_machine it.vm v && not (is_some it.doubt)
is_call_of_slot (FindVm agent) (Some it) = not (is_some it.vm) && is_some_with (λ d. d.n == agent) it.doubt
is_call_of_slot (HasVm v) (Some it) = is_machine it.vm v && is_some it.doubt
is_call_of_slot (CompilePackage v work deps) (Some it) = is_machine it.vm v && not (is_some it.doubt)
is_call_of_slot call slot = false
