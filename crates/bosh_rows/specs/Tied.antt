-- What is recorded of an instance is what the cloud has of it (this project's profile).
use Rattle.std.specs.Prelude.{◌≡◌, ℕ, ◌+◌, Bool, true, false, not, nat_eq, nat_le, ◌&&◌, ◌||◌, ◌==◌, if◌then◌else◌, Option, Some, None, is_some, List, [], ◌∷◌, count_by, filter}
use Rattle.std.specs.List.{list_any, list_all}
use Rattle.std.specs.Cmp.Lexicographic.{pointwise}
use Rattle.std.specs.Option.{option_eq}
use Rattle.bosh_base.specs.Cloud.{numbers_to, vms_created, vm_creation, is_vm_there, spec_of, is_running, is_drained, disk_creation, is_disk_there, holder_of, is_holder, is_disk_mounted, attached_to, make_of, want_of}
use Rattle.bosh_base.specs.CallStep.{found_vm, found_disk}
use Rattle.bosh_base.specs.declared.answer.Answer.TheVariants as answers
use Rattle.bosh_base.specs.declared.call.Call.{Call}
use Rattle.bosh_base.specs.declared.call.Call.TheVariants.{AttachDisk, CreateVm, CreateDisk, FindVm, FindDisk}
use Rattle.bosh_base.specs.declared.disk_want.DiskWant.{DiskWant}
use Rattle.bosh_base.specs.declared.entry.Effect as effect
use Rattle.bosh_base.specs.declared.entry.Entry.{Entry}
use Rattle.bosh_base.specs.declared.entry.Entry.TheVariants.{Lost}
use Rattle.bosh_base.specs.declared.make.Make.{Make}
use Rattle.bosh_base.specs.declared.owner.Owner.{Owner}
use Rattle.bosh_base.specs.declared.owner.Owner.TheVariants.{Instance}
use Rattle.bosh_base.specs.declared.row.DiskRow.{DiskRow}
use Rattle.bosh_base.specs.declared.row.Doubt as doubt
use Rattle.bosh_base.specs.declared.row.Row.{Row}
use Rattle.bosh_base.specs.declared.row.Vm as vm
use Rattle.bosh_rows.specs.After.{after}
use Rattle.bosh_rows.specs.Same.{same_owner, same_make, same_spec, same_want}
use Rattle.bosh_rows.specs.Standing.{same_truth}

-- ---- the cloud's facts of an owner

abbrev pub is_made_for : Owner → Option effect.Effect → Bool
is_made_for owner (Some e) = same_owner e.owner owner
is_made_for owner None = false

-- the machines there that were created for an owner, by number
abbrev pub vms_of : List Entry → Owner → List ℕ
vms_of effects owner =
    filter (λ v. is_vm_there effects v && is_made_for owner (vm_creation effects v))
    (numbers_to (vms_created effects))

-- a machine was created for the owner, by this call and as it was asked
abbrev pub was_made : Owner → ℕ → Option Make → Option effect.Effect → Bool
was_made owner agent make (Some e) =
    same_owner e.owner owner && (e.n == agent && option_eq same_make (make_of e.call) make)
was_made owner agent make None = false

-- a disk was created for the owner, by this call and as it was asked
abbrev pub was_provided : Owner → ℕ → DiskWant → Option effect.Effect → Bool
was_provided owner tag wanted (Some e) =
    same_owner e.owner owner && (e.n == tag && option_eq same_want (want_of e.call) (Some wanted))
was_provided owner tag wanted None = false

-- the entry is a loss of the machine
abbrev pub is_loss_of : ℕ → Entry → Bool
is_loss_of v (Lost loss) = loss.vm == v
is_loss_of v entry = false

-- a machine was lost, whole or its agent
abbrev pub is_named_lost : List Entry → ℕ → Bool
is_named_lost effects v = list_any (is_loss_of v) effects

-- ---- a row in doubt

-- the row as it was before the call in doubt
abbrev pub without_doubt : Row → Row
without_doubt row = record row { doubt = None }

-- The row as the call in doubt leaves it where it had its effect: a machine or disk that it made is the one that is
-- found by its number.
abbrev pub as_done : List Entry → Row → Row
as_done effects row = by_doubt row.doubt
  where
    by_call : ℕ → Call → Row
    by_call n (CreateVm make disks) = after n (FindVm n) (answers.Found (found_vm effects n)) row
    by_call n (CreateDisk wanted vm) = after n (FindDisk n) (answers.Found (found_disk effects n)) row
    by_call n call = after n call answers.Done row

    by_doubt : Option doubt.Doubt → Row
    by_doubt (Some d) = by_call d.n d.call
    by_doubt None = row

-- ---- the tie

abbrev pub number_of : Option vm.Vm → List ℕ
number_of (Some it) = it.vm ∷ []
number_of None = []

-- the machine was made for the instance as it is recorded, also where it is gone
abbrev pub is_made : List Entry → Row → Option vm.Vm → Bool
is_made effects row (Some it) = was_made (Instance row.inst) it.agent row.make (vm_creation effects it.vm)
is_made effects row None = true

-- the machine was made as recorded, and has the spec and the state that are recorded
abbrev pub has_facts : List Entry → Row → Option vm.Vm → Bool
has_facts effects row (Some it) =
    was_made (Instance row.inst) it.agent row.make (vm_creation effects it.vm)
    && (option_eq same_spec (spec_of effects it.vm) row.spec
    && (same_truth (is_running effects it.vm) row.running && same_truth (is_drained effects it.vm) row.drained))
has_facts effects row None = not (is_some row.spec) && (not row.running && not row.drained)

-- the disk is there, and was made as recorded
abbrev pub is_disk_kept : List Entry → Row → DiskRow → Bool
is_disk_kept effects row d =
    is_disk_there effects d.disk && was_provided (Instance row.inst) d.tag d.want (disk_creation effects d.disk)

-- it is attached to the machine, or to none at all, as recorded, and mounted there as recorded
abbrev pub is_disk_placed : List Entry → List ℕ → DiskRow → Bool
is_disk_placed effects vms d =
    same_truth (is_some (holder_of effects d.disk)) d.attached
    && same_truth (list_any (λ v. is_holder effects v d.disk) vms) d.attached
    && same_truth (d.attached && is_disk_mounted effects d.disk) d.mounted

-- the machine has no disk but those that are recorded
abbrev pub has_no_other_disk : List Entry → Row → ℕ → Bool
has_no_other_disk effects row v = list_all (λ d. list_any (λ it. it.disk == d) row.disks) (attached_to effects v)

-- the recorded machine is the only one of its instance that may be there, and the recorded disks are there
abbrev pub is_tied_to_lost : List Entry → Row → Bool
is_tied_to_lost effects row =
    list_all (λ v. list_any (λ it. it == v) (number_of row.vm)) (vms_of effects (Instance row.inst))
    && list_all (is_disk_kept effects row) row.disks

-- the row's facts are those of the cloud: its machine is the only one there of its instance, and it has the recorded
-- disks alone
abbrev pub is_tied_to : List Entry → Row → Bool
is_tied_to effects row =
    pointwise nat_eq (vms_of effects (Instance row.inst)) (number_of row.vm)
    && (has_facts effects row row.vm
    && (list_all (is_disk_kept effects row) row.disks
    && (list_all (is_disk_placed effects (number_of row.vm)) row.disks
    && list_all (has_no_other_disk effects row) (number_of row.vm))))

-- a loss named the machine, also where nobody noticed it yet
abbrev pub is_spoiled : List Entry → Row → Bool
is_spoiled effects row = list_any (is_named_lost effects) (number_of row.vm)

abbrev pub is_tied_row : List Entry → Row → Bool
is_tied_row effects row =
    if row.lost || is_spoiled effects row then is_tied_to_lost effects row
    else is_tied_to effects (without_doubt row) || is_tied_to effects (as_done effects row)

-- What is recorded of an instance is what the cloud has; with a call in doubt, as it was before or after its effect.
abbrev pub IsTiedRow : List Entry → Row → Type 0
IsTiedRow effects row = is_tied_row effects row ≡ true

-- ---- room for disks

abbrev pub one_if : Bool → ℕ
one_if true = 1
one_if false = 0

abbrev pub attaches : Call → Bool
attaches (AttachDisk vm disk) = true
attaches call = false

-- a disk is being attached
abbrev pub is_attaching : Option doubt.Doubt → Bool
is_attaching (Some it) = attaches it.call
is_attaching None = false

-- a row has at most two attached disks, counting one that is being attached
abbrev pub has_room_for_disks : Row → Bool
has_room_for_disks row = nat_le (count_by (λ d. d.attached) row.disks + one_if (is_attaching row.doubt)) 2
