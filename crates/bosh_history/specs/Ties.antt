-- What is recorded is what the cloud has, at any moment (this project's profile).
use Rattle.std.specs.Prelude.{◌≡◌, ℕ, ◌+◌, Bool, true, false, nat_eq, not, ◌&&◌, ◌||◌, ◌==◌, Option, Some, None, is_some, List, [], ◌∷◌, count_by}
use Rattle.std.specs.Cmp.Lexicographic.{pointwise}
use Rattle.std.specs.List.{list_all}
use Rattle.std.specs.Option.{option_eq}
use Rattle.bosh_base.specs.CallStep.{found_vm}
use Rattle.bosh_base.specs.Cloud.{numbers_to, vms_created, vm_creation, is_vm_there, disks_created, disk_creation, is_disk_there, want_of}
use Rattle.bosh_base.specs.declared.call.Call.{Call}
use Rattle.bosh_base.specs.declared.call.Call.TheVariants.{CreateVm, CreateDisk, DeleteVm}
use Rattle.bosh_base.specs.declared.entry.Effect.{Effect}
use Rattle.bosh_base.specs.declared.entry.Entry.{Entry}
use Rattle.bosh_base.specs.declared.moves.Move.{Move}
use Rattle.bosh_base.specs.declared.owner.Owner.{Owner}
use Rattle.bosh_base.specs.declared.owner.Owner.TheVariants.{Instance, Compile, Disk}
use Rattle.bosh_base.specs.declared.row.Doubt.{Doubt}
use Rattle.bosh_base.specs.declared.row.Row.{Row}
use Rattle.bosh_base.specs.declared.row.Vm.{Vm}
use Rattle.bosh_base.specs.declared.snapshot.Orphan.{Orphan}
use Rattle.bosh_history.specs.Known.{Slot, SlotName}
use Rattle.bosh_history.specs.Moments.{Opening, Moment, beginning, later}
use Rattle.bosh_history.specs.Slots.{slot_found}
use Rattle.bosh_history.specs.Words.{holds}
use Rattle.bosh_rows.specs.Same.{same_owner, same_want}
use Rattle.bosh_rows.specs.Tied.{vms_of, was_made, as_done, has_room_for_disks, is_made, is_tied_row, number_of, one_if}

-- ---- compile machines

-- the compile machine as it was before the call in doubt, and as that leaves it where it had its effect
abbrev pub slot_before : Slot → Slot
slot_before it = record it { doubt = None }

abbrev pub slot_by : List Entry → Slot → ℕ → Call → Option Slot
slot_by effects it n (CreateVm make disks) = slot_found n (found_vm effects n) it
slot_by effects it n (DeleteVm vm) = None
slot_by effects it n call = Some (slot_before it)

abbrev pub slot_as_done : List Entry → Slot → Option Slot
slot_as_done effects it = by_doubt it.doubt
  where
    by_doubt : Option Doubt → Option Slot
    by_doubt (Some d) = slot_by effects it d.n d.call
    by_doubt None = Some it

abbrev pub was_made_as : List Entry → Owner → Slot → Option Vm → Bool
was_made_as effects owner it (Some vm) = was_made owner vm.agent (Some it.make) (vm_creation effects vm.vm)
was_made_as effects owner it None = true

abbrev pub has_machine : List Entry → Owner → Option Slot → Bool
has_machine effects owner (Some it) =
    pointwise nat_eq (vms_of effects owner) (number_of it.vm) && was_made_as effects owner it it.vm
has_machine effects owner None = pointwise nat_eq (vms_of effects owner) []

-- its machine is the only one there of its slot, made as recorded
abbrev pub is_tied_slot : List Entry → SlotName → Option Slot → Bool
is_tied_slot effects name (Some it) =
    has_machine effects (Compile name.task name.slot) (Some (slot_before it))
    || has_machine effects (Compile name.task name.slot) (slot_as_done effects it)
is_tied_slot effects name None = false

-- ---- orphaned disks

abbrev pub is_wanted_as : Orphan → Option Effect → Bool
is_wanted_as it (Some e) =
    same_owner e.owner (Instance it.inst) && option_eq same_want (want_of e.call) (Some it.want)
is_wanted_as it None = false

-- it was made as recorded, and is there, but for a deletion in doubt
abbrev pub is_tied_orphan : List Entry → ℕ → Option Orphan → Bool
is_tied_orphan effects d (Some it) =
    is_wanted_as it (disk_creation effects d) && (is_disk_there effects d || is_some it.doubt)
is_tied_orphan effects d None = false

-- ---- whom machines and disks belong to

abbrev pub is_number : ℕ → Option Vm → Bool
is_number v vm = holds (λ it. it.vm == v) vm

abbrev pub belongs_to : Moment → ℕ → Owner → Bool
belongs_to m v (Instance i) = is_number v (m.known.row i).vm || is_number v (as_done m.effects (m.known.row i)).vm
belongs_to m v (Compile t s) =
    holds (λ it. is_number v it.vm || holds (λ that. is_number v that.vm) (slot_as_done m.effects it))
    (m.known.slot t s)
belongs_to m v (Disk d) = false

abbrev pub is_owned : Moment → ℕ → Option Effect → Bool
is_owned m v (Some e) = belongs_to m v e.owner
is_owned m v None = false

-- how often the disk is counted: in the row of its instance, as what a call in doubt made, and as an orphan
abbrev pub creates_disk : Call → Bool
creates_disk (CreateDisk wanted vm) = true
creates_disk call = false

abbrev pub is_making : ℕ → Option Doubt → Bool
is_making tag doubt = holds (λ d. d.n == tag && creates_disk d.call) doubt

abbrev pub times : Moment → ℕ → ℕ → Owner → ℕ
times m d tag (Instance i) =
    count_by (λ it. it.disk == d) (m.known.row i).disks
    + one_if (is_making tag (m.known.row i).doubt)
    + one_if (is_some (m.known.orphan d))
times m d tag owner = 0

abbrev pub is_counted_once : Moment → ℕ → Option Effect → Bool
is_counted_once m d (Some e) = times m d e.n e.owner == 1
is_counted_once m d None = false

-- ---- all

-- The row is what the cloud has; its recorded machine was made for it, also where it is lost or spoiled; and it has room
-- for its disks.
abbrev pub is_row_tied : List Entry → Row → Bool
is_row_tied effects row =
    is_tied_row effects row && (is_made effects row row.vm && has_room_for_disks row)

abbrev pub are_rows_tied : Moment → Bool
are_rows_tied m = list_all (λ i. is_row_tied m.effects (m.known.row i)) m.known.instances

abbrev pub are_slots_tied : Moment → Bool
are_slots_tied m = list_all (λ name. is_tied_slot m.effects name (m.known.slot name.task name.slot)) m.known.machines

abbrev pub are_orphans_tied : Moment → Bool
are_orphans_tied m = list_all (λ d. is_tied_orphan m.effects d (m.known.orphan d)) m.known.orphans

-- each machine that is there is of one that is recorded
abbrev pub are_machines_owned : Moment → Bool
are_machines_owned m =
    list_all (λ v. not (is_vm_there m.effects v) || is_owned m v (vm_creation m.effects v))
    (numbers_to (vms_created m.effects))

-- each disk that is there is recorded once
abbrev pub are_disks_counted : Moment → Bool
are_disks_counted m =
    list_all (λ d. not (is_disk_there m.effects d) || is_counted_once m d (disk_creation m.effects d))
    (numbers_to (disks_created m.effects))

-- what is recorded is what the cloud has, and the cloud has nothing that is not recorded
abbrev pub is_tied : Moment → Bool
is_tied m =
    are_rows_tied m && (are_slots_tied m && (are_orphans_tied m && (are_machines_owned m && are_disks_counted m)))

abbrev pub IsTiedFrom : Moment → List Move → Type 0
IsTiedFrom m [] = is_tied m ≡ true
IsTiedFrom m (move ∷ moves) = (is_tied m ≡ true) × IsTiedFrom (later m move) moves

abbrev pub IsTied : Opening → List Move → Type 0
IsTied o moves = IsTiedFrom (beginning o) moves
