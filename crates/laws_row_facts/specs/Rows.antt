-- Facts on one row and what was done to the cloud. They are asked of three rows: the recorded one; what it was
-- before an open call, until the cloud did that; and what it will be once the call is answered as the cloud did.
use Rattle.std.specs.Prelude.{◌≡◌, ℕ, Bool, true, not, nat_lt, ◌&&◌, ◌||◌, ◌==◌, Option, is_some, List, map}
use Rattle.std.specs.List.{list_any, list_all}
use Rattle.std.specs.Ordering.{nat_cmp}
use Rattle.std.specs.Str.{bytes_eq}
use Rattle.bosh_base.specs.Cloud.{vm_creation, is_vm_there, is_holder, attached_to}
use Rattle.bosh_base.specs.CallStep.{found_disk, has_agent}
use Rattle.bosh_base.specs.declared.call.Call.{Call}
use Rattle.bosh_base.specs.declared.call.Call.TheVariants.{CreateDisk, DeleteVm}
use Rattle.bosh_base.specs.declared.entry.Effect.{Effect}
use Rattle.bosh_base.specs.declared.entry.Entry.{Entry}
use Rattle.bosh_base.specs.declared.row.Row.{Row}
use Rattle.laws_row_facts.specs.Words.{are_ascending, implies, is_some_with, where_any}
use Rattle.laws_rows.specs.Answered.{has_room_for_disks}
use Rattle.laws_rows.specs.Rightful.{is_doubt_fit, is_made}
use Rattle.laws_rows.specs.SoundDisks.{are_sound}
use Rattle.bosh_rows.specs.Standing.{same_truth}
use Rattle.bosh_rows.specs.Tied.{IsTiedRow, is_tied_row, is_disk_kept, is_spoiled, without_doubt, as_done, number_of}

-- ---- the row alone

-- A lost row has a machine, and a row without one has no disk attached or mounted.
abbrev pub has_machine_as_needed : Row → Bool
has_machine_as_needed row =
    implies row.lost (is_some row.vm)
    && (is_some row.vm || list_all (λ d. not d.attached && not d.mounted) row.disks)

-- A row that is in doubt of the deletion of its machine, and not lost, has no disk attached.
abbrev pub is_deleted_bare : Row → Bool
is_deleted_bare row = row.lost || where_any (λ d. by_call d.call) row.doubt
  where
    by_call : Call → Bool
    by_call (DeleteVm vm) = list_all (λ d. not d.attached) row.disks
    by_call call = true

-- the numbers are below that of the disk, where there is one
abbrev pub are_below : List ℕ → Option ℕ → Bool
are_below disks found = where_any (λ d. list_all (λ it. nat_lt it d) disks) found

-- the disk that a call in doubt made is above those that are recorded
abbrev pub is_found_last : List Entry → Row → Bool
is_found_last effects row = where_any (λ d. by_call d.n d.call) row.doubt
  where
    by_call : ℕ → Call → Bool
    by_call n (CreateDisk want vm) = are_below (map (λ d. d.disk) row.disks) (found_disk effects n)
    by_call n call = true

-- The disks stand by number, and the one that a call in doubt made is above them.
abbrev pub are_disks_in_order : List Entry → Row → Bool
are_disks_in_order effects row = are_ascending nat_cmp (map (λ d. d.disk) row.disks) && is_found_last effects row

-- ---- the row and the cloud

-- it was made for the deployment
abbrev pub is_made_in : List ℕ → Option Effect → Bool
is_made_in dep e = is_some_with (λ it. bytes_eq it.dep dep) e

-- The machine was made as it is recorded, for the deployment, also where it is gone; the disks were, and are there.
abbrev pub is_created_as_recorded : List Entry → Row → Bool
is_created_as_recorded effects row =
    is_made effects row row.vm
    && (list_all (λ v. is_made_in row.inst.dep (vm_creation effects v)) (number_of row.vm)
    && list_all (is_disk_kept effects row) row.disks)

-- the disk is recorded as attached
abbrev pub is_attached_in : Row → ℕ → Bool
is_attached_in row d = list_any (λ it. it.disk == d && it.attached) row.disks

-- the machine holds just the disks that are attached in the row
abbrev pub holds_what_is_attached : List Entry → Row → ℕ → Bool
holds_what_is_attached effects row v =
    list_all (λ d. same_truth (is_holder effects v d.disk) d.attached) row.disks
    && list_all (is_attached_in row) (attached_to effects v)

-- .. in the row before its call in doubt, or after it
abbrev pub is_held_as_settled : List Entry → Row → ℕ → Bool
is_held_as_settled effects row v =
    not (is_vm_there effects v)
    || (holds_what_is_attached effects (without_doubt row) v || holds_what_is_attached effects (as_done effects row) v)

-- Where the row is not lost, its machine, silent or not, holds the disks that are recorded as attached, before the call
-- in doubt or after it.
abbrev pub holds_its_disks : List Entry → Row → Bool
holds_its_disks effects row = row.lost || list_all (is_held_as_settled effects row) (number_of row.vm)

-- The machine of a lost row does not answer.
abbrev pub is_lost_rightly : List Entry → Row → Bool
is_lost_rightly effects row = implies row.lost (list_all (λ v. not (has_agent effects v)) (number_of row.vm))

-- ---- all

-- the facts on one row and the cloud
pub record RowFacts (effects : List Entry) (row : Row) : Type 0 where
  -- a call in doubt is one that the row could have come to
  pub doubt_fits : is_doubt_fit row row.doubt ≡ true
  -- a lost row has a machine, and a row without one no attached disk
  pub has_machine : has_machine_as_needed row ≡ true
  -- no disk stands twice, and at most one is active
  pub sound_disks : are_sound row.disks ≡ true
  -- at most two disks are attached, counting one that is being attached
  pub has_room : has_room_for_disks row ≡ true
  -- a machine whose deletion is in doubt has no disk attached, unless the row is lost
  pub deleted_bare : is_deleted_bare row ≡ true
  -- the disks stand by number
  pub in_order : are_disks_in_order effects row ≡ true
  -- the machine and the disks were made as they are recorded
  pub created : is_created_as_recorded effects row ≡ true
  -- the row is what the cloud has, as far as that is known
  pub tied : IsTiedRow effects row
  -- the machine holds the disks that are recorded as attached
  pub holds_disks : holds_its_disks effects row ≡ true
  -- the machine of a lost row does not answer
  pub lost_silent : is_lost_rightly effects row ≡ true

-- the tests of the facts
abbrev pub are_row_facts : List Entry → Row → Bool
are_row_facts effects row =
    is_doubt_fit row row.doubt
    && (has_machine_as_needed row
    && (are_sound row.disks
    && (has_room_for_disks row
    && (is_deleted_bare row
    && (are_disks_in_order effects row
    && (is_created_as_recorded effects row
    && (is_tied_row effects row && (holds_its_disks effects row && is_lost_rightly effects row))))))))

-- the row is lost, or nobody noticed yet that its machine was
abbrev pub is_lost_or_spoiled : List Entry → Row → Bool
is_lost_or_spoiled effects row = row.lost || is_spoiled effects row
