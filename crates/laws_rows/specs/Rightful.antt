-- What is kept of a row and of what was done to the cloud, so that one call keeps the tie between them (this project's
-- profile).
use Rattle.std.specs.Prelude.{◌≡◌, ◌⊎◌, ℕ, Bool, true, false, not, ◌&&◌, ◌||◌, ◌==◌, Option, Some, None, is_some, List, [], ◌∷◌, ◌++◌}
use Rattle.std.specs.List.{list_all}
use Rattle.std.specs.Option.{option_eq}
use Rattle.bosh_base.specs.declared.call.Call.{Call}
use Rattle.bosh_base.specs.declared.call.Call.TheVariants.{CreateVm, DeleteVm, CreateDisk, AttachDisk, DetachDisk, Apply, Start, Drain, Stop, MountDisk, UnmountDisk}
use Rattle.bosh_base.specs.declared.entry.Effect as effect
use Rattle.bosh_base.specs.declared.entry.Entry.{Entry}
use Rattle.bosh_base.specs.declared.entry.Entry.TheVariants.{Effect}
use Rattle.bosh_base.specs.declared.owner.Owner.TheVariants.{Instance}
use Rattle.bosh_base.specs.declared.row.DiskRow.{DiskRow}
use Rattle.bosh_base.specs.declared.row.Doubt.{Doubt}
use Rattle.bosh_base.specs.declared.row.Row.{Row}
use Rattle.bosh_base.specs.declared.row.Vm.{Vm}
use Rattle.laws_effects.specs.Holders.{AreHeldByTheirOwn}
use Rattle.laws_effects.specs.Orderly.{AreOrderly}
use Rattle.bosh_rows.specs.Same.{same_make}
pub use Rattle.bosh_rows.specs.Tied.{is_made}
use Rattle.laws_rows.specs.SoundDisks.{is_found_new, is_recorded}

-- ---- a call in doubt

-- the machine is the recorded one
abbrev pub is_machine : Option Vm → ℕ → Bool
is_machine (Some it) v = it.vm == v
is_machine None v = false

-- the disk is recorded, and each of its number meets the test
abbrev pub is_disk_with : (DiskRow → Bool) → List DiskRow → ℕ → Bool
is_disk_with test disks number =
    is_recorded disks number && list_all (λ d. not (d.disk == number) || test d) disks

-- What a row has in doubt of a call: a creation has no machine yet, and any other call names the machine; a disk that
-- is
-- attached is not attached yet, and so on.
abbrev pub fits : Row → Call → Bool
fits row (CreateVm make hint) = not (is_some row.vm) && option_eq same_make row.make (Some make)
fits row (DeleteVm v) = is_machine row.vm v
fits row (CreateDisk want v) = is_machine row.vm v
fits row (AttachDisk v d) = is_machine row.vm v && is_disk_with (λ it. not it.attached) row.disks d
fits row (DetachDisk v d) = is_machine row.vm v && is_disk_with (λ it. it.attached && not it.mounted) row.disks d
fits row (Apply v spec) = is_machine row.vm v
fits row (Start v) = is_machine row.vm v
fits row (Drain v) = is_machine row.vm v
fits row (Stop v) = is_machine row.vm v
fits row (MountDisk v d) = is_machine row.vm v && is_disk_with (λ it. it.attached && not it.mounted) row.disks d
fits row (UnmountDisk v d) = is_machine row.vm v && is_disk_with (λ it. it.mounted) row.disks d
fits row call = false

abbrev pub is_doubt_fit : Row → Option Doubt → Bool
is_doubt_fit row (Some doubt) = fits row doubt.call
is_doubt_fit row None = true

-- ---- what was done

abbrev pub IsAmong : effect.Effect → List Entry → Type 0
IsAmong e [] = ⊥
IsAmong e (entry ∷ entries) = (entry ≡ Effect e) ⊎ IsAmong e entries

-- What was done is in its order, and disks are held by machines of their own owners. The call in doubt fits the row,
-- and
-- an effect of its number is that call's, for the instance of the row; and the machine was made as recorded.
pub record IsRightful (effects : List Entry) (row : Row) : Type 0 where
  pub orderly : AreOrderly effects
  pub own : AreHeldByTheirOwn effects
  pub fit : is_doubt_fit row row.doubt ≡ true
  pub found_new : is_found_new effects row ≡ true
  pub made : is_made effects row row.vm ≡ true
  pub call : (doubt : Doubt) (e : effect.Effect) → row.doubt ≡ Some doubt → IsAmong e effects → e.n ≡ doubt.n →
      e.call ≡ doubt.call
  pub owner : (doubt : Doubt) (e : effect.Effect) → row.doubt ≡ Some doubt → IsAmong e effects → e.n ≡ doubt.n →
      e.owner ≡ Instance row.inst

-- what was done, with the effect of a call where it had one
abbrev pub done_with : Bool → List Entry → effect.Effect → List Entry
done_with true effects e = effects ++ Effect e ∷ []
done_with false effects e = effects
