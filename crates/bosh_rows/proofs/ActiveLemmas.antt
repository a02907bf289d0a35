-- What an answer leaves of the active disk of a row.
use Rattle.std.proofs.Common.{◌≡◌, ℕ, Bool, true, false, not, ◌||◌, ◌==◌, if◌then◌else◌, Option, Some, None, List, [], ◌∷◌, ◌++◌, refl, ap, ◌∙◌, arith}
use Rattle.std.specs.Prelude.{map}
use Rattle.std.specs.List.{list_all, list_any}
use Rattle.std.specs.Option.{option_and_then}
use Rattle.std.proofs.lemmas.Bool.Decides.{eqb_tells}
use Rattle.bosh_base.specs.declared.answer.Answer.{Answer}
use Rattle.bosh_base.specs.declared.answer.Answer.TheVariants as answers
use Rattle.bosh_base.specs.declared.call.Call.{Call}
use Rattle.bosh_base.specs.declared.call.Call.TheVariants.{CreateVm, DeleteVm, HasVm, FindVm, CreateDisk, DeleteDisk, HasDisk, FindDisk, AttachDisk, DetachDisk, GetDisks, Ping, GetState, Apply, Start, Drain, Stop, MountDisk, UnmountDisk, ListDisk, MigrateDisk, CompilePackage}
use Rattle.bosh_base.specs.declared.disk_want.DiskWant.{DiskWant}
use Rattle.bosh_base.specs.declared.row.DiskRow.{DiskRow}
use Rattle.bosh_base.specs.declared.row.Doubt.{Doubt}
use Rattle.bosh_base.specs.declared.row.Row.{Row}
use Rattle.bosh_rows.specs.After.{after, attach, mount, unmount, let_go, attached_by, mounted_by, changing, migrated_disks, new_role, with_disk, with_found}
use Rattle.bosh_rows.specs.Disks.{is_active}
use Rattle.bosh_rows.specs.Told.{active_number, disk_made, disk_told, first_number, is_migration, CanMigrate}

-- a change of each disk that keeps its number and its role keeps the active one
active_mapped : (change : DiskRow → DiskRow) → ((d : DiskRow) → (change d).disk ≡ d.disk) →
    ((d : DiskRow) → (change d).role ≡ d.role)
    → (disks : List DiskRow) → active_number (map change disks) ≡ active_number disks
active_mapped change number role [] = refl
active_mapped change number role (d ∷ disks) = grind (arith, number d, role d, active_mapped change number role disks)

active_changed : (n : ℕ) (change : DiskRow → DiskRow) → ((d : DiskRow) → (change d).disk ≡ d.disk) →
    ((d : DiskRow) → (change d).role ≡ d.role)
    → (disks : List DiskRow) → active_number (changing n change disks) ≡ active_number disks
active_changed n change number role [] = refl
active_changed n change number role (d ∷ disks) =
    grind (arith, eqb_tells d.disk n, number d, role d, active_changed n change number role disks)

-- one more disk is active where none was
active_added : (made : DiskRow) (disks : List DiskRow) → made.role ≡ new_role disks → active_number
    (disks ++ made ∷ []) ≡ first_number (active_number disks) (Some made.disk)
active_added made [] role = grind (arith)
active_added made (d ∷ disks) role = grind (arith, active_added made disks)

active_with : (tag : ℕ) (wanted : DiskWant) (found : Option ℕ) (row : Row) → active_number
    (with_disk tag wanted found row).disks ≡ first_number (active_number row.disks) found
active_with tag wanted (Some d) row =
    active_added
    (record { disk = d; tag = tag; want = wanted; role = new_role row.disks; attached = false; mounted = false })
    row.disks refl
active_with tag wanted None row = grind (arith)

active_found : (tag : ℕ) (found : Option ℕ) (doubt : Option Doubt) (row : Row)
    → active_number (with_found tag found doubt row).disks
    ≡ first_number (active_number row.disks) (option_and_then (λ it. disk_made found it.call) doubt)
active_found tag found None row = grind (arith)
active_found tag found (Some d) row = by_call d.call
  where
    by_call : (call : Call)
        → active_number (with_found tag found (Some (record { n = d.n; call = call })) row).disks
        ≡ first_number (active_number row.disks) (disk_made found call)
    by_call (CreateDisk wanted vm) = active_with tag wanted found row
    by_call call = grind (arith)

pub active_after : (n : ℕ) (call : Call) (answer : Answer) (row : Row) → is_migration call ≡ false
    → active_number (after n call answer row).disks
    ≡ first_number (active_number row.disks) (disk_told call answer row.doubt)
active_after n (CreateVm x0 x1) answer row other = grind (arith)
active_after n (DeleteVm x0) answer row other = grind (arith, active_mapped let_go (λ d. refl) (λ d. refl) row.disks)
active_after n (HasVm x0) answer row other = grind (arith, active_mapped let_go (λ d. refl) (λ d. refl) row.disks)
active_after n (FindVm x0) answer row other = grind (arith, active_mapped let_go (λ d. refl) (λ d. refl) row.disks)
active_after n (DeleteDisk x0) answer row other = grind (arith)
active_after n (HasDisk x0) answer row other = grind (arith)
active_after n (AttachDisk x0 x1) answer row other =
    grind (arith, active_changed x1 attach (λ d. refl) (λ d. refl) row.disks)
active_after n (DetachDisk x0 x1) answer row other =
    grind (arith, active_changed x1 let_go (λ d. refl) (λ d. refl) row.disks)
active_after n (Ping x0) answer row other = grind (arith)
active_after n (GetState x0) answer row other = grind (arith)
active_after n (Apply x0 x1) answer row other = grind (arith)
active_after n (Start x0) answer row other = grind (arith)
active_after n (Drain x0) answer row other = grind (arith)
active_after n (Stop x0) answer row other = grind (arith)
active_after n (MountDisk x0 x1) answer row other =
    grind (arith, active_changed x1 mount (λ d. refl) (λ d. refl) row.disks)
active_after n (UnmountDisk x0 x1) answer row other =
    grind (arith, active_changed x1 unmount (λ d. refl) (λ d. refl) row.disks)
active_after n (MigrateDisk x0 x1 x2) answer row other = grind (arith)
active_after n (CompilePackage x0 x1 x2) answer row other = grind (arith)
active_after n (CreateDisk x0 x1) (answers.Cid d) row other = active_with n x0 (Some d) row
active_after n (CreateDisk x0 x1) answer row other = grind (arith)
active_after n (FindDisk x0) (answers.Found found) row other = active_found x0 found row.doubt row
active_after n (FindDisk x0) answer row other = grind (arith)
active_after n (GetDisks x0) (answers.Disks numbers) row other =
    grind (arith, active_mapped (attached_by numbers) (λ d. refl) (λ d. refl) row.disks)
active_after n (GetDisks x0) answer row other = grind (arith)
active_after n (ListDisk x0) (answers.Disks numbers) row other =
    grind (arith, active_mapped (mounted_by numbers) (λ d. refl) (λ d. refl) row.disks)
active_after n (ListDisk x0) answer row other = grind (arith)

-- ---- a migration

-- a disk of these is active, whichever it is, only where it is the one
abbrev only_active : ℕ → List DiskRow → Bool
only_active from disks = list_all (λ d. not (is_active d) || d.disk == from) disks

active_of_migrated : (from to : ℕ) (disks : List DiskRow) → (from == to) ≡ false → only_active from disks ≡ true
    → active_number (migrated_disks from to disks) ≡ (if list_any (λ d. d.disk == to) disks then Some to else None)
active_of_migrated from to [] other only = refl
active_of_migrated from to (d ∷ disks) other only =
    grind (arith, eqb_tells d.disk to, eqb_tells d.disk from, eqb_tells from to, active_of_migrated from to disks other)

pub active_migrated : (from to : ℕ) (disks : List DiskRow) → CanMigrate from to disks
    → active_number (migrated_disks from to disks) ≡ Some to
active_migrated from to disks can =
    active_of_migrated from to disks can.other can.only ∙ ap (λ b. if b then Some to else None) can.is_there
