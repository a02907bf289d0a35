-- Which disk of a row is active stays so, but for a migration.
use Rattle.std.proofs.Common.{◌≡◌, ◌∙◌, ℕ, Bool, true, false, Option, Some, None, List, [], ◌∷◌, ◌++◌, refl, sym, arith}
use Rattle.std.specs.Prelude.{◌==◌, if◌then◌else◌, map}
use Rattle.std.specs.Option.{option_map}
use Rattle.std.proofs.lemmas.Bool.{false≢true}
use Rattle.bosh_base.specs.declared.answer.Answer.{Answer}
use Rattle.bosh_base.specs.declared.answer.Answer.TheVariants as answers
use Rattle.bosh_base.specs.declared.call.Call.{Call}
use Rattle.bosh_base.specs.declared.call.Call.TheVariants as calls
use Rattle.bosh_base.specs.declared.row.DiskRow.{DiskRow}
use Rattle.bosh_base.specs.declared.row.Doubt.{Doubt}
use Rattle.bosh_base.specs.declared.row.Row.{Row}
use Rattle.bosh_rows.specs.After.{after, attach, attached_by, changing, let_go, mount, mounted_by, row_at_gone}
use Rattle.bosh_rows.specs.After.{row_by_answer, unmount}
use Rattle.bosh_rows.specs.After.{with_disk, with_found, with_machine, without_machine}
use Rattle.bosh_rows.specs.Disks.{active, is_active}

-- the number of the active disk
abbrev pub active_number : List DiskRow → Option ℕ
active_number disks = option_map (λ d. d.disk) (active disks)

-- where there was an active disk it is the active one
abbrev pub StaysActive : List DiskRow → List DiskRow → Type 0
StaysActive xs ys = (old : ℕ) → active_number xs ≡ Some old → active_number ys ≡ Some old

stays_mapped : (f : DiskRow → DiskRow) → ((d : DiskRow) → (f d).disk ≡ d.disk)
    → ((d : DiskRow) → is_active (f d) ≡ is_active d) → (xs : List DiskRow)
    → active_number (map f xs) ≡ active_number xs
stays_mapped f number role [] = refl
stays_mapped f number role (x ∷ xs) = by (is_active x) refl (stays_mapped f number role xs)
  where
    by : (b : Bool) → is_active x ≡ b → active_number (map f xs) ≡ active_number xs
        → active_number (f x ∷ map f xs) ≡ active_number (x ∷ xs)
    by true is rest = grind (arith, is, role x, number x)
    by false is rest = grind (arith, is, role x, rest)

mapped : (f : DiskRow → DiskRow) → ((d : DiskRow) → (f d).disk ≡ d.disk)
    → ((d : DiskRow) → is_active (f d) ≡ is_active d) → (xs : List DiskRow) → StaysActive xs (map f xs)
mapped f number role xs old is = stays_mapped f number role xs ∙ is

stays_more : (xs ys : List DiskRow) → StaysActive xs (xs ++ ys)
stays_more [] ys old is = absurd cc
stays_more (x ∷ xs) ys old is = by (is_active x) refl (stays_more xs ys old)
  where
    by : (b : Bool) → is_active x ≡ b → (active_number xs ≡ Some old → active_number (xs ++ ys) ≡ Some old)
        → active_number (x ∷ (xs ++ ys)) ≡ Some old
    by true here rest = grind (arith, here, is)
    by false here rest = grind (arith, here, is, rest)

-- one disk of several changes
changed : (d : ℕ) (change : DiskRow → DiskRow) → ((it : DiskRow) → (change it).disk ≡ it.disk)
    → ((it : DiskRow) → is_active (change it) ≡ is_active it) → (xs : List DiskRow)
    → StaysActive xs (changing d change xs)
changed d change number role xs =
    mapped (λ it. if it.disk == d then change it else it) (λ it. number_by it (it.disk == d))
    (λ it. role_by it (it.disk == d)) xs
  where
    number_by : (it : DiskRow) (b : Bool) → (if b then change it else it).disk ≡ it.disk
    number_by it true = number it
    number_by it false = refl

    role_by : (it : DiskRow) (b : Bool) → is_active (if b then change it else it) ≡ is_active it
    role_by it true = role it
    role_by it false = refl

same : (xs : List DiskRow) → StaysActive xs xs
same xs old is = is

gone_machine : (row : Row) → StaysActive row.disks (without_machine row).disks
gone_machine row = mapped let_go (λ d. refl) (λ d. refl) row.disks

machine : (agent : ℕ) (found : Option ℕ) (row : Row) → StaysActive row.disks (with_machine agent found row).disks
machine agent (Some v) row = same row.disks
machine agent None row = gone_machine row

disk : (tag : ℕ) (wanted : _) (found : Option ℕ) (row : Row) → StaysActive row.disks (with_disk tag wanted found row).disks
disk tag wanted (Some d) row = stays_more row.disks _
disk tag wanted None row = same row.disks

found_disk : (tag : ℕ) (found : Option ℕ) (doubt : Option Doubt) (row : Row)
    → StaysActive row.disks (with_found tag found doubt row).disks
found_disk tag found (Some d) row = by d.call
  where
    by : (call : Call) → StaysActive row.disks (with_found tag found (Some (record d { call = call })) row).disks
    by (calls.CreateDisk wanted v) = disk tag wanted found row
    by call = same row.disks
found_disk tag found None row = same row.disks

-- ---- an answer

-- the call moves contents
abbrev pub is_migration : Call → Bool
is_migration (calls.MigrateDisk v from to) = true
is_migration call = false

told : (n : ℕ) (call : Call) (answer : Answer) (row : Row) → is_migration call ≡ false
    → StaysActive row.disks (row_by_answer n call answer row).disks
told n (calls.CreateVm make disks) (answers.Cid v) row none = machine n (Some v) row
told n (calls.FindVm agent) (answers.Found found) row none = machine agent found row
told n (calls.DeleteVm v) answers.Done row none = gone_machine row
told n (calls.HasVm v) answers.No row none = gone_machine row
told n (calls.HasVm v) answers.Yes row none = same row.disks
told n (calls.CreateDisk wanted v) (answers.Cid d) row none = disk n wanted (Some d) row
told n (calls.FindDisk tag) (answers.Found found) row none = found_disk tag found row.doubt row
told n (calls.AttachDisk v d) answers.Done row none = changed d attach (λ it. refl) (λ it. refl) row.disks
told n (calls.DetachDisk v d) answers.Done row none = changed d let_go (λ it. refl) (λ it. refl) row.disks
told n (calls.GetDisks v) (answers.Disks numbers) row none =
    mapped (attached_by numbers) (λ it. refl) (λ it. refl) row.disks
told n (calls.MountDisk v d) answers.Done row none = changed d mount (λ it. refl) (λ it. refl) row.disks
told n (calls.UnmountDisk v d) answers.Done row none = changed d unmount (λ it. refl) (λ it. refl) row.disks
told n (calls.ListDisk v) (answers.Disks numbers) row none =
    mapped (mounted_by numbers) (λ it. refl) (λ it. refl) row.disks
told n (calls.MigrateDisk v from to) answers.Done row none = absurd (false≢true (sym none))
told n (calls.Apply v spec) answers.Done row none = same row.disks
told n (calls.Start v) answers.Done row none = same row.disks
told n (calls.Drain v) answers.Done row none = same row.disks
told n (calls.Stop v) answers.Done row none = same row.disks
told n (calls.GetState v) (answers.Facts spec running drained) row none = same row.disks
told n call answer row none = same row.disks

pub gone : (call : Call) (row : Row) → StaysActive row.disks (row_at_gone call row).disks
gone (calls.Ping v) row = same row.disks
gone (calls.DeleteVm v) row = by row.lost
  where
    by : (lost : Bool)
        → StaysActive row.disks (if lost then without_machine row else record row { doubt = None }).disks
    by true = gone_machine row
    by false = same row.disks
gone call row = same row.disks

pub answered : (n : ℕ) (call : Call) (answer : Answer) (row : Row) → is_migration call ≡ false
    → StaysActive row.disks (after n call answer row).disks
answered n call answers.Failed row none = same row.disks
answered n call answers.Gone row none = gone call row
answered n call answer row none = told n call answer row none
