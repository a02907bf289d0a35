-- The disks that a row has once its call in doubt is done: its own, and the one that the call made.
use Rattle.std.proofs.Common.{◌≡◌, ℕ, Bool, true, false, Option, Some, None, List, [], ◌∷◌, refl, ◌∙◌}
use Rattle.std.specs.Prelude.{◌&&◌, ◌==◌, if◌then◌else◌, map}
use Rattle.std.specs.List.{list_all}
use Rattle.bosh_base.specs.CallStep.{found_disk, found_vm}
use Rattle.bosh_base.specs.declared.call.Call.{Call}
use Rattle.bosh_base.specs.declared.call.Call.TheVariants as calls
use Rattle.bosh_base.specs.declared.disk_want.DiskWant.{DiskWant}
use Rattle.bosh_base.specs.declared.entry.Entry.{Entry}
use Rattle.bosh_base.specs.declared.row.DiskRow.{DiskRow}
use Rattle.bosh_base.specs.declared.row.Doubt.{Doubt}
use Rattle.bosh_base.specs.declared.row.Role.{Role}
use Rattle.bosh_base.specs.declared.row.Role.TheVariants.{Active, Old}
use Rattle.bosh_base.specs.declared.row.Row.{Row}
use Rattle.laws_rows.proofs.MakeTieLemmas.{all_more}
use Rattle.bosh_rows.specs.After.{attach, changing, let_go, mount, unmount, with_disk, with_machine}
use Rattle.bosh_rows.specs.Tied.{as_done}

-- the number of each meets the test
abbrev pub AllMine : (ℕ → Bool) → List DiskRow → Type 0
AllMine mine ds = list_all (λ d. mine d.disk) ds ≡ true

mapped : (mine : ℕ → Bool) (f : DiskRow → DiskRow) → ((d : DiskRow) → (f d).disk ≡ d.disk) → (ds : List DiskRow) →
    list_all (λ d. mine d.disk) (map f ds) ≡ list_all (λ d. mine d.disk) ds
mapped mine f number [] = refl
mapped mine f number (d ∷ ds) = λ i. mine (number d i) && mapped mine f number ds i

changed : (mine : ℕ → Bool) (x : ℕ) (f : DiskRow → DiskRow) → ((d : DiskRow) → (f d).disk ≡ d.disk) →
    (ds : List DiskRow) → AllMine mine ds → AllMine mine (changing x f ds)
changed mine x f number ds all =
    mapped mine (λ d. if d.disk == x then f d else d) (λ d. by_test d (d.disk == x)) ds ∙ all
  where
    by_test : (d : DiskRow) (b : Bool) → (if b then f d else d).disk ≡ d.disk
    by_test d true = number d
    by_test d false = refl

abbrev with_role : Role → DiskRow → DiskRow
with_role role d = record d { role = role }

pub done_mine : (xs : List Entry) (mine : ℕ → Bool) (row : Row) → AllMine mine row.disks →
    ((d : Doubt) (k : ℕ) → row.doubt ≡ Some d → found_disk xs d.n ≡ Some k → mine k ≡ true) →
    AllMine mine (as_done xs row).disks
done_mine xs mine row all found = by_doubt row.doubt refl
  where
    by_vm : (n : ℕ) (o : Option ℕ) (r : Row) → AllMine mine r.disks → AllMine mine (with_machine n o r).disks
    by_vm n (Some v) r all = all
    by_vm n None r all = mapped mine let_go (λ d. refl) r.disks ∙ all

    by_disk : (n : ℕ) (wanted : DiskWant) (o : Option ℕ) (r : Row) → AllMine mine r.disks →
        ((k : ℕ) → o ≡ Some k → mine k ≡ true) → AllMine mine (with_disk n wanted o r).disks
    by_disk n wanted (Some k) r all found = all_more (λ d. mine d.disk) r.disks _ all (found k refl)
    by_disk n wanted None r all found = all

    by_call : (n : ℕ) (c : Call) → row.doubt ≡ Some (record { n = n; call = c }) →
        AllMine mine (as_done xs (record row { doubt = Some (record { n = n; call = c }) })).disks
    by_call n (calls.CreateVm make hint) is =
        by_vm n (found_vm xs n) (record row { doubt = Some (record { n = n; call = calls.CreateVm make hint }) }) all
    by_call n (calls.DeleteVm v) is = mapped mine let_go (λ d. refl) row.disks ∙ all
    by_call n (calls.CreateDisk wanted v) is =
        by_disk n wanted (found_disk xs n)
        (record row { doubt = Some (record { n = n; call = calls.CreateDisk wanted v }) }) all
        (λ k has. found (record { n = n; call = calls.CreateDisk wanted v }) k is has)
    by_call n (calls.AttachDisk v x) is = changed mine x attach (λ d. refl) row.disks all
    by_call n (calls.DetachDisk v x) is = changed mine x let_go (λ d. refl) row.disks all
    by_call n (calls.MountDisk v x) is = changed mine x mount (λ d. refl) row.disks all
    by_call n (calls.UnmountDisk v x) is = changed mine x unmount (λ d. refl) row.disks all
    by_call n (calls.MigrateDisk v from to) is =
        changed mine to (with_role Active) (λ d. refl) (changing from (with_role Old) row.disks)
        (changed mine from (with_role Old) (λ d. refl) row.disks all)
    by_call n c is = all

    by_doubt : (d : Option Doubt) → row.doubt ≡ d → AllMine mine (as_done xs (record row { doubt = d })).disks
    by_doubt (Some d) is = by_call d.n d.call is
    by_doubt None is = all
