-- What the tables say of the machine and of the disk that a call created.
use Rattle.std.proofs.Common.{◌≡◌, ℕ, Bool, true, false, Option, Some, None, List, refl, ◌∙◌, ap}
use Rattle.std.specs.Prelude.{◌==◌, ◌&&◌, length, if◌then◌else◌, find, is_some}
use Rattle.std.specs.Option.{option_and_then, option_map}
use Rattle.bosh_base.specs.CallStep.{found_disk, found_vm, has_number}
use Rattle.bosh_base.specs.Cloud.{disk_creation, disk_made, disk_of, is_disk_there, is_vm_there, machine_made, machine_of, make_of, numbers_to, vm_creation, want_of}
use Rattle.bosh_base.specs.declared.entry.Effect as effect
use Rattle.bosh_base.specs.declared.entry.Entry.{Entry}
use Rattle.bosh_base.specs.declared.machine.Disk.{Disk}
use Rattle.bosh_base.specs.declared.machine.Machine.{Machine}
use Rattle.bosh_registers.specs.Created.{is_created_by, least_created}
use Rattle.bosh_inventory.proofs.LookupLemmas.{at-disks, at-vms, disks_made, vms_made}
use Rattle.bosh_inventory.specs.Orderly.{IsOrderlyCloud}
use Rattle.bosh_inventory.specs.Rows.{AreTables}

-- a thing is one that a call created where it is there and its creation has the number of the call
created-is : {T W : Type 0} (call : T → ℕ) (n : ℕ) (wanted : effect.Effect → Option W) (made : effect.Effect → W → T) →
    ((e : effect.Effect) (want : W) → call (made e want) ≡ e.n) → (there : Bool) (creation : Option effect.Effect) →
    there ≡ is_some (if there then option_and_then (λ e. option_map (made e) (wanted e)) creation else None) →
    is_created_by call n (if there then option_and_then (λ e. option_map (made e) (wanted e)) creation else None)
    ≡ (there && has_number n creation)
created-is call n wanted made numbered false creation is = refl
created-is call n wanted made numbered true None is = absurd cc
created-is {T} {W} call n wanted made numbered true (Some e) is = each (wanted e) is
  where
    each : (want : Option W) → true ≡ is_some (option_map (made e) want) →
        is_created_by call n (option_map (made e) want) ≡ (true && has_number n (Some e))
    each None is = absurd cc
    each (Some want) is = ap (λ k. k == n) (numbered e want)

created-vm : (xs : List Entry) → IsOrderlyCloud xs → (n v : ℕ) →
    is_created_by (λ (it : Machine). it.agent) n (machine_of xs v) ≡ (is_vm_there xs v && has_number n (vm_creation xs v))
created-vm xs orderly n v =
    created-is (λ (it : Machine). it.agent) n (λ e. make_of e.call) (machine_made xs v) (λ e make. refl)
    (is_vm_there xs v) (vm_creation xs v) (orderly.vms v).made

created-disk : (xs : List Entry) → IsOrderlyCloud xs → (n d : ℕ) →
    is_created_by (λ (it : Disk). it.tag) n (disk_of xs d) ≡ (is_disk_there xs d && has_number n (disk_creation xs d))
created-disk xs orderly n d =
    created-is (λ (it : Disk). it.tag) n (λ e. want_of e.call) (disk_made xs d) (λ e want. refl)
    (is_disk_there xs d) (disk_creation xs d) (orderly.disks d).made

pub found_vm-is : (xs : List Entry) (vms : List (Option Machine)) (volumes : List (Option Disk))
    (holders : List (Option ℕ)) → AreTables xs vms volumes holders → (n : ℕ) →
    least_created (λ (it : Machine). it.agent) vms n ≡ found_vm xs n
found_vm-is xs vms volumes holders tables n =
    ap (λ (test : ℕ → Bool). find test (numbers_to (length vms)))
    (λ i v. (ap (is_created_by (λ (it : Machine). it.agent) n) (at-vms xs vms volumes holders tables v)
    ∙ created-vm xs tables.are_orderly n v) i)
    ∙ ap (λ last. find (λ v. is_vm_there xs v && has_number n (vm_creation xs v)) (numbers_to last))
    (vms_made xs vms volumes holders tables)

pub found_disk-is : (xs : List Entry) (vms : List (Option Machine)) (volumes : List (Option Disk))
    (holders : List (Option ℕ)) → AreTables xs vms volumes holders → (n : ℕ) →
    least_created (λ (it : Disk). it.tag) volumes n ≡ found_disk xs n
found_disk-is xs vms volumes holders tables n =
    ap (λ (test : ℕ → Bool). find test (numbers_to (length volumes)))
    (λ i d. (ap (is_created_by (λ (it : Disk). it.tag) n) (at-disks xs vms volumes holders tables d)
    ∙ created-disk xs tables.are_orderly n d) i)
    ∙ ap (λ last. find (λ d. is_disk_there xs d && has_number n (disk_creation xs d)) (numbers_to last))
    (disks_made xs vms volumes holders tables)
