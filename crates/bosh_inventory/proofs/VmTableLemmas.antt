-- The tables after the creation of a machine.
use Rattle.std.proofs.Common.{◌≡◌, ℕ, ◌+◌, ◌≤◌, ◌<◌, Option, Some, List, [], ◌∷◌, ◌++◌, refl, sym, ◌∙◌, ap, arith, subst, inl, inr}
use Rattle.std.specs.Prelude.{is_some}
use Rattle.std.proofs.lemmas.Bool.{cases_eq}
use Rattle.bosh_base.specs.Cloud.{vms_created, is_vm_there, disks_created, is_disk_there, make_of, machine_of}
use Rattle.bosh_base.specs.declared.call.Call.{Call}
use Rattle.bosh_base.specs.declared.entry.Effect as effect
use Rattle.bosh_base.specs.declared.entry.Entry.{Entry}
use Rattle.bosh_base.specs.declared.entry.Entry.TheVariants.{Effect}
use Rattle.bosh_base.specs.declared.machine.Disk.{Disk}
use Rattle.bosh_base.specs.declared.machine.Machine.{Machine}
use Rattle.bosh_base.specs.declared.make.Make.{Make}
use Rattle.bosh_inventory.proofs.ContentsLemmas.{slots-kept}
use Rattle.bosh_inventory.proofs.OrderlyLemmas.{IsUntouched-kept, disk_some-kept}
use Rattle.bosh_inventory.proofs.PresenceLemmas.{grown, disks_created-kept, last_holder-kept, is_disk_there-kept}
use Rattle.bosh_inventory.proofs.SlotLemmas.{slots_same, slots_more}
use Rattle.bosh_inventory.specs.Orderly.{IsOrderlyVm, IsOrderlyDisk, IsOrderlyCloud, last_holder}
use Rattle.bosh_inventory.specs.Rows.{slots, AreTables}
use Rattle.bosh_base.specs.declared.call.Call.TheVariants.{CreateVm}
use Rattle.bosh_inventory.specs.Made.{new_machine}
use Rattle.bosh_inventory.proofs.VmCreationLemmas.{Creation, made_by, next_vm, count-made, disks-made, untouched-made, same-made, there-made, holder-made, machine-apart, new-there, machine-new}

-- ---- the order

orderly_vm-made : (xs : List Entry) → IsOrderlyCloud xs → (c : Creation) (v : ℕ) → IsOrderlyVm (grown xs (made_by c)) v
orderly_vm-made xs orderly c v =
    let before : IsOrderlyVm xs v = orderly.vms v in
    let more : vms_created (grown xs (made_by c)) ≡ vms_created xs + 1 = count-made xs c in
    record {
      made = elim (cases_eq v (next_vm xs)) [
        | inl same ↦ ap (is_vm_there (grown xs (made_by c))) same ∙ new-there xs c
            ∙ ap is_some (sym (machine-new xs orderly c))
            ∙ ap (λ u. is_some (machine_of (grown xs (made_by c)) u)) (sym same)
        | inr apart ↦ there-made xs c v apart ∙ before.made ∙ ap is_some (sym (machine-apart xs orderly c v apart))
      ];
      numbered = λ is. subst (λ (n : ℕ). (1 ≤ v) × (v ≤ n)) (sym more) (elim (cases_eq v (next_vm xs)) [
        | inl same ↦ (omega (arith, same), omega (arith, same))
        | inr apart ↦
            let was : (1 ≤ v) × (v ≤ vms_created xs) = before.numbered (sym (there-made xs c v apart) ∙ is) in
            (was.0, omega (arith, was.1))
      ]);
      ahead = λ later.
          let past : vms_created xs + 1 < v = subst (λ (n : ℕ). n < v) more later in
          IsUntouched-kept xs (made_by c) v (untouched-made c v) (before.ahead (omega (arith, past)));
    }

orderly_disk-made : (xs : List Entry) → IsOrderlyCloud xs → (c : Creation) (d : ℕ) → IsOrderlyDisk (grown xs (made_by c)) d
orderly_disk-made xs orderly c d =
    let before : IsOrderlyDisk xs d = orderly.disks d in
    let count : disks_created (grown xs (made_by c)) ≡ disks_created xs = disks_created-kept xs (made_by c) refl in
    let there : is_disk_there (grown xs (made_by c)) d ≡ is_disk_there xs d =
    is_disk_there-kept xs (made_by c) (disks-made xs c) d in
    let last : last_holder (grown xs (made_by c)) d ≡ last_holder xs d = last_holder-kept xs (made_by c) d refl in
    let past : disks_created (grown xs (made_by c)) < d → disks_created xs < d =
    λ later. subst (λ (n : ℕ). n < d) count later in
    record {
      made = there ∙ before.made ∙ sym (disk_some-kept xs (made_by c) (disks-made xs c) d);
      numbered = λ is. subst (λ (n : ℕ). (1 ≤ d) × (d ≤ n)) (sym count) (before.numbered (sym there ∙ is));
      held = λ is. there ∙ before.held (ap is_some (sym (holder-made xs orderly c d)) ∙ is);
      holder_made =
          λ v is. subst (λ (n : ℕ). v ≤ n) (sym (count-made xs c))
          (omega (arith, before.holder_made v (sym last ∙ is)));
      not_held = λ later. last ∙ before.not_held (past later);
      empty = λ later. same-made xs c d ∙ before.empty (past later);
    }

-- ---- the tables

made_is : (call : Call) (make : Make) → make_of call ≡ Some make → (hint : List ℕ) × (call ≡ CreateVm make hint)
made_is (CreateVm m hint) make is = (hint, cc)
made_is call make is = absurd cc

pub AreTables-created : (xs : List Entry) (e : effect.Effect) (make : Make) (vms : List (Option Machine))
    (volumes : List (Option Disk)) (holders : List (Option ℕ)) →
    make_of e.call ≡ Some make → AreTables xs vms volumes holders → AreTables (xs ++ Effect e ∷ [])
    (vms ++ Some (new_machine (vms_created xs + 1) e make) ∷ []) volumes holders
AreTables-created xs e make vms volumes holders is tables =
    let orderly : IsOrderlyCloud xs = tables.are_orderly in
    let c : Creation = record { by = e; make = make; hint = (made_is e.call make is).0 } in
    let P : Entry → Type 0 =
    λ entry. AreTables (xs ++ entry ∷ []) (vms ++ Some (new_machine (vms_created xs + 1) e make) ∷ []) volumes
    holders in
    subst P (ap (λ call. Effect (record e { call = call })) (sym (made_is e.call make is).1)) (record {
      are_orderly = record { vms = orderly_vm-made xs orderly c; disks = orderly_disk-made xs orderly c };
      all_vms =
          (λ i. tables.all_vms i ++ sym (machine-new xs orderly c) i ∷ [])
          ∙ sym (slots_more (machine_of xs) (machine_of (grown xs (made_by c))) (vms_created xs)
          (λ v below. machine-apart xs orderly c v (λ same. omega (arith, below, same))))
          ∙ ap (slots (machine_of (grown xs (made_by c)))) (sym (count-made xs c));
      all_disks = tables.all_disks ∙ slots-kept xs (made_by c) (disks-made xs c) (same-made xs c);
      all_holders =
          tables.all_holders
          ∙ sym (slots_same (last_holder xs) (last_holder (grown xs (made_by c))) (disks_created xs)
          (λ d below. last_holder-kept xs (made_by c) d refl))
          ∙ ap (slots (last_holder (grown xs (made_by c)))) (sym (disks_created-kept xs (made_by c) refl));
    })

-- what the next machine's number is
pub vms_created-created : (xs : List Entry) (e : effect.Effect) (make : Make) → make_of e.call ≡ Some make →
    vms_created (xs ++ Effect e ∷ []) ≡ vms_created xs + 1
vms_created-created xs e make is =
    let c : Creation = record { by = e; make = make; hint = (made_is e.call make is).0 } in
    ap (λ call. vms_created (xs ++ Effect (record e { call = call }) ∷ [])) (made_is e.call make is).1 ∙ count-made xs c
