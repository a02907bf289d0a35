-- What the end of a machine leaves: the machine is gone, and its disks are on none.
use Rattle.std.proofs.Common.{◌≡◌, ℕ, ◌≤◌, ◌<◌, Bool, true, false, Option, Some, None, List, [], refl, sym, ◌∙◌, ap, subst, inl, inr}
use Rattle.std.specs.Prelude.{◌≢◌, ◌==◌, if◌then◌else◌, is_some}
use Rattle.std.specs.Option.{option_map, option_and_then}
use Rattle.std.proofs.lemmas.Bool.{ne_eqb, cases_eq}
use Rattle.bosh_agent.specs.Slots.{with_slot}
use Rattle.bosh_base.specs.Cloud.{when, by_call, vms_created, vm_creation, is_vm_there, disks_created, is_disk_there, attached, present, mounts, is_disk_mounted, contents_of, make_of, is_holder, attached_to, mounted_on, machine_made, machine_of, vm_created, vm_presence, is_vm_creation}
use Rattle.bosh_base.specs.History.{chosen}
use Rattle.bosh_base.specs.declared.entry.Entry.{Entry}
use Rattle.bosh_base.specs.declared.machine.Disk.{Disk}
use Rattle.bosh_base.specs.declared.machine.Machine.{Machine}
use Rattle.bosh_inventory.proofs.ContentsLemmas.{slots-kept}
use Rattle.bosh_inventory.proofs.OrderlyLemmas.{Untouches, machine_made-kept, IsUntouched-kept, disk_some-kept}
use Rattle.bosh_inventory.proofs.PresenceLemmas.{KeepsDisks, grown, is_held_by, vms_created-kept, disks_created-kept, last_holder-kept, attached_to-kept, mounted_on-kept, is_disk_mounted-grown, is_disk_there-kept}
use Rattle.bosh_inventory.proofs.SlotLemmas.{slots-with_slot, slots_same}
use Rattle.bosh_inventory.specs.Orderly.{IsOrderlyVm, IsOrderlyDisk, IsOrderlyCloud, last_holder}
use Rattle.bosh_inventory.specs.Rows.{slots, AreTables}
use Rattle.bosh_base.proofs.HistoryLemmas.{latest_seen_last}
use Rattle.bosh_inventory.proofs.ActLemmas.{sure}

-- an entry removes machine vm and does nothing else
pub record Removes (xs : List Entry) (x : Entry) (vm : ℕ) : Type 0 where
  pub makes_none : is_vm_creation x ≡ false
  pub created : (v : ℕ) → vm_created v xs x ≡ None
  pub stays : (v : ℕ) → vm_presence v xs x ≡ when (vm == v) false
  pub disks : KeepsDisks xs x
  pub holders : (d : ℕ) → by_call (attached d) x ≡ None
  pub mounts : (d : ℕ) → by_call (mounts d) x ≡ None
  pub untouched : (v : ℕ) → Untouches x v
  pub same : (d : ℕ) → contents_of (grown xs x) d ≡ contents_of xs d

-- another machine is there where it was, and this one is gone
there-removed : (xs : List Entry) (x : Entry) (vm : ℕ) → Removes xs x vm → (v : ℕ) →
    is_vm_there (grown xs x) v ≡ chosen (when (vm == v) false) (is_vm_there xs v)
there-removed xs x vm removes v =
    latest_seen_last (vm_presence v) false [] xs x ∙ ap (λ a. chosen a (is_vm_there xs v)) (removes.stays v)

gone-removed : (xs : List Entry) (x : Entry) (vm : ℕ) → Removes xs x vm → is_vm_there (grown xs x) vm ≡ false
gone-removed xs x vm removes = there-removed xs x vm removes vm ∙ sure vm vm refl false (is_vm_there xs vm)

there-apart : (xs : List Entry) (x : Entry) (vm : ℕ) → Removes xs x vm → (v : ℕ) → v ≢ vm →
    is_vm_there (grown xs x) v ≡ is_vm_there xs v
there-apart xs x vm removes v apart =
    there-removed xs x vm removes v
    ∙ ap (λ it. chosen (when it false) (is_vm_there xs v)) (ne_eqb vm v (λ same. apart (sym same)))

creation-removed : (xs : List Entry) (x : Entry) (vm : ℕ) → Removes xs x vm → (v : ℕ) →
    vm_creation (grown xs x) v ≡ vm_creation xs v
creation-removed xs x vm removes v =
    latest_seen_last (vm_created v) None [] xs x ∙ ap (λ a. chosen a (vm_creation xs v)) (removes.created v)

-- who has a disk, where it is another machine
held-removed : (xs : List Entry) (x : Entry) (vm : ℕ) → Removes xs x vm → (v : ℕ) → v ≢ vm → (o : Option ℕ) →
    is_held_by v (option_and_then (present (grown xs x)) o) ≡ is_held_by v (option_and_then (present xs) o)
held-removed xs x vm removes v apart None = refl
held-removed xs x vm removes v apart (Some u) = elim (cases_eq u vm) [
  | inl same ↦
      let none : (there : Bool) → is_held_by v (when there u) ≡ false =
      λ there. elim there as (λ t. is_held_by v (when t u) ≡ false)
      [ true ↦ ne_eqb u v (λ it. apart (sym it ∙ same)) | false ↦ refl ] in
      none (is_vm_there (grown xs x) u) ∙ sym (none (is_vm_there xs u))
  | inr other ↦ ap (λ there. is_held_by v (when there u)) (there-apart xs x vm removes u other)
]

holder-removed : (xs : List Entry) (x : Entry) (vm : ℕ) → Removes xs x vm → (v : ℕ) → v ≢ vm → (d : ℕ) →
    is_holder (grown xs x) v d ≡ is_holder xs v d
holder-removed xs x vm removes v apart d =
    ap (λ o. is_held_by v (option_and_then (present (grown xs x)) o)) (last_holder-kept xs x d (removes.holders d))
    ∙ held-removed xs x vm removes v apart (last_holder xs d)

-- a disk that some machine has now was had before
some-removed : (xs : List Entry) (x : Entry) (vm : ℕ) → Removes xs x vm → (o : Option ℕ) →
    is_some (option_and_then (present (grown xs x)) o) ≡ true → is_some (option_and_then (present xs) o) ≡ true
some-removed xs x vm removes None is = is
some-removed xs x vm removes (Some u) is = elim (cases_eq u vm) [
  | inl same ↦ absurd (never (ap (λ w. is_some (when (is_vm_there (grown xs x) w) w)) same ∙ ap
      (λ there. is_some (when there vm)) (gone-removed xs x vm removes)) is)
  | inr other ↦ ap (λ there. is_some (when there u)) (sym (there-apart xs x vm removes u other)) ∙ is
]
  where
    never : {b : Bool} → b ≡ false → b ≡ true → ⊥
    never gone there = cc

-- another machine is as it was
machine-removed : (xs : List Entry) (x : Entry) (vm : ℕ) → Removes xs x vm → (v : ℕ) → v ≢ vm →
    machine_of (grown xs x) v ≡ machine_of xs v
machine-removed xs x vm removes v apart =
    let lists : attached_to (grown xs x) v ≡ attached_to xs v =
    attached_to-kept xs (grown xs x) v (disks_created-kept xs x removes.disks.makes_none)
    (holder-removed xs x vm removes v apart) in
    let shows : mounted_on (grown xs x) v ≡ mounted_on xs v =
    mounted_on-kept xs (grown xs x) v lists (λ d. is_disk_mounted-grown xs x d ∙ ap
    (λ a. chosen a (is_disk_mounted xs d)) (removes.mounts d)) in
    λ i. if there-apart xs x vm removes v apart i
    then option_and_then (λ e. option_map (λ make. machine_made-kept xs x v (removes.untouched v) lists shows e make i)
    (make_of e.call)) (creation-removed xs x vm removes v i)
    else None

-- and this one is gone
machine-gone : (xs : List Entry) (x : Entry) (vm : ℕ) → Removes xs x vm → machine_of (grown xs x) vm ≡ None
machine-gone xs x vm removes =
    ap (λ there. if there then option_and_then (λ e. option_map (machine_made (grown xs x) vm e) (make_of e.call))
    (vm_creation (grown xs x) vm) else None) (gone-removed xs x vm removes)

orderly_vm-removed : (xs : List Entry) (x : Entry) (vm : ℕ) → Removes xs x vm → IsOrderlyCloud xs → (v : ℕ) →
    IsOrderlyVm (grown xs x) v
orderly_vm-removed xs x vm removes orderly v =
    let before : IsOrderlyVm xs v = orderly.vms v in
    let count : vms_created (grown xs x) ≡ vms_created xs = vms_created-kept xs x removes.makes_none in
    record {
      made = elim (cases_eq v vm) [
        | inl same ↦ ap (is_vm_there (grown xs x)) same ∙ gone-removed xs x vm removes
            ∙ ap is_some (sym (machine-gone xs x vm removes)) ∙ ap (λ u. is_some (machine_of (grown xs x) u)) (sym same)
        | inr apart ↦ there-apart xs x vm removes v apart ∙ before.made
            ∙ ap is_some (sym (machine-removed xs x vm removes v apart))
      ];
      numbered = λ is. elim (cases_eq v vm) [
        | inl same ↦
            let no : is_vm_there (grown xs x) v ≡ false =
            ap (is_vm_there (grown xs x)) same ∙ gone-removed xs x vm removes in
            absurd cc
        | inr apart ↦ subst (λ (n : ℕ). (1 ≤ v) × (v ≤ n)) (sym count)
            (before.numbered (sym (there-apart xs x vm removes v apart) ∙ is))
      ];
      ahead =
          λ later. IsUntouched-kept xs x v (removes.untouched v) (before.ahead (subst (λ (n : ℕ). n < v) count later));
    }

orderly_disk-removed : (xs : List Entry) (x : Entry) (vm : ℕ) → Removes xs x vm → IsOrderlyCloud xs → (d : ℕ) →
    IsOrderlyDisk (grown xs x) d
orderly_disk-removed xs x vm removes orderly d =
    let before : IsOrderlyDisk xs d = orderly.disks d in
    let count : disks_created (grown xs x) ≡ disks_created xs = disks_created-kept xs x removes.disks.makes_none in
    let there : is_disk_there (grown xs x) d ≡ is_disk_there xs d = is_disk_there-kept xs x removes.disks d in
    let last : last_holder (grown xs x) d ≡ last_holder xs d = last_holder-kept xs x d (removes.holders d) in
    let past : disks_created (grown xs x) < d → disks_created xs < d = λ later. subst (λ (n : ℕ). n < d) count later in
    record {
      made = there ∙ before.made ∙ sym (disk_some-kept xs x removes.disks d);
      numbered = λ is. subst (λ (n : ℕ). (1 ≤ d) × (d ≤ n)) (sym count) (before.numbered (sym there ∙ is));
      held =
          λ is. there
          ∙ before.held (some-removed xs x vm removes (last_holder xs d)
          (ap (λ o. is_some (option_and_then (present (grown xs x)) o)) (sym last) ∙ is));
      holder_made =
          λ v is. subst (λ (n : ℕ). v ≤ n) (sym (vms_created-kept xs x removes.makes_none))
          (before.holder_made v (sym last ∙ is));
      not_held = λ later. last ∙ before.not_held (past later);
      empty = λ later. removes.same d ∙ before.empty (past later);
    }

pub AreTables-removed : (xs : List Entry) (x : Entry) (vm : ℕ) (vms : List (Option Machine))
    (volumes : List (Option Disk)) (holders : List (Option ℕ)) →
    is_vm_there xs vm ≡ true → Removes xs x vm → AreTables xs vms volumes holders → AreTables (grown xs x)
    (with_slot vms vm None) volumes holders
AreTables-removed xs x vm vms volumes holders there removes tables =
    let orderly : IsOrderlyCloud xs = tables.are_orderly in
    let numbered : (1 ≤ vm) × (vm ≤ vms_created xs) = (orderly.vms vm).numbered there in
    record {
      are_orderly =
          record {
            vms = orderly_vm-removed xs x vm removes orderly;
            disks = orderly_disk-removed xs x vm removes
                orderly;
          };
      all_vms =
          ap (λ t. with_slot t vm None) tables.all_vms
          ∙ ap (λ it. with_slot (slots (machine_of xs) (vms_created xs)) vm it) (sym (machine-gone xs x vm removes))
          ∙ slots-with_slot (machine_of xs) (machine_of (grown xs x)) (vms_created xs) vm numbered.0 numbered.1
          (machine-removed xs x vm removes)
          ∙ ap (slots (machine_of (grown xs x))) (sym (vms_created-kept xs x removes.makes_none));
      all_disks = tables.all_disks ∙ slots-kept xs x removes.disks removes.same;
      all_holders =
          tables.all_holders
          ∙ sym (slots_same (last_holder xs) (last_holder (grown xs x)) (disks_created xs)
          (λ d below. last_holder-kept xs x d (removes.holders d)))
          ∙ ap (slots (last_holder (grown xs x))) (sym (disks_created-kept xs x removes.disks.makes_none));
    }
