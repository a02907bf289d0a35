-- What is left where a disk comes to another holder.
use Rattle.std.proofs.Common.{◌≡◌, ℕ, ◌≤◌, ◌<◌, true, false, Option, Some, None, List, refl, sym, ◌∙◌, ap, arith, subst, inl, inr}
use Rattle.std.specs.Prelude.{◌≢◌, ◌==◌, ◌&&◌, filter, is_some}
use Rattle.std.specs.Option.{option_map, option_and_then}
use Rattle.std.proofs.lemmas.Bool.{ne_eqb, cases_eq}
use Rattle.std.proofs.lemmas.List.Elements.{filter_agree}
use Rattle.bosh_agent.specs.Slots.{with_slot}
use Rattle.bosh_base.specs.Cloud.{when, by_call, vms_created, is_silent, spec_of, is_running, is_drained, disks_created, is_disk_there, attached, present, mounts, is_disk_mounted, contents_of, numbers_to, is_holder, attached_to, mounted_on, machine_made, machine_of}
use Rattle.bosh_base.specs.History.{chosen}
use Rattle.bosh_base.specs.declared.entry.Effect as effect
use Rattle.bosh_base.specs.declared.entry.Entry.{Entry}
use Rattle.bosh_base.specs.declared.machine.Disk.{Disk}
use Rattle.bosh_base.specs.declared.machine.Machine.{Machine}
use Rattle.bosh_base.specs.declared.make.Make.{Make}
use Rattle.bosh_base.proofs.HistoryLemmas.{latest_last}
use Rattle.bosh_inventory.proofs.ContentsLemmas.{slots-kept}
use Rattle.bosh_inventory.proofs.NumberLemmas.{filter_both}
use Rattle.bosh_inventory.proofs.OrderlyLemmas.{Untouches, IsOrderlyVm-kept, machine_made-kept, disk_some-kept}
use Rattle.bosh_inventory.proofs.PresenceLemmas.{KeepsVms, KeepsDisks, grown, is_held_by, vms_created-kept, is_vm_there-kept, machine_of-changed, machine_of-kept, disks_created-kept, last_holder-kept, holder_of-kept, is_holder-kept, attached_to-kept, is_disk_mounted-grown, is_disk_there-kept}
use Rattle.bosh_inventory.proofs.SlotLemmas.{slots-with_slot}
use Rattle.bosh_inventory.specs.Orderly.{IsOrderlyDisk, IsOrderlyCloud, last_holder}
use Rattle.bosh_inventory.specs.Rows.{slots, AreTables}
use Rattle.bosh_inventory.proofs.AgentLemmas.{IsMachine, IsMachine-found}
use Rattle.bosh_inventory.proofs.ActLemmas.{with_parts, sure, spec_then, running_then, drained_then, silent_then}
use Rattle.bosh_registers.specs.Changes.{holding}

-- an entry makes `holder` the last holder of disk d, which shows mounted on no machine before or after
pub record Moves (xs : List Entry) (x : Entry) (vm d : ℕ) (holder : Option ℕ) : Type 0 where
  pub vms : KeepsVms xs x
  pub disks : KeepsDisks xs x
  pub untouched : (v : ℕ) → Untouches x v
  pub same : (k : ℕ) → contents_of (grown xs x) k ≡ contents_of xs k
  pub there : is_disk_there xs d ≡ true
  pub holders : (k : ℕ) → by_call (attached k) x ≡ when (d == k) holder
  pub made : (v : ℕ) → holder ≡ Some v → v ≤ vms_created xs
  pub unmounted : (v : ℕ) → (is_holder xs v d && is_disk_mounted xs d) ≡ false
  pub hidden : (v : ℕ) → (is_held_by v (option_and_then (present xs) holder) && is_disk_mounted (grown xs x) d) ≡ false
  pub mounts : (k : ℕ) → k ≢ d → by_call (mounts k) x ≡ None
  pub others : (v : ℕ) → v ≢ vm → is_held_by v (option_and_then (present xs) holder) ≡ is_holder xs v d

pub last_holder-moved : (xs : List Entry) (x : Entry) (vm d : ℕ) (o : Option ℕ) → Moves xs x vm d o →
    last_holder (grown xs x) d ≡ o
last_holder-moved xs x vm d o moves =
    latest_last (by_call (attached d)) None xs x ∙ ap (λ a. chosen a (last_holder xs d)) (moves.holders d)
    ∙ sure d d refl o (last_holder xs d)

pub last_holder-apart : (xs : List Entry) (x : Entry) (vm d : ℕ) (o : Option ℕ) → Moves xs x vm d o → (k : ℕ) → k ≢ d →
    last_holder (grown xs x) k ≡ last_holder xs k
last_holder-apart xs x vm d o moves k apart =
    last_holder-kept xs x k (moves.holders k ∙ ap (λ it. when it o) (ne_eqb d k (λ same. apart (sym same))))

pub is_holder-moved : (xs : List Entry) (x : Entry) (vm d : ℕ) (o : Option ℕ) → Moves xs x vm d o → (v : ℕ) →
    is_holder (grown xs x) v d ≡ is_held_by v (option_and_then (present xs) o)
is_holder-moved xs x vm d o moves v =
    λ i. is_held_by v (option_and_then (λ u. when (is_vm_there-kept xs x moves.vms u i) u)
    (last_holder-moved xs x vm d o moves i))

pub is_holder-apart : (xs : List Entry) (x : Entry) (vm d : ℕ) (o : Option ℕ) → Moves xs x vm d o → (v k : ℕ) → k ≢ d →
    is_holder (grown xs x) v k ≡ is_holder xs v k
is_holder-apart xs x vm d o moves v k apart =
    is_holder-kept xs (grown xs x) v k (holder_of-kept xs (grown xs x) k (last_holder-apart xs x vm d o moves k apart)
    (is_vm_there-kept xs x moves.vms))

-- no disk is seen to be mounted or not mounted any more
shown-moved : (xs : List Entry) (x : Entry) (vm d : ℕ) (o : Option ℕ) → Moves xs x vm d o → (v k : ℕ) →
    (is_holder (grown xs x) v k && is_disk_mounted (grown xs x) k) ≡ (is_holder xs v k && is_disk_mounted xs k)
shown-moved xs x vm d o moves v k = elim (cases_eq k d) [
  | inl same ↦
      ap (λ j. is_holder (grown xs x) v j && is_disk_mounted (grown xs x) j) same
      ∙ ap (λ it. it && is_disk_mounted (grown xs x) d) (is_holder-moved xs x vm d o moves v)
      ∙ moves.hidden v
      ∙ sym (moves.unmounted v)
      ∙ ap (λ j. is_holder xs v j && is_disk_mounted xs j) (sym same)
  | inr apart ↦
      λ i. is_holder-apart xs x vm d o moves v k apart
      i && (is_disk_mounted-grown xs x k ∙ ap (λ a. chosen a (is_disk_mounted xs k)) (moves.mounts k apart)) i
]

mounted_on-moved : (xs : List Entry) (x : Entry) (vm d : ℕ) (o : Option ℕ) → Moves xs x vm d o → (v : ℕ) →
    mounted_on (grown xs x) v ≡ mounted_on xs v
mounted_on-moved xs x vm d o moves v =
    filter_both (is_holder (grown xs x) v) (is_disk_mounted (grown xs x)) (numbers_to (disks_created (grown xs x)))
    ∙ ap (λ n. filter (λ k. is_holder (grown xs x) v k && is_disk_mounted (grown xs x) k) (numbers_to n))
    (disks_created-kept xs x moves.disks.makes_none)
    ∙ filter_agree _ _ (shown-moved xs x vm d o moves v) (numbers_to (disks_created xs))
    ∙ sym (filter_both (is_holder xs v) (is_disk_mounted xs) (numbers_to (disks_created xs)))

attached_to-others : (xs : List Entry) (x : Entry) (vm d : ℕ) (o : Option ℕ) → Moves xs x vm d o → (v : ℕ) → v ≢ vm →
    attached_to (grown xs x) v ≡ attached_to xs v
attached_to-others xs x vm d o moves v apart =
    attached_to-kept xs (grown xs x) v (disks_created-kept xs x moves.disks.makes_none) each
  where
    each : (k : ℕ) → is_holder (grown xs x) v k ≡ is_holder xs v k
    each k = elim (cases_eq k d) [
      | inl same ↦ ap (is_holder (grown xs x) v) same ∙ is_holder-moved xs x vm d o moves v ∙ moves.others v apart
          ∙ ap (is_holder xs v) (sym same)
      | inr other ↦ is_holder-apart xs x vm d o moves v k other
    ]

orderly-moved : (xs : List Entry) (x : Entry) (vm d : ℕ) (o : Option ℕ) → Moves xs x vm d o → IsOrderlyCloud xs → (k : ℕ) →
    IsOrderlyDisk (grown xs x) k
orderly-moved xs x vm d o moves orderly k =
    let before : IsOrderlyDisk xs k = orderly.disks k in
    let count : disks_created (grown xs x) ≡ disks_created xs = disks_created-kept xs x moves.disks.makes_none in
    let there : is_disk_there (grown xs x) k ≡ is_disk_there xs k = is_disk_there-kept xs x moves.disks k in
    let past : disks_created (grown xs x) < k → disks_created xs < k = λ later. subst (λ (n : ℕ). n < k) count later in
    record {
      made = there ∙ before.made ∙ sym (disk_some-kept xs x moves.disks k);
      numbered = λ is. subst (λ (n : ℕ). (1 ≤ k) × (k ≤ n)) (sym count) (before.numbered (sym there ∙ is));
      held = λ is. elim (cases_eq k d) [
        | inl same ↦ there ∙ ap (is_disk_there xs) same ∙ moves.there
        | inr apart ↦ there
            ∙ before.held (ap is_some (sym (holder_of-kept xs (grown xs x) k
            (last_holder-apart xs x vm d o moves k apart) (is_vm_there-kept xs x moves.vms))) ∙ is)
      ];
      holder_made =
          λ v is. subst (λ (n : ℕ). v ≤ n) (sym (vms_created-kept xs x moves.vms.makes_none)) (elim (cases_eq k d) [
            | inl same ↦ moves.made v (sym (last_holder-moved xs x vm d o moves) ∙ ap (last_holder (grown xs x))
                (sym same) ∙ is)
            | inr apart ↦ before.holder_made v (sym (last_holder-apart xs x vm d o moves k apart) ∙ is)
          ]);
      not_held = λ later. elim (cases_eq k d) [
        | inl same ↦ absurd (omega (arith, past later, same, ((orderly.disks d).numbered moves.there).1))
        | inr apart ↦ last_holder-apart xs x vm d o moves k apart ∙ before.not_held (past later)
      ];
      empty = λ later. moves.same k ∙ before.empty (past later);
    }

pub AreTables-moved : (xs : List Entry) (x : Entry) (vm d : ℕ) (o : Option ℕ) (m : Machine) (list : List ℕ)
    (vms : List (Option Machine)) (volumes : List (Option Disk)) (holders : List (Option ℕ)) →
    machine_of xs vm ≡ Some m → Moves xs x vm d o → attached_to (grown xs x) vm ≡ list → AreTables xs vms volumes
    holders →
    AreTables (grown xs x) (with_slot vms vm (Some (holding list m))) volumes (with_slot holders d o)
AreTables-moved xs x vm d o m list vms volumes holders found moves lists tables =
    let orderly : IsOrderlyCloud xs = tables.are_orderly in
    let machine : IsMachine xs vm m = IsMachine-found xs vm m found in
    let numbered : (1 ≤ vm) × (vm ≤ vms_created xs) = (orderly.vms vm).numbered machine.there in
    let disk : (1 ≤ d) × (d ≤ disks_created xs) = (orderly.disks d).numbered moves.there in
    let made : (e : effect.Effect) (make : Make) → machine_made (grown xs x) vm e make ≡ holding list
    (machine_made xs vm e make) =
    λ e make i. with_parts vm e make
    ((spec_then xs x vm ∙ ap (λ a. chosen a (spec_of xs vm)) (moves.untouched vm).spec) i)
    ((running_then xs x vm ∙ ap (λ a. chosen a (is_running xs vm)) (moves.untouched vm).running) i)
    ((drained_then xs x vm ∙ ap (λ a. chosen a (is_drained xs vm)) (moves.untouched vm).drained) i)
    (lists i)
    (mounted_on-moved xs x vm d o moves vm i)
    ((silent_then xs x vm ∙ ap (λ a. chosen a (is_silent xs vm)) (moves.untouched vm).silent) i) in
    let changed : machine_of (grown xs x) vm ≡ Some (holding list m) =
    machine_of-changed xs x moves.vms vm (holding list) made ∙ ap (option_map (holding list)) found in
    let others : (v : ℕ) → v ≢ vm → machine_of (grown xs x) v ≡ machine_of xs v =
    λ v apart. machine_of-kept xs x moves.vms v
    (machine_made-kept xs x v (moves.untouched v) (attached_to-others xs x vm d o moves v apart)
    (mounted_on-moved xs x vm d o moves v)) in
    record {
      are_orderly = record {
        vms = λ v. IsOrderlyVm-kept xs x moves.vms v (λ past. moves.untouched v) (orderly.vms v);
        disks = orderly-moved xs x vm d o moves orderly;
      };
      all_vms =
          ap (λ t. with_slot t vm (Some (holding list m))) tables.all_vms
          ∙ ap (λ it. with_slot (slots (machine_of xs) (vms_created xs)) vm it) (sym changed)
          ∙ slots-with_slot (machine_of xs) (machine_of (grown xs x)) (vms_created xs) vm numbered.0 numbered.1 others
          ∙ ap (slots (machine_of (grown xs x))) (sym (vms_created-kept xs x moves.vms.makes_none));
      all_disks = tables.all_disks ∙ slots-kept xs x moves.disks moves.same;
      all_holders =
          ap (λ t. with_slot t d o) tables.all_holders
          ∙ ap (λ it. with_slot (slots (last_holder xs) (disks_created xs)) d it)
          (sym (last_holder-moved xs x vm d o moves))
          ∙ slots-with_slot (last_holder xs) (last_holder (grown xs x)) (disks_created xs) d disk.0 disk.1
          (last_holder-apart xs x vm d o moves)
          ∙ ap (slots (last_holder (grown xs x))) (sym (disks_created-kept xs x moves.disks.makes_none));
    }
