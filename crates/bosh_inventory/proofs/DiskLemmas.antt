-- What the creation of a disk leaves.
use Rattle.std.proofs.Common.{◌≡◌, ℕ, ◌+◌, ◌≤◌, ◌<◌, true, false, Option, Some, None, List, [], ◌∷◌, ◌++◌, refl, sym, ◌∙◌, ap, arith, subst, inl, inr, add-one, append-nil}
use Prim.Native.Nat.{suc}
use Rattle.std.specs.Prelude.{◌≢◌, if◌then◌else◌, filter, is_some}
use Rattle.std.specs.Option.{option_map, option_and_then}
use Rattle.std.proofs.lemmas.Bool.{ne_eqb, cases_eq}
use Rattle.std.proofs.lemmas.List.Elements.{filter_agree, filter-append}
use Rattle.bosh_base.specs.Cloud.{when, by_call, vms_created, disks_created, is_disk_there, attached, present, holder_of, mounts, is_disk_mounted, contents_of, numbers_to, is_holder, attached_to, machine_of, disk_of, disk_created, disk_presence, disk_creation, disk_made, want_of}
use Rattle.bosh_base.specs.History.{chosen}
use Rattle.bosh_base.specs.declared.call.Call.{Call}
use Rattle.bosh_base.specs.declared.entry.Effect as effect
use Rattle.bosh_base.specs.declared.entry.Entry.{Entry}
use Rattle.bosh_base.specs.declared.entry.Entry.TheVariants.{Effect}
use Rattle.bosh_base.specs.declared.machine.Disk.{Disk}
use Rattle.bosh_base.specs.declared.machine.Machine.{Machine}
use Rattle.bosh_inventory.proofs.OrderlyLemmas.{Untouches, IsOrderlyVm-kept, machine_made-kept}
use Rattle.bosh_inventory.proofs.PresenceLemmas.{KeepsVms, grown, is_held_by, vms_created-kept, is_vm_there-kept, machine_of-kept, contents_of-grown, last_holder-kept, holder_of-kept, is_holder-kept, mounted_on-kept, is_disk_mounted-grown}
use Rattle.bosh_inventory.proofs.SlotLemmas.{slots_same, slots_more}
use Rattle.bosh_inventory.specs.Orderly.{IsOrderlyVm, IsOrderlyDisk, IsOrderlyCloud, last_holder}
use Rattle.bosh_inventory.specs.Rows.{slots, AreTables}
use Rattle.bosh_base.specs.declared.call.Call.TheVariants.{CreateDisk}
use Rattle.bosh_base.specs.declared.disk_want.DiskWant.{DiskWant}
use Rattle.bosh_base.proofs.HistoryLemmas.{latest_seen_last}
use Rattle.std.proofs.lemmas.List.Sums.{sum_by-append}
use Rattle.bosh_inventory.proofs.ActLemmas.{sure}
use Rattle.bosh_inventory.specs.Made.{new_disk}

-- an entry does nothing to machines, and leaves holders, mounts and contents
pub record LeavesVms (xs : List Entry) (x : Entry) : Type 0 where
  pub vms : KeepsVms xs x
  pub untouched : (v : ℕ) → Untouches x v
  pub holders : (d : ℕ) → by_call (attached d) x ≡ None
  pub mounts : (d : ℕ) → by_call (mounts d) x ≡ None
  pub same : (d : ℕ) → contents_of (grown xs x) d ≡ contents_of xs d
  pub lists : (v : ℕ) → attached_to (grown xs x) v ≡ attached_to xs v

pub machine-left : (xs : List Entry) (x : Entry) → LeavesVms xs x → (v : ℕ) →
    machine_of (grown xs x) v ≡ machine_of xs v
machine-left xs x leaves v =
    machine_of-kept xs x leaves.vms v (machine_made-kept xs x v (leaves.untouched v) (leaves.lists v)
    (mounted_on-kept xs (grown xs x) v (leaves.lists v)
    (λ d. is_disk_mounted-grown xs x d ∙ ap (λ a. chosen a (is_disk_mounted xs d)) (leaves.mounts d))))

pub holder-left : (xs : List Entry) (x : Entry) → KeepsVms xs x → (d : ℕ) → by_call (attached d) x ≡ None →
    holder_of (grown xs x) d ≡ holder_of xs d
holder-left xs x keeps d none =
    holder_of-kept xs (grown xs x) d (last_holder-kept xs x d none) (is_vm_there-kept xs x keeps)

pub vms-left : (xs : List Entry) (x : Entry) → LeavesVms xs x →
    slots (machine_of xs) (vms_created xs) ≡ slots (machine_of (grown xs x)) (vms_created (grown xs x))
vms-left xs x leaves =
    sym (slots_same (machine_of xs) (machine_of (grown xs x)) (vms_created xs) (λ v below. machine-left xs x leaves v))
    ∙ ap (slots (machine_of (grown xs x))) (sym (vms_created-kept xs x leaves.vms.makes_none))

pub orderly_vms-left : (xs : List Entry) (x : Entry) → LeavesVms xs x → IsOrderlyCloud xs → (v : ℕ) →
    IsOrderlyVm (grown xs x) v
orderly_vms-left xs x leaves orderly v = IsOrderlyVm-kept xs x leaves.vms v (λ past. leaves.untouched v) (orderly.vms v)

-- ---- a creation

abbrev made : effect.Effect → DiskWant → ℕ → effect.Effect
made by want vm = record by { call = CreateDisk want vm }

abbrev next_disk : List Entry → ℕ
next_disk xs = disks_created xs + 1

module _ (xs : List Entry) (orderly : IsOrderlyCloud xs) (by : effect.Effect) (want : DiskWant) (vm : ℕ) where
  abbrev x : Entry
  x = Effect (made by want vm)

  count-made : disks_created (grown xs x) ≡ disks_created xs + 1
  count-made = grind (arith, sum_by-append)

  vms-made : KeepsVms xs x
  vms-made = record { makes_none = refl; created = λ v. refl; stays = λ v. refl }

  -- the new disk is on no machine
  not_held : (v : ℕ) → is_holder xs v (next_disk xs) ≡ false
  not_held v =
      ap (λ o. is_held_by v (option_and_then (present xs) o)) ((orderly.disks (next_disk xs)).not_held (omega arith))

  lists-made : (v : ℕ) → attached_to (grown xs x) v ≡ attached_to xs v
  lists-made v =
      ap (λ n. filter (is_holder (grown xs x) v) (numbers_to n)) (count-made ∙ add-one (disks_created xs))
      ∙ filter_agree (is_holder (grown xs x) v) (is_holder xs v)
      (λ d. is_holder-kept xs (grown xs x) v d (holder-left xs x vms-made d refl))
      (numbers_to (suc (disks_created xs)))
      ∙ filter-append (is_holder xs v) (numbers_to (disks_created xs)) (suc (disks_created xs) ∷ [])
      ∙ ap (λ it. filter (is_holder xs v) (numbers_to (disks_created xs)) ++ (if it then suc
      (disks_created xs) ∷ [] else [])) (ap (is_holder xs v) (sym (add-one (disks_created xs))) ∙ not_held v)
      ∙ append-nil (attached_to xs v)

  leaves-made : LeavesVms xs x
  leaves-made = record {
    vms = vms-made;
    untouched = λ v. record { spec = refl; running = refl; drained = refl; silent = refl };
    holders = λ d. refl;
    mounts = λ d. refl;
    same = λ d. ap (λ f. f d) (contents_of-grown xs x);
    lists = lists-made;
  }

  there-made : (d : ℕ) → d ≢ next_disk xs → is_disk_there (grown xs x) d ≡ is_disk_there xs d
  there-made d apart =
      latest_seen_last (disk_presence d) false [] xs x
      ∙ ap (λ is. chosen (when is true) (is_disk_there xs d)) (ne_eqb (next_disk xs) d (λ is. apart (sym is)))

  created-made : (d : ℕ) → d ≢ next_disk xs → disk_creation (grown xs x) d ≡ disk_creation xs d
  created-made d apart =
      latest_seen_last (disk_created d) None [] xs x
      ∙ ap (λ is. chosen (when is (Some (made by want vm))) (disk_creation xs d))
      (ne_eqb (next_disk xs) d (λ is. apart (sym is)))

  disk_made-same : (d : ℕ) (e : effect.Effect) (w : DiskWant) → disk_made (grown xs x) d e w ≡ disk_made xs d e w
  disk_made-same d e w = λ i. record { disk = d; tag = e.n; owner = e.owner; want = w; contents = leaves-made.same d i }

  disk-apart : (d : ℕ) → d ≢ next_disk xs → disk_of (grown xs x) d ≡ disk_of xs d
  disk-apart d apart = λ i.
      if there-made d apart i then option_and_then (λ e. option_map (λ w. disk_made-same d e w i) (want_of e.call))
      (created-made d apart i) else None

  new-there : is_disk_there (grown xs x) (next_disk xs) ≡ true
  new-there =
      latest_seen_last (disk_presence (next_disk xs)) false [] xs x
      ∙ sure (next_disk xs) (next_disk xs) refl true (is_disk_there xs (next_disk xs))

  disk-new : disk_of (grown xs x) (next_disk xs) ≡ Some (new_disk (next_disk xs) by want)
  disk-new =
      let created : disk_creation (grown xs x) (next_disk xs) ≡ Some (made by want vm) =
      latest_seen_last (disk_created (next_disk xs)) None [] xs x
      ∙ sure (next_disk xs) (next_disk xs) refl (Some (made by want vm)) (disk_creation xs (next_disk xs)) in
      let empty : contents_of (grown xs x) (next_disk xs) ≡ [] =
      leaves-made.same (next_disk xs) ∙ (orderly.disks (next_disk xs)).empty (omega arith) in
      (λ i. if new-there i then option_and_then (λ e. option_map (disk_made (grown xs x) (next_disk xs) e)
      (want_of e.call)) (created i) else None)
      ∙ (λ i. Some (record { disk = next_disk xs; tag = by.n; owner = by.owner; want = want; contents = empty i }))

  orderly_disk-made : (d : ℕ) → IsOrderlyDisk (grown xs x) d
  orderly_disk-made d =
      let before : IsOrderlyDisk xs d = orderly.disks d in
      let last : last_holder (grown xs x) d ≡ last_holder xs d = last_holder-kept xs x d refl in
      let past : disks_created (grown xs x) < d → disks_created xs < d = λ later. omega (arith, later, count-made) in
      record {
        made = elim (cases_eq d (next_disk xs)) [
          | inl same ↦ ap (is_disk_there (grown xs x)) same ∙ new-there ∙ ap is_some (sym disk-new)
              ∙ ap (λ k. is_some (disk_of (grown xs x) k)) (sym same)
          | inr apart ↦ there-made d apart ∙ before.made ∙ ap is_some (sym (disk-apart d apart))
        ];
        numbered = λ is. subst (λ (n : ℕ). (1 ≤ d) × (d ≤ n)) (sym count-made) (elim (cases_eq d (next_disk xs)) [
          | inl same ↦ (omega (arith, same), omega (arith, same))
          | inr apart ↦
              let was : (1 ≤ d) × (d ≤ disks_created xs) = before.numbered (sym (there-made d apart) ∙ is) in
              (was.0, omega (arith, was.1))
        ]);
        held = λ is. elim (cases_eq d (next_disk xs)) [
          | inl same ↦ ap (is_disk_there (grown xs x)) same ∙ new-there
          | inr apart ↦ there-made d apart ∙ before.held (ap is_some (sym (holder-left xs x vms-made d refl)) ∙ is)
        ];
        holder_made =
            λ v is. subst (λ (n : ℕ). v ≤ n) (sym (vms_created-kept xs x refl)) (before.holder_made v (sym last ∙ is));
        not_held = λ later. last ∙ before.not_held (past later);
        empty = λ later. leaves-made.same d ∙ before.empty (past later);
      }

  AreTables-made : (vms : List (Option Machine)) (volumes : List (Option Disk)) (holders : List (Option ℕ)) →
      AreTables xs vms volumes holders →
      AreTables (grown xs x) vms (volumes ++ Some (new_disk (next_disk xs) by want) ∷ []) (holders ++ None ∷ [])
  AreTables-made vms volumes holders tables = record {
    are_orderly = record { vms = orderly_vms-left xs x leaves-made orderly; disks = orderly_disk-made };
    all_vms = tables.all_vms ∙ vms-left xs x leaves-made;
    all_disks =
        (λ i. tables.all_disks i ++ sym disk-new i ∷ [])
        ∙ sym (slots_more (disk_of xs) (disk_of (grown xs x)) (disks_created xs)
        (λ d below. disk-apart d (λ same. omega (arith, below, same))))
        ∙ ap (slots (disk_of (grown xs x))) (sym count-made);
    all_holders =
        (λ i. tables.all_holders i ++ sym (last_holder-kept xs x (next_disk xs)
        refl ∙ (orderly.disks (next_disk xs)).not_held (omega arith)) i ∷ [])
        ∙ sym (slots_more (last_holder xs) (last_holder (grown xs x)) (disks_created xs)
        (λ d below. last_holder-kept xs x d refl))
        ∙ ap (slots (last_holder (grown xs x))) (sym count-made);
  }

made_is : (call : Call) (want : DiskWant) → want_of call ≡ Some want → (vm : ℕ) × (call ≡ CreateDisk want vm)
made_is (CreateDisk w vm) want is = (vm, cc)
made_is call want is = absurd cc

pub AreTables-disk : (xs : List Entry) (e : effect.Effect) (want : DiskWant) (vms : List (Option Machine))
    (volumes : List (Option Disk)) (holders : List (Option ℕ)) →
    want_of e.call ≡ Some want → AreTables xs vms volumes holders → AreTables (xs ++ Effect e ∷ []) vms
    (volumes ++ Some (new_disk (disks_created xs + 1) e want) ∷ []) (holders ++ None ∷ [])
AreTables-disk xs e want vms volumes holders is tables =
    let P : Entry → Type 0 =
    λ entry. AreTables (xs ++ entry ∷ []) vms (volumes ++ Some (new_disk (disks_created xs + 1) e want) ∷ [])
    (holders ++ None ∷ []) in
    subst P (ap (λ call. Effect (record e { call = call })) (sym (made_is e.call want is).1))
    (AreTables-made xs tables.are_orderly e want (made_is e.call want is).0 vms volumes holders tables)
