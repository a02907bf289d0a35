-- What the deletion of a disk leaves.
use Rattle.std.proofs.Common.{◌≡◌, ℕ, ◌≤◌, ◌<◌, true, false, Option, None, List, [], ◌∷◌, ◌++◌, refl, sym, ◌∙◌, ap, subst, inl, inr}
use Rattle.std.specs.Prelude.{◌≢◌, if◌then◌else◌, is_some}
use Rattle.std.specs.Option.{option_map, option_and_then}
use Rattle.std.proofs.lemmas.Bool.{ne_eqb, cases_eq}
use Rattle.bosh_agent.specs.Slots.{with_slot}
use Rattle.bosh_base.specs.Cloud.{when, disks_created, is_disk_there, holder_of, disk_of, disk_created, disk_presence, disk_creation, disk_made, want_of}
use Rattle.bosh_base.specs.History.{chosen}
use Rattle.bosh_base.specs.declared.entry.Effect as effect
use Rattle.bosh_base.specs.declared.entry.Entry.{Entry}
use Rattle.bosh_base.specs.declared.entry.Entry.TheVariants.{Effect}
use Rattle.bosh_base.specs.declared.machine.Disk.{Disk}
use Rattle.bosh_base.specs.declared.machine.Machine.{Machine}
use Rattle.bosh_inventory.proofs.PresenceLemmas.{KeepsVms, grown, vms_created-kept, disks_created-kept, contents_of-grown, last_holder-kept, is_holder-kept, attached_to-kept}
use Rattle.bosh_inventory.proofs.SlotLemmas.{slots-with_slot, slots_same}
use Rattle.bosh_inventory.specs.Orderly.{IsOrderlyDisk, IsOrderlyCloud, last_holder}
use Rattle.bosh_inventory.specs.Rows.{slots, AreTables}
use Rattle.bosh_base.specs.declared.call.Call.TheVariants.{DeleteDisk}
use Rattle.bosh_base.proofs.HistoryLemmas.{latest_seen_last}
use Rattle.bosh_inventory.proofs.ActLemmas.{sure}
use Rattle.bosh_inventory.proofs.DiskLemmas.{LeavesVms, holder-left, vms-left, orderly_vms-left}

module _ (xs : List Entry) (orderly : IsOrderlyCloud xs) (by : effect.Effect) (d : ℕ) (free : holder_of xs d ≡ None) where
  abbrev gone : Entry
  gone = Effect (record by { call = DeleteDisk d })

  vms-gone : KeepsVms xs gone
  vms-gone = record { makes_none = refl; created = λ v. refl; stays = λ v. refl }

  count-gone : disks_created (grown xs gone) ≡ disks_created xs
  count-gone = disks_created-kept xs gone refl

  leaves-gone : LeavesVms xs gone
  leaves-gone = record {
    vms = vms-gone;
    untouched = λ v. record { spec = refl; running = refl; drained = refl; silent = refl };
    holders = λ k. refl;
    mounts = λ k. refl;
    same = λ k. ap (λ f. f k) (contents_of-grown xs gone);
    lists =
        λ v. attached_to-kept xs (grown xs gone) v count-gone
        (λ k. is_holder-kept xs (grown xs gone) v k (holder-left xs gone vms-gone k refl));
  }

  there-gone : (k : ℕ) → k ≢ d → is_disk_there (grown xs gone) k ≡ is_disk_there xs k
  there-gone k apart =
      latest_seen_last (disk_presence k) false [] xs gone
      ∙ ap (λ is. chosen (when is false) (is_disk_there xs k)) (ne_eqb d k (λ is. apart (sym is)))

  not_there : is_disk_there (grown xs gone) d ≡ false
  not_there = latest_seen_last (disk_presence d) false [] xs gone ∙ sure d d refl false (is_disk_there xs d)

  created-gone : (k : ℕ) → disk_creation (grown xs gone) k ≡ disk_creation xs k
  created-gone k = latest_seen_last (disk_created k) None [] xs gone

  disk-still : (k : ℕ) → k ≢ d → disk_of (grown xs gone) k ≡ disk_of xs k
  disk-still k apart = λ i.
      if there-gone k apart i
      then option_and_then (λ e. option_map (λ w. let it : Disk = record
      { disk = k; tag = e.n; owner = e.owner; want = w; contents = leaves-gone.same k i } in it) (want_of
      e.call)) (created-gone k i)
      else None

  disk-gone : disk_of (grown xs gone) d ≡ None
  disk-gone =
      ap (λ there. if there then option_and_then (λ e. option_map (disk_made (grown xs gone) d e) (want_of e.call))
      (disk_creation (grown xs gone) d) else None) not_there

  orderly_disk-gone : (k : ℕ) → IsOrderlyDisk (grown xs gone) k
  orderly_disk-gone k =
      let before : IsOrderlyDisk xs k = orderly.disks k in
      let last : last_holder (grown xs gone) k ≡ last_holder xs k = last_holder-kept xs gone k refl in
      let holds : holder_of (grown xs gone) k ≡ holder_of xs k = holder-left xs gone vms-gone k refl in
      let past : disks_created (grown xs gone) < k → disks_created xs < k =
      λ later. subst (λ (n : ℕ). n < k) count-gone later in
      record {
        made = elim (cases_eq k d) [
          | inl same ↦ ap (is_disk_there (grown xs gone)) same ∙ not_there ∙ ap is_some (sym disk-gone)
              ∙ ap (λ j. is_some (disk_of (grown xs gone) j)) (sym same)
          | inr apart ↦ there-gone k apart ∙ before.made ∙ ap is_some (sym (disk-still k apart))
        ];
        numbered = λ is. elim (cases_eq k d) [
          | inl same ↦
              let none : is_disk_there (grown xs gone) k ≡ false =
              ap (is_disk_there (grown xs gone)) same ∙ not_there in
              absurd cc
          | inr apart ↦ subst (λ (n : ℕ). (1 ≤ k) × (k ≤ n)) (sym count-gone)
              (before.numbered (sym (there-gone k apart) ∙ is))
        ];
        held = λ is. elim (cases_eq k d) [
          | inl same ↦
              let none : is_some (holder_of (grown xs gone) k) ≡ false =
              ap is_some holds ∙ ap (λ j. is_some (holder_of xs j)) same ∙ ap is_some free in
              absurd cc
          | inr apart ↦ there-gone k apart ∙ before.held (ap is_some (sym holds) ∙ is)
        ];
        holder_made =
            λ v is. subst (λ (n : ℕ). v ≤ n) (sym (vms_created-kept xs gone refl))
            (before.holder_made v (sym last ∙ is));
        not_held = λ later. last ∙ before.not_held (past later);
        empty = λ later. leaves-gone.same k ∙ before.empty (past later);
      }

  AreTables-gone : (vms : List (Option Machine)) (volumes : List (Option Disk)) (holders : List (Option ℕ)) →
      is_disk_there xs d ≡ true → AreTables xs vms volumes holders →
      AreTables (grown xs gone) vms (with_slot volumes d None) holders
  AreTables-gone vms volumes holders there tables =
      let numbered : (1 ≤ d) × (d ≤ disks_created xs) = (orderly.disks d).numbered there in
      record {
        are_orderly = record { vms = orderly_vms-left xs gone leaves-gone orderly; disks = orderly_disk-gone };
        all_vms = tables.all_vms ∙ vms-left xs gone leaves-gone;
        all_disks =
            ap (λ t. with_slot t d None) tables.all_disks
            ∙ ap (λ it. with_slot (slots (disk_of xs) (disks_created xs)) d it) (sym disk-gone)
            ∙ slots-with_slot (disk_of xs) (disk_of (grown xs gone)) (disks_created xs) d numbered.0 numbered.1
            disk-still
            ∙ ap (slots (disk_of (grown xs gone))) (sym count-gone);
        all_holders =
            tables.all_holders
            ∙ sym (slots_same (last_holder xs) (last_holder (grown xs gone)) (disks_created xs)
            (λ k below. last_holder-kept xs gone k refl))
            ∙ ap (slots (last_holder (grown xs gone))) (sym count-gone);
      }

pub AreTables-disk_deleted : (xs : List Entry) (e : effect.Effect) (d : ℕ) (vms : List (Option Machine))
    (volumes : List (Option Disk)) (holders : List (Option ℕ)) →
    e.call ≡ DeleteDisk d → is_disk_there xs d ≡ true → holder_of xs d ≡ None → AreTables xs vms volumes
    holders → AreTables (xs ++ Effect e ∷ []) vms (with_slot volumes d None) holders
AreTables-disk_deleted xs e d vms volumes holders is there free tables =
    let P : Entry → Type 0 = λ entry. AreTables (xs ++ entry ∷ []) vms (with_slot volumes d None) holders in
    subst P (ap (λ call. Effect (record e { call = call })) (sym is))
    (AreTables-gone xs tables.are_orderly e d free vms volumes holders there tables)
