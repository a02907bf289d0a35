-- Where all facts hold, what is recorded is what the cloud has.
use Rattle.std.proofs.Common.{◌≡◌, ◌∙◌, ℕ, Bool, true, false, ◌&&◌, not, Option, Some, None}
use Rattle.std.proofs.Common.{refl, sym}
use Rattle.std.specs.Prelude.{◌||◌, ◌==◌, eqb, is_some}
use Rattle.std.proofs.lemmas.Bool.{and_from, and_parts, eq-eqb, false≢true}
use Rattle.bosh_base.specs.Cloud.{disk_creation, disks_created, is_disk_there, is_vm_there, numbers_to, vm_creation, vms_created}
use Rattle.bosh_base.specs.declared.entry.Effect as effect
use Rattle.bosh_base.specs.declared.inst.Inst.{Inst}
use Rattle.bosh_base.specs.declared.owner.Owner.{Owner}
use Rattle.bosh_base.specs.declared.owner.Owner.TheVariants.{Instance, Compile, Disk}
use Rattle.bosh_base.specs.declared.row.Doubt.{Doubt}
use Rattle.bosh_base.specs.declared.snapshot.Orphan.{Orphan}
use Rattle.bosh_history.specs.Known.{Slot, SlotName}
use Rattle.bosh_history.specs.Moments.{Moment}
use Rattle.bosh_history.specs.Orders.{same_slot}
use Rattle.bosh_history.specs.Ties.{are_disks_counted, are_machines_owned, are_orphans_tied, are_rows_tied, are_slots_tied}
use Rattle.bosh_history.specs.Ties.{is_counted_once, is_owned, is_row_tied, is_tied, is_tied_orphan, is_tied_slot, is_wanted_as}
use Rattle.bosh_history.specs.Words.{is_among}
use Rattle.bosh_rows.specs.Standing.{same_truth}
use Rattle.bosh_rows.specs.Tied.{has_room_for_disks, is_made, is_tied_row}
use Rattle.laws_answered_rows.proofs.OwnLemmas.{created_parts}
use Rattle.laws_cloud.proofs.OwnerFrames.{where_some}
use Rattle.laws_cloud.proofs.TellLemmas.{truth_is}
use Rattle.laws_effects.specs.Orderly.{is_taken}
use Rattle.laws_facts.specs.CallFacts.{named}
use Rattle.laws_facts.specs.Disks.{is_counted_by}
use Rattle.laws_facts.specs.Facts.{Holds}
use Rattle.laws_items.proofs.ListLemmas.{all_from, any_in}
use Rattle.laws_items.specs.Lists.{IsIn}
use Rattle.laws_row_facts.specs.Words.{is_some_with, where_any}
use Rattle.laws_slots.specs.Orphans.{is_deleted, is_deletion_of_disk, is_orphan_as_recorded}
use Rattle.laws_slots.specs.Slots.{is_slot_tied}
use Rattle.laws_tied.proofs.OwnedLemmas.{machine_owned}

or_right : (a b : Bool) → b ≡ true → (a || b) ≡ true
or_right true b is = refl
or_right false b is = is

some_of : {X : Type 0} (o : Option X) → is_some o ≡ true → (x : X) × (o ≡ Some x)
some_of (Some x) some = (x, refl)
some_of None some = absurd (false≢true some)

module _ (m : Moment) (h : Holds m) where
  row_tied : (i : Inst) → is_row_tied m.effects (m.known.row i) ≡ true
  row_tied i =
      and_from (is_tied_row m.effects (m.known.row i)) _ (h.rows i).tied
      (and_from (is_made m.effects (m.known.row i) (m.known.row i).vm) (has_room_for_disks (m.known.row i))
      (created_parts m.effects (m.known.row i) (h.rows i).created).made (h.rows i).has_room)

  slot_tied : (name : SlotName) → IsIn name m.known.machines
      → is_tied_slot m.effects name (m.known.slot name.task name.slot) ≡ true
  slot_tied name is =
      let listed : is_among same_slot name m.known.machines ≡ true =
      any_in (same_slot name) name m.known.machines is
      (and_from (name.task == name.task) (name.slot == name.slot) (eq-eqb name.task name.task refl)
      (eq-eqb name.slot name.slot refl)) in
      let some : is_some (m.known.slot name.task name.slot) ≡ true =
      sym (truth_is (is_among same_slot name m.known.machines) (is_some (m.known.slot name.task name.slot))
      (h.known.lists.machine_listed name.task name.slot)) ∙ listed in
      let it : (it : Slot) × (m.known.slot name.task name.slot ≡ Some it) =
      some_of (m.known.slot name.task name.slot) some in
      (λ j. is_tied_slot m.effects name (it.1 j))
      ∙ (sym (λ j. is_slot_tied m.effects (named name.task name.slot) (it.1 j))
      ∙ (h.slots name.task name.slot).tied)

  orphan_tied : (d : ℕ) → IsIn d m.known.orphans → is_tied_orphan m.effects d (m.known.orphan d) ≡ true
  orphan_tied d is =
      let listed : is_among eqb d m.known.orphans ≡ true =
      any_in (eqb d) d m.known.orphans is (eq-eqb d d refl) in
      let some : is_some (m.known.orphan d) ≡ true =
      sym (truth_is (is_among eqb d m.known.orphans) (is_some (m.known.orphan d))
      (and_parts (same_truth (is_among eqb d m.known.orphans) (is_some (m.known.orphan d))) _
      (h.known.lists.orphan_listed d)).0) ∙ listed in
      let it : (it : Orphan) × (m.known.orphan d ≡ Some it) = some_of (m.known.orphan d) some in
      (λ j. is_tied_orphan m.effects d (it.1 j))
      ∙ of it.0 (where_some (is_orphan_as_recorded m.effects d) (m.known.orphan d) it.0 (h.disks d).orphan it.1)
    where
      of : (it : Orphan) → is_orphan_as_recorded m.effects d it ≡ true
          → (is_wanted_as it (disk_creation m.effects d) && (is_disk_there m.effects d || is_some it.doubt)) ≡ true
      of it recorded =
          let first : (is_wanted_as it (disk_creation m.effects d) ≡ true) × _ =
          and_parts (is_wanted_as it (disk_creation m.effects d)) _ recorded in
          let second : (where_any (λ doubt. is_deletion_of_disk d doubt.call) it.doubt ≡ true)
          × (same_truth (is_disk_there m.effects d) (not (is_deleted m.effects it)) ≡ true) =
          and_parts (where_any (λ doubt. is_deletion_of_disk d doubt.call) it.doubt) _ first.1 in
          and_from (is_wanted_as it (disk_creation m.effects d)) _ first.0
          (by it.doubt refl (truth_is (is_disk_there m.effects d) (not (is_deleted m.effects it)) second.1))
        where
          by : (doubt : Option Doubt) → it.doubt ≡ doubt → is_disk_there m.effects d ≡ not (is_deleted m.effects it)
              → (is_disk_there m.effects d || is_some doubt) ≡ true
          by (Some dt) doubted there = or_right (is_disk_there m.effects d) true refl
          by None none there =
              (λ j. there j || false)
              ∙ (λ j. not (is_some_with (λ doubt. is_taken m.effects doubt.n) (none j)) || false)

  machine_tied : (v : ℕ) → IsIn v (numbers_to (vms_created m.effects))
      → (not (is_vm_there m.effects v) || is_owned m v (vm_creation m.effects v)) ≡ true
  machine_tied v is = by (is_vm_there m.effects v) refl
    where
      by : (there : Bool) → is_vm_there m.effects v ≡ there
          → (not there || is_owned m v (vm_creation m.effects v)) ≡ true
      by true there = machine_owned m h v is there
      by false gone = refl

  disk_tied : (d : ℕ) → (not (is_disk_there m.effects d) || is_counted_once m d (disk_creation m.effects d)) ≡ true
  disk_tied d =
      (λ j. not (is_disk_there m.effects d) || by (disk_creation m.effects d) j) ∙ (h.disks d).once
    where
      of : (e : effect.Effect) (owner : Owner)
          → is_counted_once m d (Some (record e { owner = owner }))
          ≡ is_counted_by m.known.row (is_some (m.known.orphan d)) d (Some (record e { owner = owner }))
      of e (Instance i) = refl
      of e (Compile t s) = refl
      of e (Disk disk) = refl

      by : (o : Option effect.Effect)
          → is_counted_once m d o ≡ is_counted_by m.known.row (is_some (m.known.orphan d)) d o
      by (Some e) = of e e.owner
      by None = refl

  pub all_tied : is_tied m ≡ true
  all_tied =
      and_from (are_rows_tied m) _
      (all_from (λ i. is_row_tied m.effects (m.known.row i)) m.known.instances (λ i is. row_tied i))
      (and_from (are_slots_tied m) _
      (all_from (λ name. is_tied_slot m.effects name (m.known.slot name.task name.slot)) m.known.machines slot_tied)
      (and_from (are_orphans_tied m) _
      (all_from (λ d. is_tied_orphan m.effects d (m.known.orphan d)) m.known.orphans orphan_tied)
      (and_from (are_machines_owned m) (are_disks_counted m)
      (all_from (λ v. not (is_vm_there m.effects v) || is_owned m v (vm_creation m.effects v))
      (numbers_to (vms_created m.effects)) machine_tied)
      (all_from (λ d. not (is_disk_there m.effects d) || is_counted_once m d (disk_creation m.effects d))
      (numbers_to (disks_created m.effects)) (λ d is. disk_tied d)))))

pub tied : (m : Moment) → Holds m → is_tied m ≡ true
tied m h = all_tied m h
