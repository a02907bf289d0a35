-- A machine holds what is recorded, once a disk is attached to it or detached from it.
use Rattle.std.proofs.Common.{◌≡◌, ℕ, Bool, true, false, Some, None, Option, List, [], ◌∷◌, refl, sym, ◌∙◌, ap, inl, inr}
use Rattle.std.specs.Prelude.{◌⊎◌, ◌&&◌, ◌||◌, ◌==◌, if◌then◌else◌, filter}
use Rattle.std.specs.List.{list_all, list_any}
use Rattle.std.proofs.lemmas.Bool.{and_parts, and_from, eqb-true, eq-eqb, or_left, or_right}
use Rattle.bosh_base.specs.Cloud.{attached_to, disks_created, is_holder, is_vm_there, numbers_to, when}
use Rattle.bosh_base.specs.History.{chosen}
use Rattle.bosh_base.specs.declared.call.Call.TheVariants.{AttachDisk, DetachDisk}
use Rattle.bosh_base.specs.declared.entry.Entry.{Entry}
use Rattle.bosh_base.specs.declared.row.DiskRow.{DiskRow}
use Rattle.bosh_base.specs.declared.row.Row.{Row}
use Rattle.laws_effects.proofs.AheadLemmas.{last_holder}
use Rattle.laws_effects.proofs.DiskLemmas.{held_where}
use Rattle.laws_rows.proofs.DiskTieLemmas.{eqb_sym, holder-after}
use Rattle.laws_rows.proofs.TieLemmas.{StaysMachines, is_held_by, keeps-disks, with_call}
use Rattle.laws_rows.specs.SoundDisks.{is_recorded}
use Rattle.bosh_rows.specs.After.{attach, changing, let_go}
use Rattle.bosh_rows.specs.Standing.{same_truth}
use Rattle.laws_answered_rows.proofs.HeldLemmas.{is_agreed}

pub truth_same : (a b : Bool) → a ≡ b → same_truth a b ≡ true
truth_same true b is = sym is
truth_same false true is = absurd cc
truth_same false false is = refl

-- one of the disks has the number and is attached
abbrev pub is_on : List DiskRow → ℕ → Bool
is_on ds k = list_any (λ it. it.disk == k && it.attached) ds

-- what holds of each that one test leaves holds of each that another leaves
pub filter_all : (p q r s : ℕ → Bool) (ks : List ℕ) →
    ((k : ℕ) → q k ≡ true → (s k ≡ true) ⊎ ((p k ≡ true) × (r k ≡ true → s k ≡ true))) →
    list_all r (filter p ks) ≡ true → list_all s (filter q ks) ≡ true
filter_all p q r s [] each all = refl
filter_all p q r s (k ∷ ks) each all =
    by_tests (λ all. filter_all p q r s ks each all) (p k) refl (q k) refl all
  where
    by_tests : (list_all r (filter p ks) ≡ true → list_all s (filter q ks) ≡ true) → (b : Bool) → p k ≡ b →
        (c : Bool) → q k ≡ c → list_all r (if b then k ∷ filter p ks else filter p ks) ≡ true →
        list_all s (if c then k ∷ filter q ks else filter q ks) ≡ true
    by_tests others true is true also all =
        let parts : (r k ≡ true) × (list_all r (filter p ks) ≡ true) = and_parts (r k) _ all in
        and_from (s k) _ (by_way parts.0 (each k also)) (others parts.1)
      where
        by_way : r k ≡ true → ((s k ≡ true) ⊎ ((p k ≡ true) × (r k ≡ true → s k ≡ true))) → s k ≡ true
        by_way holds (inl shown) = shown
        by_way holds (inr more) = more.1 holds
    by_tests others true is false also all = others (and_parts (r k) _ all).1
    by_tests others false is true also all = and_from (s k) _ (by_way (each k also)) (others all)
      where
        by_way : ((s k ≡ true) ⊎ ((p k ≡ true) × (r k ≡ true → s k ≡ true))) → s k ≡ true
        by_way (inl shown) = shown
        by_way (inr more) = absurd (let now : p k ≡ true = more.0 in cc)
    by_tests others false is false also all = others all

module _ (xs ys : List Entry) (v x : ℕ) (f : DiskRow → DiskRow) (on : Bool)
    (number : (d : DiskRow) → (f d).disk ≡ d.disk) (placed : (d : DiskRow) → (f d).attached ≡ on)
    (at_it : (k : ℕ) → (k == x) ≡ true → is_holder ys v k ≡ on)
    (elsewhere : (k : ℕ) → (k == x) ≡ false → is_holder ys v k ≡ is_holder xs v k) where
  all_changed : (ds : List DiskRow) → list_all (λ d. same_truth (is_holder xs v d.disk) d.attached) ds ≡ true →
      list_all (λ d. same_truth (is_holder ys v d.disk) d.attached) (changing x f ds) ≡ true
  all_changed [] all = refl
  all_changed (d ∷ ds) all =
      let parts : (same_truth (is_holder xs v d.disk) d.attached ≡ true)
      × (list_all (λ d. same_truth (is_holder xs v d.disk) d.attached) ds ≡ true) =
      and_parts (same_truth (is_holder xs v d.disk) d.attached) _ all in
      and_from _ _ (by_number (d.disk == x) refl parts.0) (all_changed ds parts.1)
    where
      by_number : (b : Bool) → (d.disk == x) ≡ b → same_truth (is_holder xs v d.disk) d.attached ≡ true →
          same_truth (is_holder ys v (if b then f d else d).disk) (if b then f d else d).attached ≡ true
      by_number true same is =
          truth_same (is_holder ys v (f d).disk) (f d).attached
          (ap (is_holder ys v) (number d) ∙ (at_it d.disk same ∙ sym (placed d)))
      by_number false other is = ap (λ h. same_truth h d.attached) (elsewhere d.disk other) ∙ is

  -- the changed disk is on, where it is recorded
  on_changed : on ≡ true → (k : ℕ) → (k == x) ≡ true → (ds : List DiskRow) → is_recorded ds x ≡ true →
      is_on (changing x f ds) k ≡ true
  on_changed is k same [] recorded = absurd cc
  on_changed is k same (d ∷ ds) recorded = by_number (on_changed is k same ds) (d.disk == x) refl recorded
    where
      by_number : (is_recorded ds x ≡ true → is_on (changing x f ds) k ≡ true) → (b : Bool) → (d.disk == x) ≡ b →
          (b || is_recorded ds x) ≡ true →
          (((if b then f d else d).disk == k && (if b then f d else d).attached) || is_on (changing x f ds) k) ≡ true
      by_number others true here recorded =
          let first : d.disk ≡ x = eqb-true d.disk x here in
          let second : k ≡ x = eqb-true k x same in
          or_left _ _ (and_from _ _ (eq-eqb (f d).disk k (number d ∙ (first ∙ sym second))) (placed d ∙ is))
      by_number others false there recorded = or_right _ _ (others recorded)

  -- another is on as before
  on_still : (k : ℕ) → (k == x) ≡ false → (ds : List DiskRow) → is_on (changing x f ds) k ≡ is_on ds k
  on_still k other [] = refl
  on_still k other (d ∷ ds) = by_number (on_still k other ds) (d.disk == x) refl
    where
      off : (d.disk == x) ≡ true → (d.disk == k) ≡ false
      off here = ap (λ n. n == k) (eqb-true d.disk x here) ∙ eqb_sym k x false other

      by_number : is_on (changing x f ds) k ≡ is_on ds k → (b : Bool) → (d.disk == x) ≡ b →
          (((if b then f d else d).disk == k && (if b then f d else d).attached) || is_on (changing x f ds) k)
          ≡ ((d.disk == k && d.attached) || is_on ds k)
      by_number others true here =
          (λ i. (number d i == k && (f d).attached) || others i)
          ∙ ((λ i. (off here i && (f d).attached) || is_on ds k)
          ∙ (λ i. (sym (off here) i && d.attached) || is_on ds k))
      by_number others false there = ap (λ b. (d.disk == k && d.attached) || b) others

  pub agreed_changed : disks_created ys ≡ disks_created xs → (ds : List DiskRow) →
      (on ≡ true → is_recorded ds x ≡ true) → is_agreed xs ds v ≡ true → is_agreed ys (changing x f ds) v ≡ true
  agreed_changed count ds recorded agreed =
      let parts : (list_all (λ d. same_truth (is_holder xs v d.disk) d.attached) ds ≡ true)
      × (list_all (is_on ds) (attached_to xs v) ≡ true) =
      and_parts (list_all (λ d. same_truth (is_holder xs v d.disk) d.attached) ds)
      (list_all (is_on ds) (attached_to xs v)) agreed in
      and_from (list_all (λ d. same_truth (is_holder ys v d.disk) d.attached) (changing x f ds)) _
      (all_changed ds parts.0)
      ((λ i. list_all (is_on (changing x f ds)) (filter (is_holder ys v) (numbers_to (count i))))
      ∙ filter_all (is_holder xs v) (is_holder ys v) (is_on ds) (is_on (changing x f ds))
      (numbers_to (disks_created xs)) (λ k held. by_number k (k == x) refl held) parts.1)
    where
      by_number : (k : ℕ) (b : Bool) → (k == x) ≡ b → is_holder ys v k ≡ true →
          (is_on (changing x f ds) k ≡ true)
          ⊎ ((is_holder xs v k ≡ true) × (is_on ds k ≡ true → is_on (changing x f ds) k ≡ true))
      by_number k true same held =
          let is : on ≡ true = sym (at_it k same) ∙ held in inl (on_changed is k same ds (recorded is))
      by_number k false other held =
          inr (sym (elsewhere k other) ∙ held, λ was. on_still k other ds ∙ was)

-- ---- attach and detach

pub agreed_attach : (xs : List Entry) (row : Row) (v x n : ℕ) (dep : List ℕ) (ds : List DiskRow) →
    is_vm_there xs v ≡ true → is_recorded ds x ≡ true → is_agreed xs ds v ≡ true →
    is_agreed (with_call xs row n dep (AttachDisk v x)) (changing x attach ds) v ≡ true
agreed_attach xs row v x n dep ds there recorded agreed =
    agreed_changed xs (with_call xs row n dep (AttachDisk v x)) v x attach true (λ d. refl) (λ d. refl) at_it elsewhere
    (keeps-disks xs row n dep (AttachDisk v x) (record { creates = refl; stays = λ d m. refl })).count ds
    (λ is. recorded) agreed
  where
    machines : StaysMachines (AttachDisk v x)
    machines = record { creates = refl; stays = λ u m. refl }

    at_it : (k : ℕ) → (k == x) ≡ true → is_holder (with_call xs row n dep (AttachDisk v x)) v k ≡ true
    at_it k same =
        ap (is_held_by v) (holder-after xs row n dep (AttachDisk v x) k machines)
        ∙ ((λ i. is_held_by v (held_where (is_vm_there xs)
        (chosen (when (eqb_sym k x true same i) (Some v)) (last_holder xs k))))
        ∙ ((λ i. is_held_by v (when (there i) v)) ∙ eq-eqb v v refl))

    elsewhere : (k : ℕ) → (k == x) ≡ false →
        is_holder (with_call xs row n dep (AttachDisk v x)) v k ≡ is_holder xs v k
    elsewhere k other =
        ap (is_held_by v) (holder-after xs row n dep (AttachDisk v x) k machines)
        ∙ (λ i. is_held_by v (held_where (is_vm_there xs)
        (chosen (when (eqb_sym k x false other i) (Some v)) (last_holder xs k))))

pub agreed_detach : (xs : List Entry) (row : Row) (v x n : ℕ) (dep : List ℕ) (ds : List DiskRow) →
    is_agreed xs ds v ≡ true → is_agreed (with_call xs row n dep (DetachDisk v x)) (changing x let_go ds) v ≡ true
agreed_detach xs row v x n dep ds agreed =
    agreed_changed xs (with_call xs row n dep (DetachDisk v x)) v x let_go false (λ d. refl) (λ d. refl) at_it elsewhere
    (keeps-disks xs row n dep (DetachDisk v x) (record { creates = refl; stays = λ d m. refl })).count ds
    (λ is. absurd cc) agreed
  where
    machines : StaysMachines (DetachDisk v x)
    machines = record { creates = refl; stays = λ u m. refl }

    at_it : (k : ℕ) → (k == x) ≡ true → is_holder (with_call xs row n dep (DetachDisk v x)) v k ≡ false
    at_it k same =
        ap (is_held_by v) (holder-after xs row n dep (DetachDisk v x) k machines)
        ∙ (λ i. is_held_by v (held_where (is_vm_there xs)
        (chosen (when {A = Option ℕ} (eqb_sym k x true same i) None) (last_holder xs k))))

    elsewhere : (k : ℕ) → (k == x) ≡ false →
        is_holder (with_call xs row n dep (DetachDisk v x)) v k ≡ is_holder xs v k
    elsewhere k other =
        ap (is_held_by v) (holder-after xs row n dep (DetachDisk v x) k machines)
        ∙ (λ i. is_held_by v (held_where (is_vm_there xs)
        (chosen (when {A = Option ℕ} (eqb_sym k x false other i) None) (last_holder xs k))))
