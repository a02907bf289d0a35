-- A machine holds what is recorded, once a disk or the machine is made or found, or it tells which disks it has.
use Rattle.std.proofs.Common.{◌≡◌, ℕ, ◌+◌, ◌≤◌, Bool, true, false, Option, Some, None, List, [], ◌∷◌, ◌++◌, refl, sym, ◌∙◌, ap, inr, arith}
use Rattle.std.specs.Prelude.{◌&&◌, ◌||◌, ◌==◌, not, nat_lt, if◌then◌else◌, filter, map}
use Rattle.std.specs.List.{list_all, list_any}
use Rattle.std.proofs.lemmas.Bool.{and_parts, and_from, eqb-true, ne_eqb, not-true}
use Rattle.bosh_base.specs.Cloud.{attached_to, disks_created, holder_of, is_disk_there, is_holder, is_vm_there, numbers_to, vms_created}
use Rattle.bosh_base.specs.declared.call.Call.TheVariants.{CreateVm, CreateDisk}
use Rattle.bosh_base.specs.declared.disk_want.DiskWant.{DiskWant}
use Rattle.bosh_base.specs.declared.entry.Entry.{Entry}
use Rattle.bosh_base.specs.declared.entry.Entry.TheVariants.{Effect}
use Rattle.bosh_base.specs.declared.make.Make.{Make}
use Rattle.bosh_base.specs.declared.row.DiskRow.{DiskRow}
use Rattle.bosh_base.specs.declared.row.Row.{Row}
use Rattle.bosh_base.specs.declared.row.Vm.{Vm}
use Rattle.laws_effects.proofs.AheadLemmas.{behind}
use Rattle.laws_effects.proofs.CreationLemmas.{disks-grown}
use Rattle.laws_effects.proofs.DiskLemmas.{held_where}
use Rattle.laws_effects.proofs.FollowLemmas.{IsWithin, made}
use Rattle.laws_effects.proofs.HolderLemmas.{vm_of_holder}
use Rattle.laws_effects.specs.Orderly.{AreOrderly}
use Rattle.laws_rows.proofs.DiskTieLemmas.{holder-after}
use Rattle.laws_rows.proofs.FilterLemmas.{filter_more, numbers-more}
use Rattle.laws_rows.proofs.ListLemmas.{all_from}
use Rattle.laws_rows.proofs.MakeTieLemmas.{all_more, filter_none, others_more, places-made}
use Rattle.laws_rows.proofs.NumberLemmas.{all_kept, kept_number, kept_passes}
use Rattle.laws_rows.proofs.SteadyLemmas.{IsTiedTo}
use Rattle.laws_rows.proofs.TieLemmas.{is_held_by, of_row, with_call}
use Rattle.laws_rows.proofs.WholeTieLemmas.{placed-so, truth-same}
use Rattle.laws_rows.specs.SoundDisks.{is_recorded}
use Rattle.bosh_rows.specs.After.{attached_by}
use Rattle.bosh_rows.specs.Standing.{same_truth}
use Rattle.bosh_rows.specs.Tied.{has_no_other_disk, is_disk_kept, number_of}
use Rattle.laws_answered_rows.proofs.AgreedLemmas.{filter_all, is_on, truth_same}
use Rattle.laws_answered_rows.proofs.HeldLemmas.{is_agreed}

or_false : (b : Bool) → (b || false) ≡ b
or_false true = refl
or_false false = refl

-- ---- one disk more, which the machine does not hold

on_more : (ds : List DiskRow) (new : DiskRow) (k : ℕ) → is_on ds k ≡ true → is_on (ds ++ new ∷ []) k ≡ true
on_more [] new k is = absurd cc
on_more (d ∷ ds) new k is = by_first (on_more ds new k) (d.disk == k && d.attached) is
  where
    by_first : (is_on ds k ≡ true → is_on (ds ++ new ∷ []) k ≡ true) → (b : Bool) → (b || is_on ds k) ≡ true →
        (b || is_on (ds ++ new ∷ []) k) ≡ true
    by_first others true is = refl
    by_first others false is = others is

pub agreed_more : (xs : List Entry) (v : ℕ) (ds : List DiskRow) (new : DiskRow) → new.attached ≡ false →
    is_holder xs v new.disk ≡ false → is_agreed xs ds v ≡ true → is_agreed xs (ds ++ new ∷ []) v ≡ true
agreed_more xs v ds new off free agreed =
    let parts : (list_all (λ d. same_truth (is_holder xs v d.disk) d.attached) ds ≡ true)
    × (list_all (is_on ds) (attached_to xs v) ≡ true) =
    and_parts (list_all (λ d. same_truth (is_holder xs v d.disk) d.attached) ds)
    (list_all (is_on ds) (attached_to xs v)) agreed in
    and_from (list_all (λ d. same_truth (is_holder xs v d.disk) d.attached) (ds ++ new ∷ [])) _
    (all_more (λ d. same_truth (is_holder xs v d.disk) d.attached) ds new parts.0
    (truth_same (is_holder xs v new.disk) new.attached (free ∙ sym off)))
    (others_more (is_holder xs v) (is_on ds) (is_on (ds ++ new ∷ [])) (numbers_to (disks_created xs))
    (λ k is. on_more ds new k is) parts.1)

-- a disk that is on is recorded
pub on_recorded : (ds : List DiskRow) (k : ℕ) → is_on ds k ≡ true → is_recorded ds k ≡ true
on_recorded [] k is = absurd cc
on_recorded (d ∷ ds) k is = by_first (on_recorded ds k) (d.disk == k) d.attached is
  where
    by_first : (is_on ds k ≡ true → is_recorded ds k ≡ true) → (b on : Bool) → ((b && on) || is_on ds k) ≡ true →
        (b || is_recorded ds k) ≡ true
    by_first others true on is = refl
    by_first others false on is = others is

-- a disk that is not recorded is on no machine that holds just what is recorded
pub unheld : (xs : List Entry) (v : ℕ) (ds : List DiskRow) (k : ℕ) → is_agreed xs ds v ≡ true →
    is_disk_there xs k ≡ true → is_recorded ds k ≡ false → is_holder xs v k ≡ false
unheld xs v ds k agreed there fresh = by_truth (is_holder xs v k) refl
  where
    within : IsWithin (disks_created xs) k
    within = (made xs).disks k there

    by_truth : (b : Bool) → is_holder xs v k ≡ b → b ≡ false
    by_truth false is = refl
    by_truth true is =
        absurd (let all : list_all (is_on ds) (attached_to xs v) ≡ true =
        (and_parts (list_all (λ d. same_truth (is_holder xs v d.disk) d.attached) ds)
        (list_all (is_on ds) (attached_to xs v)) agreed).1 in
        let on : is_on ds k ≡ true =
        all_kept (is_on ds) (attached_to xs v) k all
        (kept_number (is_holder xs v) (disks_created xs) k within.first within.last is) in
        let recorded : is_recorded ds k ≡ true = on_recorded ds k on in cc)

-- a disk above those that are recorded is none of them
pub above_fresh : (ds : List DiskRow) (k : ℕ) → list_all (λ j. nat_lt j k) (map (λ d. d.disk) ds) ≡ true →
    is_recorded ds k ≡ false
above_fresh [] k low = refl
above_fresh (d ∷ ds) k low =
    let parts : (nat_lt d.disk k ≡ true) × (list_all (λ j. nat_lt j k) (map (λ d. d.disk) ds) ≡ true) =
    and_parts (nat_lt d.disk k) _ low in
    λ i. ne_eqb d.disk k (λ same. absurd (less d.disk k parts.0 same)) i || above_fresh ds k parts.1 i
  where
    less : (a b : ℕ) → nat_lt a b ≡ true → a ≡ b → ⊥
    less a b is same = grind (arith, is, same)

-- ---- the machine and its disks once another disk is made

made_holder : (xs : List Entry) (row : Row) (wanted : DiskWant) (v u n : ℕ) (dep : List ℕ) (k : ℕ) →
    is_holder (with_call xs row n dep (CreateDisk wanted u)) v k ≡ is_holder xs v k
made_holder xs row wanted v u n dep k =
    ap (is_held_by v)
    (holder-after xs row n dep (CreateDisk wanted u) k (record { creates = refl; stays = λ w m. refl }))

next_free : (xs : List Entry) → AreOrderly xs → (v : ℕ) → is_holder xs v (disks_created xs + 1) ≡ false
next_free xs orderly v =
    ap (λ last. is_held_by v (held_where (is_vm_there xs) last))
    ((behind xs orderly).held (disks_created xs + 1) (omega arith))

pub agreed_made : (xs : List Entry) (row : Row) (wanted : DiskWant) (v u n : ℕ) (dep : List ℕ) (ds : List DiskRow) →
    AreOrderly xs → is_agreed xs ds v ≡ true → is_agreed (with_call xs row n dep (CreateDisk wanted u)) ds v ≡ true
agreed_made xs row wanted v u n dep ds orderly agreed =
    (λ i. list_all (λ d. same_truth (made_holder xs row wanted v u n dep d.disk i) d.attached) ds
    && list_all (is_on ds) (same i))
    ∙ agreed
  where
    same : attached_to (with_call xs row n dep (CreateDisk wanted u)) v ≡ attached_to xs v
    same =
        (λ i. filter (λ k. made_holder xs row wanted v u n dep k i)
        (numbers_to (disks-grown xs (Effect (of_row row n dep (CreateDisk wanted u))) i)))
        ∙ (ap (filter (is_holder xs v)) (numbers-more (disks_created xs))
        ∙ (filter_more (is_holder xs v) (numbers_to (disks_created xs)) (disks_created xs + 1)
        ∙ ((λ i. filter (is_holder xs v) (numbers_to (disks_created xs))
        ++ (if next_free xs orderly v i then (disks_created xs + 1) ∷ [] else []))
        ∙ append_nil (filter (is_holder xs v) (numbers_to (disks_created xs))))))
      where
        append_nil : (ks : List ℕ) → ks ++ [] ≡ ks
        append_nil [] = refl
        append_nil (k ∷ ks) = ap (λ js. k ∷ js) (append_nil ks)

pub made_free : (xs : List Entry) (row : Row) (wanted : DiskWant) (v u n : ℕ) (dep : List ℕ) → AreOrderly xs →
    is_holder (with_call xs row n dep (CreateDisk wanted u)) v (disks_created xs + 1) ≡ false
made_free xs row wanted v u n dep orderly =
    made_holder xs row wanted v u n dep (disks_created xs + 1) ∙ next_free xs orderly v

-- ---- a machine that holds nothing

pub agreed_none : (xs : List Entry) (v : ℕ) (ds : List DiskRow) → ((k : ℕ) → is_holder xs v k ≡ false) →
    list_all (λ d. not d.attached && not d.mounted) ds ≡ true → is_agreed xs ds v ≡ true
agreed_none xs v ds none off =
    and_from (list_all (λ d. same_truth (is_holder xs v d.disk) d.attached) ds) _ (each ds off)
    (ap (list_all (is_on ds)) (filter_none (is_holder xs v) (numbers_to (disks_created xs)) none))
  where
    each : (ds : List DiskRow) → list_all (λ d. not d.attached && not d.mounted) ds ≡ true →
        list_all (λ d. same_truth (is_holder xs v d.disk) d.attached) ds ≡ true
    each [] off = refl
    each (d ∷ ds) off =
        let parts : ((not d.attached && not d.mounted) ≡ true)
        × (list_all (λ d. not d.attached && not d.mounted) ds ≡ true) =
        and_parts (not d.attached && not d.mounted) _ off in
        let first : d.attached ≡ false =
        not-true d.attached (and_parts (not d.attached) (not d.mounted) parts.0).0 in
        and_from (same_truth (is_holder xs v d.disk) d.attached) _
        (truth_same (is_holder xs v d.disk) d.attached (none d.disk ∙ sym first)) (each ds parts.1)

-- a machine that was just made
pub new_holds_none : (xs : List Entry) (row : Row) (make : Make) (hint : List ℕ) (n : ℕ) (dep : List ℕ) →
    AreOrderly xs → (k : ℕ) → is_holder (with_call xs row n dep (CreateVm make hint)) (vms_created xs + 1) k ≡ false
new_holds_none xs row make hint n dep orderly k =
    ap (is_held_by (vms_created xs + 1)) ((places-made xs row make hint n dep orderly).holder k)
    ∙ by_holder (holder_of xs k) refl
  where
    by_holder : (o : Option ℕ) → holder_of xs k ≡ o → is_held_by (vms_created xs + 1) o ≡ false
    by_holder None is = refl
    by_holder (Some w) is =
        let low : w ≤ vms_created xs = vm_of_holder xs orderly k w is in
        ne_eqb w (vms_created xs + 1) (λ same. absurd (omega arith))

-- ---- a machine of a row that is tied

-- where each recorded disk is held as it is recorded, a held one is attached
pub on_held : (xs : List Entry) (v : ℕ) (ds : List DiskRow) →
    list_all (λ d. same_truth (is_holder xs v d.disk) d.attached) ds ≡ true → (k : ℕ) → is_holder xs v k ≡ true →
    is_recorded ds k ≡ true → is_on ds k ≡ true
on_held xs v [] all k held recorded = absurd cc
on_held xs v (d ∷ ds) all k held recorded =
    let parts : (same_truth (is_holder xs v d.disk) d.attached ≡ true)
    × (list_all (λ d. same_truth (is_holder xs v d.disk) d.attached) ds ≡ true) =
    and_parts (same_truth (is_holder xs v d.disk) d.attached) _ all in
    by_number (d.disk == k) refl parts.0 (on_held xs v ds parts.1 k held) recorded
  where
    by_number : (b : Bool) → (d.disk == k) ≡ b → same_truth (is_holder xs v d.disk) d.attached ≡ true →
        (is_recorded ds k ≡ true → is_on ds k ≡ true) → (b || is_recorded ds k) ≡ true →
        ((b && d.attached) || is_on ds k) ≡ true
    by_number true same is others recorded =
        let on : d.attached ≡ true =
        sym (truth-same (is_holder xs v d.disk) d.attached is)
        ∙ (ap (is_holder xs v) (eqb-true d.disk k same) ∙ held) in
        ap (λ b. b || is_on ds k) on
    by_number false other is others recorded = others recorded

-- .. so it is enough that what it holds is recorded
pub agreed_of : (xs : List Entry) (v : ℕ) (ds : List DiskRow) →
    list_all (λ d. same_truth (is_holder xs v d.disk) d.attached) ds ≡ true →
    list_all (is_recorded ds) (attached_to xs v) ≡ true → is_agreed xs ds v ≡ true
agreed_of xs v ds all recorded =
    and_from (list_all (λ d. same_truth (is_holder xs v d.disk) d.attached) ds) _ all
    (filter_all (is_holder xs v) (is_holder xs v) (is_recorded ds) (is_on ds) (numbers_to (disks_created xs))
    (λ k held. inr (held, λ is. on_held xs v ds all k held is)) recorded)

pub tied_agreed : (xs : List Entry) (row : Row) (it : Vm) → row.vm ≡ Some it → IsTiedTo xs row →
    is_agreed xs row.disks it.vm ≡ true
tied_agreed xs row it has tied =
    agreed_of xs it.vm row.disks
    (all_from (λ d. same_truth (is_holder xs it.vm d.disk) d.attached) row.disks
    (λ d is. ap (λ b. same_truth b d.attached) (sym (or_false (is_holder xs it.vm d.disk)))
    ∙ (placed-so xs row it has tied d is).held))
    (and_parts (has_no_other_disk xs row it.vm) true
    (sym (ap (λ o. list_all (has_no_other_disk xs row) (number_of o)) has) ∙ tied.others)).0

-- ---- a machine that tells which disks it holds

told_all : (xs : List Entry) (row : Row) (v : ℕ) (ds : List DiskRow) → list_all (is_disk_kept xs row) ds ≡ true →
    list_all (λ d. same_truth (is_holder xs v d.disk) d.attached) (map (attached_by (attached_to xs v)) ds) ≡ true
told_all xs row v [] kept = refl
told_all xs row v (d ∷ ds) kept =
    let parts : (is_disk_kept xs row d ≡ true) × (list_all (is_disk_kept xs row) ds ≡ true) =
    and_parts (is_disk_kept xs row d) _ kept in
    let there : is_disk_there xs d.disk ≡ true = (and_parts (is_disk_there xs d.disk) _ parts.0).0 in
    let within : IsWithin (disks_created xs) d.disk = (made xs).disks d.disk there in
    and_from (same_truth (is_holder xs v d.disk) (list_any (λ n. n == d.disk) (attached_to xs v))) _
    (truth_same (is_holder xs v d.disk) (list_any (λ n. n == d.disk) (attached_to xs v))
    (sym (kept_passes (is_holder xs v) (disks_created xs) d.disk within.first within.last)))
    (told_all xs row v ds parts.1)

told_recorded : (ks : List ℕ) (ds : List DiskRow) (k : ℕ) → is_recorded (map (attached_by ks) ds) k ≡ is_recorded ds k
told_recorded ks [] k = refl
told_recorded ks (d ∷ ds) k = ap (λ b. d.disk == k || b) (told_recorded ks ds k)

pub agreed_told : (xs : List Entry) (row : Row) (v : ℕ) (ds : List DiskRow) →
    list_all (is_disk_kept xs row) ds ≡ true → list_all (is_recorded ds) (attached_to xs v) ≡ true →
    is_agreed xs (map (attached_by (attached_to xs v)) ds) v ≡ true
agreed_told xs row v ds kept recorded =
    agreed_of xs v (map (attached_by (attached_to xs v)) ds) (told_all xs row v ds kept)
    ((λ i. list_all (λ k. told_recorded (attached_to xs v) ds k i) (attached_to xs v)) ∙ recorded)

-- what the machine holds is recorded, where it holds what another change of the disks has attached
changed_recorded : (f : DiskRow → DiskRow) → ((d : DiskRow) → (f d).disk ≡ d.disk) → (ds : List DiskRow) (k : ℕ) →
    is_on (map f ds) k ≡ true → is_recorded ds k ≡ true
changed_recorded f number [] k is = absurd cc
changed_recorded f number (d ∷ ds) k is =
    by_first (changed_recorded f number ds k) (d.disk == k)
    ((λ i. (sym (number d) i == k && (f d).attached) || is_on (map f ds) k) ∙ is)
  where
    by_first : (is_on (map f ds) k ≡ true → is_recorded ds k ≡ true) → (b : Bool) →
        ((b && (f d).attached) || is_on (map f ds) k) ≡ true → (b || is_recorded ds k) ≡ true
    by_first others true is = refl
    by_first others false is = others is

pub all_recorded : (xs : List Entry) (v : ℕ) (f : DiskRow → DiskRow) → ((d : DiskRow) → (f d).disk ≡ d.disk) →
    (ds : List DiskRow) → is_agreed xs (map f ds) v ≡ true → list_all (is_recorded ds) (attached_to xs v) ≡ true
all_recorded xs v f number ds agreed =
    others_more (is_holder xs v) (is_on (map f ds)) (is_recorded ds) (numbers_to (disks_created xs))
    (λ k is. changed_recorded f number ds k is)
    (and_parts (list_all (λ d. same_truth (is_holder xs v d.disk) d.attached) (map f ds))
    (list_all (is_on (map f ds)) (attached_to xs v)) agreed).1
