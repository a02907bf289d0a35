-- A tie where a machine or a disk is made, and where a machine is deleted.
use Rattle.std.proofs.Common.{◌≡◌, ℕ, ◌+◌, ◌≤◌, ◌<◌, Bool, true, false, Option, Some, None, List, [], ◌∷◌, ◌++◌, refl, sym, ◌∙◌, ap, subst, arith, append-nil}
use Rattle.std.specs.Prelude.{◌&&◌, ◌||◌, ◌==◌, nat_eq, not, if◌then◌else◌, filter, is_some}
use Rattle.std.specs.List.{list_all, list_any}
use Rattle.std.specs.Cmp.Lexicographic.{pointwise}
use Rattle.std.specs.Option.{option_eq}
use Rattle.std.proofs.lemmas.Bool.{and_parts, and_from, eq-eqb, ne_eqb, not-true}
use Rattle.bosh_base.specs.Cloud.{disk_creation, disks_created, holder_of, is_disk_mounted, is_disk_there, is_drained, is_holder, is_running, is_vm_there, numbers_to, spec_of, vm_creation, vms_created, when}
use Rattle.bosh_base.specs.ExactParts.{Decides-disk_want, Decides-make}
use Rattle.bosh_base.specs.History.{chosen}
use Rattle.bosh_base.specs.declared.answer.Answer.TheVariants as answers
use Rattle.bosh_base.specs.declared.call.Call.TheVariants.{CreateVm, DeleteVm, CreateDisk}
use Rattle.bosh_base.specs.declared.disk_want.DiskWant.{DiskWant}
use Rattle.bosh_base.specs.declared.entry.Entry.{Entry}
use Rattle.bosh_base.specs.declared.entry.Entry.TheVariants.{Effect}
use Rattle.bosh_base.specs.declared.make.Make.{Make}
use Rattle.bosh_base.specs.declared.owner.Owner.TheVariants.{Instance}
use Rattle.bosh_base.specs.declared.row.DiskRow.{DiskRow}
use Rattle.bosh_base.specs.declared.row.Row.{Row}
use Rattle.bosh_base.specs.declared.row.Vm as vm
use Rattle.laws_effects.proofs.AheadLemmas.{IsBehind, behind, last_holder}
use Rattle.laws_effects.proofs.CreationLemmas.{disk_creation_next, disk_creation_stays, disks-grown, is_disk_there-grown, is_vm_there-grown, vm_creation-grown, vm_creation_next, vm_creation_stays, vms-grown}
use Rattle.laws_effects.proofs.DiskLemmas.{held_by_old, held_by_others, held_where, holder_of-grown}
use Rattle.laws_effects.proofs.FollowLemmas.{IsWithin, made}
use Rattle.laws_effects.specs.DiskStates.{let_go_by}
use Rattle.laws_effects.specs.Orderly.{AreOrderly}
use Rattle.bosh_rows.proofs.SameLemmas as instances
use Rattle.bosh_rows.specs.After.{let_go}
use Rattle.bosh_rows.specs.Same.{same_spec}
use Rattle.bosh_rows.specs.Standing.{same_truth}
use Rattle.bosh_rows.specs.Tied.{has_facts, has_no_other_disk, is_disk_kept, is_disk_placed, is_made_for, number_of, vms_of, was_made, was_provided}
use Rattle.laws_rows.proofs.DiskTieLemmas.{eqb_sym, mounted-after, placed-in}
use Rattle.laws_rows.proofs.FallLemmas.{answered}
use Rattle.laws_rows.proofs.FilterLemmas.{filter_but, filter_more, filter_within, listed_one, none_listed, numbers-more, numbers_within}
use Rattle.laws_rows.proofs.ListLemmas.{IsIn, all_from, all_in}
use Rattle.laws_rows.proofs.NewDiskLemmas.{found_row}
use Rattle.laws_rows.proofs.SteadyLemmas.{IsTiedTo}
use Rattle.laws_rows.proofs.TieLemmas.{KeepsPlaces, StaysMachines, facts-from, facts-of, disks-placed, drained-after, facts-still, is_held_by, keeps-disks, keeps-machines, keeps-places, kept-kept, kept-same, machines-kept, of_row, placed-same, placed_by, plus_none, running-after, spec-after, with_call}
use Rattle.laws_rows.specs.SoundDisks.{is_recorded}

-- ---- a machine is made

-- without a machine no disk is held
loose_disk : (a held mounted here : Bool) →
    (same_truth a held && same_truth false held && same_truth (held && here) mounted) ≡ true →
    (a ≡ false) × ((held ≡ false) × (mounted ≡ false))
loose_disk true false mounted here is = absurd cc
loose_disk a true mounted here is = absurd (grind (arith, is))
loose_disk false false true here is = absurd cc
loose_disk false false false here is = (refl, (refl, refl))

pub no_holder : (o : Option ℕ) → is_some o ≡ false → o ≡ None
no_holder None is = refl
no_holder (Some v) is = absurd cc

-- the machine is there and was made for the instance
abbrev pub mine_in : List Entry → Row → ℕ → Bool
mine_in xs row v = is_vm_there xs v && is_made_for (Instance row.inst) (vm_creation xs v)

pub filter_none : (p : ℕ → Bool) (ks : List ℕ) → ((k : ℕ) → p k ≡ false) → filter p ks ≡ []
filter_none p [] none = refl
filter_none p (k ∷ ks) none =
    ap (λ (b : Bool). if b then k ∷ filter p ks else filter p ks) (none k) ∙ filter_none p ks none

mine_old : (xs : List Entry) (row : Row) (make : Make) (hint : List ℕ) (n : ℕ) (dep : List ℕ) (v : ℕ) →
    v ≤ vms_created xs → mine_in (with_call xs row n dep (CreateVm make hint)) row v ≡ mine_in xs row v
mine_old xs row make hint n dep v low =
    let other : (vms_created xs + 1 == v) ≡ false = ne_eqb (vms_created xs + 1) v (λ same. absurd (omega arith)) in
    let there : is_vm_there (with_call xs row n dep (CreateVm make hint)) v ≡ is_vm_there xs v =
    is_vm_there-grown xs (Effect (of_row row n dep (CreateVm make hint))) v
    ∙ ap (λ b. chosen (when b true) (is_vm_there xs v)) other in
    λ i. there i && is_made_for (Instance row.inst)
    (vm_creation_stays xs (Effect (of_row row n dep (CreateVm make hint))) v low i)

mine_new : (xs : List Entry) (row : Row) (make : Make) (hint : List ℕ) (n : ℕ) (dep : List ℕ) →
    mine_in (with_call xs row n dep (CreateVm make hint)) row (vms_created xs + 1) ≡ true
mine_new xs row make hint n dep =
    let there : is_vm_there (with_call xs row n dep (CreateVm make hint)) (vms_created xs + 1) ≡ true =
    is_vm_there-grown xs (Effect (of_row row n dep (CreateVm make hint))) (vms_created xs + 1)
    ∙ ap (λ b. chosen (when b true) (is_vm_there xs (vms_created xs + 1)))
    (eq-eqb (vms_created xs + 1) (vms_created xs + 1) refl) in
    (λ i. there i && is_made_for (Instance row.inst)
    (vm_creation_next xs (of_row row n dep (CreateVm make hint)) refl i))
    ∙ instances.itself row.inst

listed_made : (xs : List Entry) (row : Row) (make : Make) (hint : List ℕ) (n : ℕ) (dep : List ℕ) →
    vms_of xs (Instance row.inst) ≡ [] →
    vms_of (with_call xs row n dep (CreateVm make hint)) (Instance row.inst) ≡ (vms_created xs + 1) ∷ []
listed_made xs row make hint n dep none =
    (λ i. filter (mine_in (with_call xs row n dep (CreateVm make hint)) row)
    (numbers_to (vms-grown xs (Effect (of_row row n dep (CreateVm make hint))) i)))
    ∙ ap (filter (mine_in (with_call xs row n dep (CreateVm make hint)) row)) (numbers-more (vms_created xs))
    ∙ filter_more (mine_in (with_call xs row n dep (CreateVm make hint)) row) (numbers_to (vms_created xs))
    (vms_created xs + 1)
    ∙ (λ i. (filter_within (mine_in xs row) (mine_in (with_call xs row n dep (CreateVm make hint)) row) (vms_created xs)
    (numbers_to (vms_created xs)) (numbers_within (vms_created xs) (vms_created xs) (omega arith))
    (mine_old xs row make hint n dep) ∙ none) i
    ++ (if mine_new xs row make hint n dep i then (vms_created xs + 1) ∷ [] else []))

held_by_other : (there : ℕ → Bool) (n v : ℕ) (last : Option ℕ) → ((w : ℕ) → last ≡ Some w → w ≤ n) → n < v →
    is_held_by v (held_where there last) ≡ false
held_by_other there n v None old later = refl
held_by_other there n v (Some w) old later = by_truth (there w)
  where
    by_truth : (b : Bool) → is_held_by v (when b w) ≡ false
    by_truth true = let low : w ≤ n = old w refl in ne_eqb w v (λ same. absurd (omega arith))
    by_truth false = refl

pub places-made : (xs : List Entry) (row : Row) (make : Make) (hint : List ℕ) (n : ℕ) (dep : List ℕ) →
    AreOrderly xs → KeepsPlaces xs (with_call xs row n dep (CreateVm make hint))
places-made xs row make hint n dep orderly = record {
  holder = λ d.
      holder_of-grown xs (Effect (of_row row n dep (CreateVm make hint))) d
      ∙ held_by_old (is_vm_there xs) (vms_created xs) (last_holder xs d) ((behind xs orderly).holder d);
  mounted = λ d. mounted-after xs row n dep (CreateVm make hint) d;
}

pub placed_loose : (ys : List Entry) (vms : List ℕ) (d : DiskRow) → holder_of ys d.disk ≡ None → d.attached ≡ false →
    d.mounted ≡ false → is_disk_placed ys vms d ≡ true
placed_loose ys vms d none held mounted =
    (λ i. placed_by (none i) (is_disk_mounted ys d.disk) vms (record d { attached = held i; mounted = mounted i }))
    ∙ and_from (same_truth (list_any (λ v. false) vms) false) true (ap (λ b. same_truth b false) (any_none vms)) refl
  where
    any_none : (ks : List ℕ) → list_any (λ v. false) ks ≡ false
    any_none [] = refl
    any_none (k ∷ ks) = any_none ks

-- without a machine the disks are on none
pub loose_in : (xs : List Entry) (row : Row) → IsTiedTo xs row → row.vm ≡ None → (d : DiskRow) → IsIn d row.disks →
    (holder_of xs d.disk ≡ None) × ((d.attached ≡ false) × (d.mounted ≡ false))
loose_in xs row tied none d is =
    let it : (is_some (holder_of xs d.disk) ≡ false) × ((d.attached ≡ false) × (d.mounted ≡ false)) =
    loose_disk (is_some (holder_of xs d.disk)) d.attached d.mounted (is_disk_mounted xs d.disk)
    (subst (λ (v : Option vm.Vm). is_disk_placed xs (number_of v) d ≡ true) none
    (all_in (is_disk_placed xs (number_of row.vm)) d row.disks tied.placed is)) in
    (no_holder (holder_of xs d.disk) it.0, it.1)

not_some : {A : Type 0} (o : Option A) → not (is_some o) ≡ true → o ≡ None
not_some None is = refl
not_some (Some a) is = absurd cc

pub tied-create_vm : (xs : List Entry) (row : Row) (make : Make) (hint : List ℕ) (n : ℕ) (dep : List ℕ) →
    AreOrderly xs → IsTiedTo xs row → row.vm ≡ None →
    IsTiedTo (with_call xs row n dep (CreateVm make hint))
    (answered n (CreateVm make hint) (answers.Cid (vms_created xs + 1)) row)
tied-create_vm xs row make hint n dep orderly tied none =
    let nobody : vms_of xs (Instance row.inst) ≡ [] =
    none_listed (vms_of xs (Instance row.inst))
    (sym (ap (λ it. pointwise nat_eq (vms_of xs (Instance row.inst)) (number_of it)) none) ∙ tied.machines) in
    let idle : (not (is_some row.spec) && (not row.running && not row.drained)) ≡ true =
    subst (λ (it : Option vm.Vm). has_facts xs row it ≡ true) none tied.facts in
    let no_spec : (not (is_some row.spec) ≡ true) × ((not row.running && not row.drained) ≡ true) =
    and_parts (not (is_some row.spec)) (not row.running && not row.drained) idle in
    let no_run : (not row.running ≡ true) × (not row.drained ≡ true) =
    and_parts (not row.running) (not row.drained) no_spec.1 in
    let ahead : IsBehind xs = behind xs orderly in
    let later : vms_created xs < vms_created xs + 1 = omega arith in record {
      machines =
          ap (λ all. pointwise nat_eq all ((vms_created xs + 1) ∷ [])) (listed_made xs row make hint n dep nobody)
          ∙ and_from (vms_created xs + 1 == vms_created xs + 1) true
          (eq-eqb (vms_created xs + 1) (vms_created xs + 1) refl) refl;
      facts =
          facts-from (with_call xs row n dep (CreateVm make hint))
          (answered n (CreateVm make hint) (answers.Cid (vms_created xs + 1)) row)
          (record { vm = vms_created xs + 1; agent = n }) refl (record {
            made =
                ap (was_made (Instance row.inst) n (Some make))
                (vm_creation_next xs (of_row row n dep (CreateVm make hint)) refl)
                ∙ and_from _ _ (instances.itself row.inst)
                (and_from (n == n) _ (eq-eqb n n refl) ((Decides-make make make).1 refl));
            spec =
                (λ i. option_eq same_spec
                ((spec_told ∙ ahead.spec (vms_created xs + 1) later) i) (not_some row.spec no_spec.0 i));
            runs =
                (λ i. same_truth ((runs_told ∙ ahead.running (vms_created xs + 1) later) i)
                (not-true row.running no_run.0 i));
            drains =
                (λ i. same_truth ((drains_told ∙ ahead.drained (vms_created xs + 1) later) i)
                (not-true row.drained no_run.1 i));
          });
      kept =
          kept-same xs (with_call xs row n dep (CreateVm make hint)) row
          (answered n (CreateVm make hint) (answers.Cid (vms_created xs + 1)) row) refl
          (keeps-disks xs row n dep (CreateVm make hint) (record { creates = refl; stays = λ d m. refl })) row.disks
          tied.kept;
      placed =
          all_from (is_disk_placed (with_call xs row n dep (CreateVm make hint)) ((vms_created xs + 1) ∷ [])) row.disks
          (λ d is.
          let loose : (holder_of xs d.disk ≡ None) × ((d.attached ≡ false) × (d.mounted ≡ false)) =
          loose_in xs row tied none d is in
          placed_loose (with_call xs row n dep (CreateVm make hint)) ((vms_created xs + 1) ∷ []) d
          ((places-made xs row make hint n dep orderly).holder d.disk ∙ loose.0) loose.1.0 loose.1.1);
      others =
          and_from (has_no_other_disk (with_call xs row n dep (CreateVm make hint))
          (answered n (CreateVm make hint) (answers.Cid (vms_created xs + 1)) row) (vms_created xs + 1)) true
          (ap (list_all (is_recorded row.disks))
          (filter_none (is_holder (with_call xs row n dep (CreateVm make hint)) (vms_created xs + 1))
          (numbers_to (disks_created (with_call xs row n dep (CreateVm make hint))))
          (λ k. ap (is_held_by (vms_created xs + 1)) ((places-made xs row make hint n dep orderly).holder k)
          ∙ held_by_other (is_vm_there xs) (vms_created xs) (vms_created xs + 1) (last_holder xs k)
          ((behind xs orderly).holder k) (omega arith))))
          refl;
    }
  where
    spec_told : spec_of (with_call xs row n dep (CreateVm make hint)) (vms_created xs + 1)
        ≡ spec_of xs (vms_created xs + 1)
    spec_told = spec-after xs row n dep (CreateVm make hint) (vms_created xs + 1)

    runs_told : is_running (with_call xs row n dep (CreateVm make hint)) (vms_created xs + 1)
        ≡ is_running xs (vms_created xs + 1)
    runs_told = running-after xs row n dep (CreateVm make hint) (vms_created xs + 1)

    drains_told : is_drained (with_call xs row n dep (CreateVm make hint)) (vms_created xs + 1)
        ≡ is_drained xs (vms_created xs + 1)
    drains_told = drained-after xs row n dep (CreateVm make hint) (vms_created xs + 1)

-- ---- a machine is deleted

-- the machine alone that the row has may hold its disks
holder_mine : (holder : Option ℕ) (held mounted here : Bool) (v : ℕ) →
    (same_truth (is_some holder) held && same_truth (is_held_by v holder || false) held
    && same_truth (held && here) mounted) ≡ true →
    let_go_by v holder ≡ None
holder_mine None held mounted here v placed = refl
holder_mine (Some w) held mounted here v placed = by_truth (w == v) refl held placed
  where
    by_truth : (b : Bool) → (w == v) ≡ b → (held : Bool) →
        (same_truth true held && same_truth (b || false) held && same_truth (held && here) mounted) ≡ true →
        let_go_by v (Some w) ≡ None
    by_truth true same held placed = ap (λ b. if b then None else Some w) (eqb_sym w v true same)
    by_truth false other true placed = absurd cc
    by_truth false other false placed = absurd cc

pub tied-delete_vm : (xs : List Entry) (row : Row) (it : vm.Vm) (n : ℕ) (dep : List ℕ) → IsTiedTo xs row →
    row.vm ≡ Some it → IsTiedTo (with_call xs row n dep (DeleteVm it.vm)) (answered n (DeleteVm it.vm) answers.Done row)
tied-delete_vm xs row it n dep tied has = record {
  machines = ap (λ all. pointwise nat_eq all []) nobody;
  facts = refl;
  kept =
      kept-kept xs (with_call xs row n dep (DeleteVm it.vm)) row (answered n (DeleteVm it.vm) answers.Done row) let_go
      (record { number = λ d. refl; tag = λ d. refl; want = λ d. refl }) refl
      (keeps-disks xs row n dep (DeleteVm it.vm) (record { creates = refl; stays = λ d m. refl })) row.disks
      tied.kept;
  placed =
      disks-placed (with_call xs row n dep (DeleteVm it.vm)) [] let_go row.disks
      (λ d is.
      placed_loose (with_call xs row n dep (DeleteVm it.vm)) [] (let_go d)
      (holder_of-grown xs (Effect (of_row row n dep (DeleteVm it.vm))) d.disk
      ∙ held_by_others (is_vm_there xs) it.vm (last_holder xs d.disk)
      ∙ holder_mine (holder_of xs d.disk) d.attached d.mounted (is_disk_mounted xs d.disk) it.vm
      (placed-in xs row it tied has d is)) refl refl);
  others = refl;
}
  where
    by_truth : (v : ℕ) (b here : Bool) → chosen (when b false) here ≡ true → here ≡ true
    by_truth v true here is = absurd cc
    by_truth v false here is = is

    less : (v : ℕ) → mine_in (with_call xs row n dep (DeleteVm it.vm)) row v ≡ true → mine_in xs row v ≡ true
    less v is =
        let parts : (is_vm_there (with_call xs row n dep (DeleteVm it.vm)) v ≡ true) × _ =
        and_parts (is_vm_there (with_call xs row n dep (DeleteVm it.vm)) v)
        (is_made_for (Instance row.inst) (vm_creation (with_call xs row n dep (DeleteVm it.vm)) v)) is in
        and_from (is_vm_there xs v) (is_made_for (Instance row.inst) (vm_creation xs v))
        (by_truth v (it.vm == v) (is_vm_there xs v)
        (sym (is_vm_there-grown xs (Effect (of_row row n dep (DeleteVm it.vm))) v) ∙ parts.0))
        (sym (ap (is_made_for (Instance row.inst)) (vm_creation-grown xs (Effect (of_row row n dep (DeleteVm it.vm)))
        v))
        ∙ parts.1)

    gone : mine_in (with_call xs row n dep (DeleteVm it.vm)) row it.vm ≡ false
    gone =
        ap (λ here. here && is_made_for (Instance row.inst)
        (vm_creation (with_call xs row n dep (DeleteVm it.vm)) it.vm))
        (is_vm_there-grown xs (Effect (of_row row n dep (DeleteVm it.vm))) it.vm
        ∙ ap (λ b. chosen (when b false) (is_vm_there xs it.vm)) (eq-eqb it.vm it.vm refl))

    nobody : vms_of (with_call xs row n dep (DeleteVm it.vm)) (Instance row.inst) ≡ []
    nobody =
        (λ i. filter (mine_in (with_call xs row n dep (DeleteVm it.vm)) row)
        (numbers_to ((vms-grown xs (Effect (of_row row n dep (DeleteVm it.vm))) ∙ plus_none (vms_created xs)) i)))
        ∙ filter_but (mine_in xs row) (mine_in (with_call xs row n dep (DeleteVm it.vm)) row) it.vm
        (numbers_to (vms_created xs))
        (listed_one (mine_in xs row) it.vm (numbers_to (vms_created xs))
        (sym (ap (λ v. pointwise nat_eq (vms_of xs (Instance row.inst)) (number_of v)) has) ∙ tied.machines))
        less gone

-- ---- a disk is made

pub all_more : (p : DiskRow → Bool) (xs : List DiskRow) (new : DiskRow) → list_all p xs ≡ true → p new ≡ true →
    list_all p (xs ++ new ∷ []) ≡ true
all_more p [] new all is = and_from (p new) true is refl
all_more p (x ∷ xs) new all is =
    let parts : (p x ≡ true) × (list_all p xs ≡ true) = and_parts (p x) (list_all p xs) all in
    and_from (p x) (list_all p (xs ++ new ∷ [])) parts.0 (all_more p xs new parts.1 is)

pub recorded_more : (xs : List DiskRow) (new : DiskRow) (k : ℕ) → is_recorded xs k ≡ true →
    is_recorded (xs ++ new ∷ []) k ≡ true
recorded_more [] new k is = absurd cc
recorded_more (x ∷ xs) new k is = by_first (recorded_more xs new k) (x.disk == k) is
  where
    by_first : (is_recorded xs k ≡ true → is_recorded (xs ++ new ∷ []) k ≡ true) → (b : Bool) →
        (b || is_recorded xs k) ≡ true → (b || is_recorded (xs ++ new ∷ []) k) ≡ true
    by_first others true is = refl
    by_first others false is = others is

-- the disk is there after the creation of another
pub kept_made : (xs : List Entry) (row new : Row) (wanted : DiskWant) (v n : ℕ) (dep : List ℕ) →
    new.inst ≡ row.inst → (d : DiskRow) → is_disk_kept xs row d ≡ true →
    is_disk_kept (with_call xs row n dep (CreateDisk wanted v)) new d ≡ true
kept_made xs row new wanted v n dep inst d kept =
    let parts : (is_disk_there xs d.disk ≡ true)
    × (was_provided (Instance row.inst) d.tag d.want (disk_creation xs d.disk) ≡ true) =
    and_parts (is_disk_there xs d.disk) (was_provided (Instance row.inst) d.tag d.want (disk_creation xs d.disk)) kept
    in
    let within : IsWithin (disks_created xs) d.disk = (made xs).disks d.disk parts.0 in
    and_from (is_disk_there (with_call xs row n dep (CreateDisk wanted v)) d.disk) _
    (is_disk_there-grown xs (Effect (of_row row n dep (CreateDisk wanted v))) d.disk
    ∙ by_truth (disks_created xs + 1 == d.disk) (is_disk_there xs d.disk) parts.0)
    ((λ i. was_provided (Instance (inst i)) d.tag d.want
    (disk_creation_stays xs (Effect (of_row row n dep (CreateDisk wanted v))) d.disk within.last i)) ∙ parts.1)
  where
    by_truth : (b there : Bool) → there ≡ true → chosen (when b true) there ≡ true
    by_truth true there is = refl
    by_truth false there is = is

pub new_kept : (xs : List Entry) (row new : Row) (wanted : DiskWant) (v n : ℕ) (dep : List ℕ) (xs_of : List DiskRow) →
    new.inst ≡ row.inst →
    is_disk_kept (with_call xs row n dep (CreateDisk wanted v)) new (found_row (disks_created xs + 1) n wanted xs_of)
    ≡ true
new_kept xs row new wanted v n dep xs_of inst =
    and_from (is_disk_there (with_call xs row n dep (CreateDisk wanted v)) (disks_created xs + 1)) _
    (is_disk_there-grown xs (Effect (of_row row n dep (CreateDisk wanted v))) (disks_created xs + 1)
    ∙ ap (λ b. chosen (when b true) (is_disk_there xs (disks_created xs + 1)))
    (eq-eqb (disks_created xs + 1) (disks_created xs + 1) refl))
    ((λ i. was_provided (Instance (inst i)) n wanted
    (disk_creation_next xs (of_row row n dep (CreateDisk wanted v)) refl i))
    ∙ and_from _ _ (instances.itself row.inst)
    (and_from (n == n) _ (eq-eqb n n refl) ((Decides-disk_want wanted wanted).1 refl)))

pub others_more : (q : ℕ → Bool) (old new : ℕ → Bool) (ks : List ℕ) → ((k : ℕ) → old k ≡ true → new k ≡ true) →
    list_all old (filter q ks) ≡ true → list_all new (filter q ks) ≡ true
others_more q old new [] more all = refl
others_more q old new (k ∷ ks) more all = by_test (λ all. others_more q old new ks more all) (q k) all
  where
    by_test : (list_all old (filter q ks) ≡ true → list_all new (filter q ks) ≡ true) → (b : Bool) →
        list_all old (if b then k ∷ filter q ks else filter q ks) ≡ true →
        list_all new (if b then k ∷ filter q ks else filter q ks) ≡ true
    by_test others true all =
        let parts : (old k ≡ true) × (list_all old (filter q ks) ≡ true) =
        and_parts (old k) (list_all old (filter q ks)) all in
        and_from (new k) (list_all new (filter q ks)) (more k parts.0) (others parts.1)
    by_test others false all = others all

pub tied-create_disk : (xs : List Entry) (row : Row) (it : vm.Vm) (wanted : DiskWant) (n : ℕ) (dep : List ℕ) →
    AreOrderly xs → IsTiedTo xs row → row.vm ≡ Some it →
    IsTiedTo (with_call xs row n dep (CreateDisk wanted it.vm))
    (answered n (CreateDisk wanted it.vm) (answers.Cid (disks_created xs + 1)) row)
tied-create_disk xs row it wanted n dep orderly tied has = record {
  machines =
      machines-kept xs (with_call xs row n dep (CreateDisk wanted it.vm)) row.inst row.vm
      (keeps-machines xs row n dep (CreateDisk wanted it.vm) machines) tied.machines;
  facts =
      facts-from (with_call xs row n dep (CreateDisk wanted it.vm))
      (answered n (CreateDisk wanted it.vm) (answers.Cid (disks_created xs + 1)) row) it has
      (facts-still xs row (answered n (CreateDisk wanted it.vm) (answers.Cid (disks_created xs + 1)) row) n dep
      (CreateDisk wanted it.vm) it machines refl refl refl refl refl refl refl refl
      (facts-of xs row it has tied.facts));
  kept =
      all_more (is_disk_kept (with_call xs row n dep (CreateDisk wanted it.vm))
      (answered n (CreateDisk wanted it.vm) (answers.Cid (disks_created xs + 1)) row)) row.disks
      (found_row (disks_created xs + 1) n wanted row.disks)
      (all_from (is_disk_kept (with_call xs row n dep (CreateDisk wanted it.vm))
      (answered n (CreateDisk wanted it.vm) (answers.Cid (disks_created xs + 1)) row)) row.disks
      (λ d is. kept_made xs row (answered n (CreateDisk wanted it.vm) (answers.Cid (disks_created xs + 1)) row) wanted
      it.vm n dep refl d (all_in (is_disk_kept xs row) d row.disks tied.kept is)))
      (new_kept xs row (answered n (CreateDisk wanted it.vm) (answers.Cid (disks_created xs + 1)) row) wanted it.vm n
      dep row.disks refl);
  placed =
      all_more (is_disk_placed (with_call xs row n dep (CreateDisk wanted it.vm)) (number_of row.vm)) row.disks
      (found_row (disks_created xs + 1) n wanted row.disks)
      (placed-same xs (with_call xs row n dep (CreateDisk wanted it.vm)) (number_of row.vm) places row.disks
      tied.placed)
      (placed_loose (with_call xs row n dep (CreateDisk wanted it.vm)) (number_of row.vm)
      (found_row (disks_created xs + 1) n wanted row.disks) loose refl refl);
  others =
      ap (λ v. list_all (has_no_other_disk (with_call xs row n dep (CreateDisk wanted it.vm))
      (answered n (CreateDisk wanted it.vm) (answers.Cid (disks_created xs + 1)) row)) (number_of v)) has
      ∙ and_from (has_no_other_disk (with_call xs row n dep (CreateDisk wanted it.vm))
      (answered n (CreateDisk wanted it.vm) (answers.Cid (disks_created xs + 1)) row) it.vm) true
      ((λ i. list_all (is_recorded (row.disks ++ found_row (disks_created xs + 1) n wanted row.disks ∷ []))
      (filter (λ k. is_held_by it.vm (holds k i))
      (numbers_to (disks-grown xs (Effect (of_row row n dep (CreateDisk wanted it.vm))) i))))
      ∙ (λ i. list_all (is_recorded (row.disks ++ found_row (disks_created xs + 1) n wanted row.disks ∷ []))
      (filter (is_holder xs it.vm) (numbers-more (disks_created xs) i)))
      ∙ ap (list_all (is_recorded (row.disks ++ found_row (disks_created xs + 1) n wanted row.disks ∷ [])))
      (filter_more (is_holder xs it.vm) (numbers_to (disks_created xs)) (disks_created xs + 1)
      ∙ (λ i. filter (is_holder xs it.vm) (numbers_to (disks_created xs))
      ++ (if is_held_by it.vm (nobody i) then (disks_created xs + 1) ∷ [] else []))
      ∙ append-nil (filter (is_holder xs it.vm) (numbers_to (disks_created xs))))
      ∙ others_more (is_holder xs it.vm) (is_recorded row.disks)
      (is_recorded (row.disks ++ found_row (disks_created xs + 1) n wanted row.disks ∷ []))
      (numbers_to (disks_created xs))
      (recorded_more row.disks (found_row (disks_created xs + 1) n wanted row.disks))
      (and_parts (has_no_other_disk xs row it.vm) true
      (sym (ap (λ v. list_all (has_no_other_disk xs row) (number_of v)) has) ∙ tied.others)).0) refl;
}
  where
    machines : StaysMachines (CreateDisk wanted it.vm)
    machines = record { creates = refl; stays = λ v m. refl }

    places : KeepsPlaces xs (with_call xs row n dep (CreateDisk wanted it.vm))
    places =
        keeps-places xs row n dep (CreateDisk wanted it.vm) machines
        (record { attached = λ d. refl; mounts = λ d. refl })

    holds : (k : ℕ) → holder_of (with_call xs row n dep (CreateDisk wanted it.vm)) k ≡ holder_of xs k
    holds k =
        (keeps-places xs row n dep (CreateDisk wanted it.vm) machines
        (record { attached = λ d. refl; mounts = λ d. refl })).holder k

    nobody : holder_of xs (disks_created xs + 1) ≡ None
    nobody = ap (held_where (is_vm_there xs)) ((behind xs orderly).held (disks_created xs + 1) (omega arith))

    loose : holder_of (with_call xs row n dep (CreateDisk wanted it.vm)) (disks_created xs + 1) ≡ None
    loose =
        (keeps-places xs row n dep (CreateDisk wanted it.vm) machines
        (record { attached = λ d. refl; mounts = λ d. refl })).holder (disks_created xs + 1) ∙ nobody
