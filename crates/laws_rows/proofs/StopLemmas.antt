-- When a running machine has to stop, and that nothing has to stop where nothing is to be done.
use Rattle.std.proofs.Common.{◌≡◌, ℕ, ◌+◌, ◌≤◌, Bool, true, false, Option, Some, None, List, [], ◌∷◌, refl, sym, ◌∙◌, ap, inl, inr, arith}
use Rattle.std.specs.Prelude.{◌⊎◌, ◌&&◌, ◌||◌, not, if◌then◌else◌, count_by}
use Rattle.std.specs.List.{list_all, list_any}
use Rattle.std.proofs.lemmas.Bool.{and_parts, not-true, or_left, or_right, leb-true}
use Rattle.std.proofs.lemmas.List.Sums.{sum_by-cons}
use Rattle.bosh_base.specs.Cloud.{when}
use Rattle.bosh_base.specs.declared.disk_want.DiskWant.{DiskWant}
use Rattle.bosh_base.specs.declared.goal.GoalRow.{GoalRow}
use Rattle.bosh_base.specs.declared.method.Method.TheVariants.{AttachDisk, DetachDisk, MigrateDisk, MountDisk, UnmountDisk}
use Rattle.bosh_base.specs.declared.row.DiskRow.{DiskRow}
use Rattle.bosh_base.specs.declared.row.Row.{Row}
use Rattle.bosh_base.specs.declared.row.Vm as vm
use Rattle.bosh_rows.specs.Disks.{active, coming, is_active, is_new, is_right, is_running, is_spare, is_spare_beside, least, meets}
use Rattle.bosh_rows.specs.NextStep.{disk_step, first_of, has_to_stop, is_disk_settled, is_in_place, on, providing, replacing, spec_differs, with_disk}
use Rattle.laws_rows.proofs.ListLemmas.{IsFound, IsIn, active_found, all_from, all_in, least_none}
use Rattle.laws_rows.proofs.StepCases.{IsCleared, is_spare_attached, is_spare_mounted, least_of}
use Rattle.laws_rows.proofs.WorkLemmas.{spare_beside_none}
use Rattle.laws_rows.specs.SoundDisks.{has_one_active}

-- ---- the only active disk

pub counted : (x : DiskRow) (xs : List DiskRow) →
    count_by is_active (x ∷ xs) ≡ (if is_active x then 1 else 0) + count_by is_active xs
counted x xs = sum_by-cons (λ it. if is_active it then 1 else 0) x xs

none_active : (xs : List DiskRow) → count_by is_active xs ≤ 0 → (d : DiskRow) → IsIn d xs → is_active d ≡ true → ⊥
none_active [] none d is holds = is
none_active (x ∷ xs) none d (inl same) holds =
    let more : count_by is_active (x ∷ xs) ≡ (if is_active x then 1 else 0) + count_by is_active xs = counted x xs in
    let one : ◌≡◌ {A = ℕ} (if is_active x then 1 else 0) 1 =
    ap (λ (b : Bool). if◌then◌else◌ {A = ℕ} b 1 0) (ap is_active same ∙ holds) in
    absurd (omega arith)
none_active (x ∷ xs) none d (inr is) holds =
    let more : count_by is_active (x ∷ xs) ≡ (if is_active x then 1 else 0) + count_by is_active xs = counted x xs in
    none_active xs (omega arith) d is holds

only_counted : (xs : List DiskRow) → count_by is_active xs ≤ 1 → (a d : DiskRow) → active xs ≡ Some a → IsIn d xs →
    is_active d ≡ true → d ≡ a
only_counted [] one a d found is holds = absurd is
only_counted (x ∷ xs) one a d found is holds =
    by_role (λ one found is. only_counted xs one a d found is holds) (is_active x) refl found is
  where
    more : count_by is_active (x ∷ xs) ≡ (if is_active x then 1 else 0) + count_by is_active xs
    more = counted x xs

    by_role : (count_by is_active xs ≤ 1 → active xs ≡ Some a → IsIn d xs → d ≡ a) → (b : Bool) → is_active x ≡ b →
        (if b then Some x else active xs) ≡ Some a → ((x ≡ d) ⊎ IsIn d xs) → d ≡ a
    by_role others true role found (inl same) = let first : x ≡ a = cc in sym same ∙ first
    by_role others true role found (inr is) =
        let first : ◌≡◌ {A = ℕ} (if is_active x then 1 else 0) 1 =
        ap (λ (b : Bool). if◌then◌else◌ {A = ℕ} b 1 0) role in
        absurd (none_active xs (omega (arith, more, first, one)) d is holds)
    by_role others false role found (inl same) =
        absurd (let two : is_active x ≡ true = ap is_active same ∙ holds in cc)
    by_role others false role found (inr is) =
        let first : ◌≡◌ {A = ℕ} (if is_active x then 1 else 0) 0 =
        ap (λ (b : Bool). if◌then◌else◌ {A = ℕ} b 1 0) role in
        others (omega (arith, more, first, one)) found is

pub only_active : (xs : List DiskRow) → has_one_active xs ≡ true → (a d : DiskRow) → active xs ≡ Some a →
    IsIn d xs → is_active d ≡ true → d ≡ a
only_active xs one a d found is holds = only_counted xs (leb-true (count_by is_active xs) 1 one) a d found is holds

-- ---- what has to stop

pub stops_for_spec : (w : GoalRow) (row : Row) → spec_differs w row ≡ true → has_to_stop w row ≡ true
stops_for_spec w row is = or_left (spec_differs w row) _ is

pub stops_for_disk : (w : GoalRow) (row : Row) → is_disk_settled w.disk row.disks ≡ false → has_to_stop w row ≡ true
stops_for_disk w row is =
    or_right (spec_differs w row) _
    (or_right (not (is_running w.state)) _ (or_left (not (is_disk_settled w.disk row.disks)) _ (ap not is)))

pub stops_for_spare : (w : GoalRow) (row : Row) → list_any (is_spare_attached w row) row.disks ≡ true →
    has_to_stop w row ≡ true
stops_for_spare w row is =
    or_right (spec_differs w row) _
    (or_right (not (is_running w.state)) _
    (or_right (not (is_disk_settled w.disk row.disks)) _ (or_left (list_any (is_spare_attached w row) row.disks) _ is)))

pub stops_for_mounted : (w : GoalRow) (row : Row) → list_any (λ d. not (is_active d) && d.mounted) row.disks ≡ true →
    has_to_stop w row ≡ true
stops_for_mounted w row is =
    or_right (spec_differs w row) _
    (or_right (not (is_running w.state)) _
    (or_right (not (is_disk_settled w.disk row.disks)) _
    (or_right (list_any (is_spare_attached w row) row.disks) _ is)))

-- a machine rests where it has to stop and nothing pauses it
pub rests_where : (w : GoalRow) (row : Row) → (row.running && has_to_stop w row) ≡ false → has_to_stop w row ≡ true →
    row.running ≡ false
rests_where w row rests stops = by_truth row.running (sym (ap (λ b. row.running && b) stops) ∙ rests)
  where
    by_truth : (b : Bool) → (b && true) ≡ false → b ≡ false
    by_truth true is = is
    by_truth false is = refl

-- ---- where no step is left for the disks they are settled

pub record IsSettled (w : GoalRow) (row : Row) : Type 0 where
  pub settled : is_disk_settled w.disk row.disks ≡ true
  pub alone : coming w.disk row.disks ≡ None

pub settled_then : (w : GoalRow) (row : Row) → disk_step w row w.disk ≡ None → IsSettled w row
settled_then w row none =
    let it : (is_disk_settled w.disk row.disks ≡ true) × (coming w.disk row.disks ≡ None) = by_want w.disk none in
    record { settled = it.0; alone = it.1 }
  where
    by_found : (m a : Option DiskRow) → least_of (λ d. is_active d && d.attached) row ≡ a →
        first_of (on UnmountDisk m ∷ on DetachDisk a ∷ []) ≡ None →
        least_of (λ d. is_active d && d.attached) row ≡ None
    by_found (Some d) a is none = absurd cc
    by_found None (Some d) is none = absurd cc
    by_found None None is none = is

    unattached : (a : Option DiskRow) → active row.disks ≡ a →
        list_all (λ d. not (is_active d && d.attached)) row.disks ≡ true → meets (λ d. d.attached) a ≡ false
    unattached None is all = refl
    unattached (Some d) is all =
        let it : IsFound is_active d row.disks = active_found d row.disks is in
        let other : not (is_active d && d.attached) ≡ true =
        all_in (λ d. not (is_active d && d.attached)) d row.disks all it.is_in in
        sym (ap (λ b. b && d.attached) it.meets) ∙ not-true (is_active d && d.attached) other

    by_place : (old : DiskRow) (wanted : DiskWant) (attached mounted right : Bool) → active row.disks ≡ Some old →
        old.attached ≡ attached → old.mounted ≡ mounted → is_right wanted old ≡ right →
        first_of (first_of (when (not attached) (with_disk AttachDisk old)
        ∷ when (not mounted) (with_disk MountDisk old) ∷ [])
        ∷ (if right then None else replacing (coming (Some wanted) row.disks)) ∷ [])
        ≡ None →
        (meets (is_in_place wanted) (active row.disks) ≡ true) × (coming (Some wanted) row.disks ≡ None)
    by_place old wanted false mounted right is a m r none = absurd cc
    by_place old wanted true false right is a m r none = absurd cc
    by_place old wanted true true true is a m r none = (
      ap (meets (is_in_place wanted)) is ∙ (λ i. r i && (a i && m i)),
      ap (λ (b : Bool). if b then None else least (λ d. is_new d && is_right wanted d) row.disks)
          (ap (meets (is_right wanted)) is ∙ r),
    )
    by_place old wanted true true false is a m r none = by_coming (coming (Some wanted) row.disks) none
      where
        placed : (d : DiskRow) (attached mounted : Bool) →
            first_of (first_of (first_of (when (not attached) (with_disk AttachDisk d)
            ∷ when (not mounted) (with_disk MountDisk d) ∷ []) ∷ Some (with_disk MigrateDisk d) ∷ []) ∷ []) ≡ None → ⊥
        placed d false mounted none = cc
        placed d true false none = cc
        placed d true true none = cc

        by_coming : (new : Option DiskRow) → first_of (replacing new ∷ []) ≡ None →
            (meets (is_in_place wanted) (active row.disks) ≡ true) × (coming (Some wanted) row.disks ≡ None)
        by_coming None none = absurd cc
        by_coming (Some new) none = absurd (placed new new.attached new.mounted none)

    by_active : (wanted : DiskWant) (a : Option DiskRow) → active row.disks ≡ a →
        providing wanted row.disks a ≡ None →
        (meets (is_in_place wanted) (active row.disks) ≡ true) × (coming (Some wanted) row.disks ≡ None)
    by_active wanted None is none = absurd cc
    by_active wanted (Some old) is none =
        by_place old wanted old.attached old.mounted (is_right wanted old) is refl refl refl none

    by_want : (want : Option DiskWant) → disk_step w row want ≡ None →
        (is_disk_settled want row.disks ≡ true) × (coming want row.disks ≡ None)
    by_want (Some wanted) none = by_active wanted (active row.disks) refl none
    by_want None none = (
      ap not
          (unattached (active row.disks) refl
          (least_none (λ d. is_active d && d.attached) row.disks
          (by_found (least_of (λ d. is_active d && d.mounted) row) (least_of (λ d. is_active d && d.attached) row) refl
          none))),
      refl,
    )

none_any : (p : DiskRow → Bool) (xs : List DiskRow) → list_all (λ d. not (p d)) xs ≡ true → list_any p xs ≡ false
none_any p [] all = refl
none_any p (x ∷ xs) all =
    let parts : (not (p x) ≡ true) × (list_all (λ d. not (p d)) xs ≡ true) =
    and_parts (not (p x)) (list_all (λ d. not (p d)) xs) all in
    (λ i. not-true (p x) parts.0 i || none_any p xs parts.1 i)

pub nothing_stops : (w : GoalRow) (row : Row) (it : vm.Vm) → IsCleared w row it → IsSettled w row →
    spec_differs w row ≡ false → is_running w.state ≡ true → has_to_stop w row ≡ false
nothing_stops w row it cleared disks spec runs =
    λ i. spec i || (not (runs i) || (not (disks.settled i) || (spare i || mounted i)))
  where
    spare : list_any (is_spare_attached w row) row.disks ≡ false
    spare = none_any (is_spare_attached w row) row.disks
        (least_none (is_spare_attached w row) row.disks cleared.detached)

    unmounted : (d : DiskRow) → IsIn d row.disks → not (not (is_active d) && d.mounted) ≡ true
    unmounted d is =
        by_role (is_active d) refl d.mounted refl
        (all_in (λ d. not (is_spare_mounted w row d)) d row.disks
        (least_none (is_spare_mounted w row) row.disks cleared.unmounted) is)
      where
        by_role : (role : Bool) → is_active d ≡ role → (mounted : Bool) → d.mounted ≡ mounted →
            not (is_spare w.disk row.disks d && d.mounted) ≡ true → not (not role && mounted) ≡ true
        by_role true other mounted m free = refl
        by_role false other false m free = refl
        by_role false other true m free =
            let spare : is_spare w.disk row.disks d ≡ true =
            ap (λ o. is_spare_beside o d) disks.alone ∙ spare_beside_none d other in
            absurd (let both : not (is_spare w.disk row.disks d && d.mounted) ≡ false =
            (λ i. not (spare i && m i)) in cc)

    mounted : list_any (λ d. not (is_active d) && d.mounted) row.disks ≡ false
    mounted =
        none_any (λ d. not (is_active d) && d.mounted) row.disks
        (all_from (λ d. not (not (is_active d) && d.mounted)) row.disks unmounted)
