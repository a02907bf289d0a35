-- Each call that makes a machine, or tends the right one, leaves less to do.
use Rattle.std.proofs.Common.{◌≡◌, ℕ, ◌+◌, ◌≤◌, Bool, true, false, Option, Some, None, List, [], ◌∷◌, ◌++◌, refl, sym, ◌∙◌, ap, subst, arith}
use Rattle.std.specs.Prelude.{◌&&◌, ◌||◌, not, nat_le, if◌then◌else◌, is_some, map}
use Rattle.std.proofs.lemmas.Bool.{and_parts, and_left, not-true, lt-leb}
use Rattle.bosh_base.specs.Cloud.{disks_created}
use Rattle.bosh_base.specs.ExactParts.{Decides-disk_want, Decides-make, Decides-spec}
use Rattle.bosh_base.specs.declared.answer.Answer.TheVariants as answers
use Rattle.bosh_base.specs.declared.call.Call.TheVariants as calls
use Rattle.bosh_base.specs.declared.disk_want.DiskWant.{DiskWant}
use Rattle.bosh_base.specs.declared.entry.Entry.{Entry}
use Rattle.bosh_base.specs.declared.goal.GoalRow.{GoalRow}
use Rattle.bosh_base.specs.declared.row.DiskRow.{DiskRow}
use Rattle.bosh_base.specs.declared.row.Role.TheVariants.{Active, New}
use Rattle.bosh_base.specs.declared.row.Row.{Row}
use Rattle.bosh_base.specs.declared.row.Vm as vm
use Rattle.bosh_rows.proofs.DiskLemmas.{has_active}
use Rattle.bosh_rows.specs.After.{attach, changing, let_go, migrated_disks, mount, new_role, unmount}
use Rattle.bosh_rows.specs.Disks.{active, coming, is_active, is_detached, is_new, is_right, is_running, is_spare, is_spare_beside, meets}
use Rattle.bosh_rows.specs.NextStep.{disk_step, has_to_go, has_to_stop, is_disk_settled, is_in_place, spec_differs}
use Rattle.laws_rows.proofs.FallLemmas.{IsAsked, IsLess, IsSteady, answered, attach_places, changed-falls, freed, left_resting, let_go_frees, mount_places, placed, rested, sound-changed, spare_of_no_use, unmount_frees}
use Rattle.laws_rows.proofs.ListLemmas.{IsFound, IsIn, active_found, active_none, all_in, any_in, least_found}
use Rattle.laws_rows.proofs.MigrationLemmas.{AreTwo, IsMigration, migrated-falls, two_of}
use Rattle.laws_rows.proofs.NewDiskLemmas.{found_row, IsCreated, provided-falls, replaced-falls}
use Rattle.laws_rows.proofs.SoundLemmas.{distinct_of, one_of, sound-first, sound-migrated, sound-more}
use Rattle.laws_rows.proofs.StepCases.{IsCleared, IsReplaced, IsTended, is_spare_attached, is_spare_mounted, least_of}
use Rattle.laws_rows.proofs.StopLemmas.{nothing_stops, only_active, rests_where, settled_then, stops_for_disk, stops_for_mounted, stops_for_spare, stops_for_spec}
use Rattle.laws_rows.proofs.WorkLemmas.{keeps-attach, keeps-let_go, keeps-mount, keeps-unmount, new_not_spare, spare_not_active}
use Rattle.laws_rows.specs.Left.{disk_work, is_of_use, left_at_rest, left_from_nothing, left_known, left_of_machine, left_to_remove, left_to_tend, one_if}

-- ---- a machine is made

pub create : (w : GoalRow) (effects : List Entry) (row : Row) → IsSteady row → row.vm ≡ None →
    is_detached w.state ≡ false → (hint : List ℕ) (v n : ℕ) → IsAsked (Some w) effects row n →
    IsLess (Some w) row (answered n (calls.CreateVm w.make hint) (answers.Cid v) row)
create w effects row steady none here hint v n asks =
    let before : left_known (Some w) row ≡ 2 + disk_work w.disk (map let_go row.disks) + one_if (is_running w.state) =
    ap (left_of_machine (Some w) row) none
    ∙ ap (λ (b : Bool). if b then 0 else 2 + disk_work w.disk (map let_go row.disks) + one_if (is_running w.state))
    here in
    let loose : disk_work w.disk (map let_go row.disks) ≡ disk_work w.disk row.disks =
    ap (disk_work w.disk) (steady.loose none) in
    let young : nat_le n w.fresh_after ≡ false = lt-leb n w.fresh_after (asks.young w refl) in
    let stays : has_to_go w made (record { vm = v; agent = n }) ≡ false =
    (λ i. here i || (not ((Decides-make w.make w.make).1 refl i) || young i)) in
    let later : left_known (Some w) made ≡ left_at_rest w made =
    left_resting w made (record { vm = v; agent = n }) refl stays (steady.idle none) in
    let spec : one_if (spec_differs w made) ≤ 1 = at_most_one (spec_differs w made) in record {
      less = omega arith;
      sound = steady.sound;
      unlost = refl;
      known = refl;
    }
  where
    made : Row
    made = answered n (calls.CreateVm w.make hint) (answers.Cid v) row

    at_most_one : (b : Bool) → one_if b ≤ 1
    at_most_one true = omega arith
    at_most_one false = omega arith

-- ---- a running machine is paused

left_running : (w : GoalRow) (row : Row) (it : vm.Vm) → row.vm ≡ Some it → has_to_go w row it ≡ false →
    row.running ≡ true → has_to_stop w row ≡ true →
    left_known (Some w) row ≡ one_if (not row.drained) + 1 + left_at_rest w row
left_running w row it has stays runs stops =
    ap (left_of_machine (Some w) row) has
    ∙ ap (λ (b : Bool). if b then left_to_remove row + left_from_nothing (Some w) row.disks else left_to_tend w row)
    stays
    ∙ ap (λ (b : Bool). if b then (if has_to_stop w row then one_if (not row.drained) + 1 + left_at_rest w row else 0)
    else left_at_rest w row) runs
    ∙ ap (λ (b : Bool). if b then one_if (not row.drained) + 1 + left_at_rest w row else 0) stops

pub tend_drain : (w : GoalRow) (row : Row) → IsSteady row → (it : vm.Vm) → row.vm ≡ Some it →
    has_to_go w row it ≡ false → row.running ≡ true → has_to_stop w row ≡ true → row.drained ≡ false → (n : ℕ) →
    IsLess (Some w) row (answered n (calls.Drain it.vm) answers.Done row)
tend_drain w row steady it has stays runs stops drained n =
    let before : left_known (Some w) row ≡ one_if (not row.drained) + 1 + left_at_rest w row =
    left_running w row it has stays runs stops in
    let was : one_if (not row.drained) ≡ 1 = (λ i. one_if (not (drained i))) in
    let later : left_known (Some w) (answered n (calls.Drain it.vm) answers.Done row) ≡ 0 + 1 + left_at_rest w row =
    left_running w (answered n (calls.Drain it.vm) answers.Done row) it has stays runs stops in record {
      less = omega arith;
      sound = steady.sound;
      unlost = refl;
      known = refl;
    }

pub tend_stop : (w : GoalRow) (row : Row) → IsSteady row → (it : vm.Vm) → row.vm ≡ Some it →
    has_to_go w row it ≡ false → row.running ≡ true → has_to_stop w row ≡ true → (n : ℕ) →
    IsLess (Some w) row (answered n (calls.Stop it.vm) answers.Done row)
tend_stop w row steady it has stays runs stops n =
    let before : left_known (Some w) row ≡ one_if (not row.drained) + 1 + left_at_rest w row =
    left_running w row it has stays runs stops in
    let later : left_known (Some w) (answered n (calls.Stop it.vm) answers.Done row) ≡ left_at_rest w row =
    left_resting w (answered n (calls.Stop it.vm) answers.Done row) it has stays refl in record {
      less = omega arith;
      sound = steady.sound;
      unlost = refl;
      known = refl;
    }

-- ---- spare disks are let go of

pub clear_unmount : (w : GoalRow) (row : Row) → IsSteady row → (it : vm.Vm) (d : DiskRow) → IsTended w row it →
    least_of (is_spare_mounted w row) row ≡ Some d → (n : ℕ) →
    IsLess (Some w) row (answered n (calls.UnmountDisk it.vm d.disk) answers.Done row)
clear_unmount w row steady it d tended first n =
    let found : IsFound (is_spare_mounted w row) d row.disks =
    least_found (is_spare_mounted w row) d row.disks first in
    let both : (is_spare w.disk row.disks d ≡ true) × (d.mounted ≡ true) =
    and_parts (is_spare w.disk row.disks d) d.mounted found.meets in
    let stops : has_to_stop w row ≡ true =
    stops_for_mounted w row
    (any_in (λ e. not (is_active e) && e.mounted) d row.disks found.is_in
    (λ i. not (spare_not_active (coming w.disk row.disks) d both.0 i) && both.1 i)) in record {
      less =
          rested w row it n (calls.UnmountDisk it.vm d.disk) (changing d.disk unmount row.disks) refl tended.has
          tended.stays (rests_where w row tended.rests stops)
          (changed-falls w.disk row.disks steady.sound unmount keeps-unmount d found.is_in
          (freed w.disk row.disks unmount d (spare_of_no_use w.disk row.disks d both.0) (unmount_frees d both.1)));
      sound = sound-changed row.disks steady.sound d.disk unmount keeps-unmount;
      unlost = refl;
      known = refl;
    }

pub clear_detach : (w : GoalRow) (row : Row) → IsSteady row → (it : vm.Vm) (d : DiskRow) → IsTended w row it →
    least_of (is_spare_attached w row) row ≡ Some d → (n : ℕ) →
    IsLess (Some w) row (answered n (calls.DetachDisk it.vm d.disk) answers.Done row)
clear_detach w row steady it d tended first n =
    let found : IsFound (is_spare_attached w row) d row.disks =
    least_found (is_spare_attached w row) d row.disks first in
    let both : (is_spare w.disk row.disks d ≡ true) × (d.attached ≡ true) =
    and_parts (is_spare w.disk row.disks d) d.attached found.meets in
    let stops : has_to_stop w row ≡ true =
    stops_for_spare w row (any_in (is_spare_attached w row) d row.disks found.is_in found.meets) in record {
      less =
          rested w row it n (calls.DetachDisk it.vm d.disk) (changing d.disk let_go row.disks) refl tended.has
          tended.stays (rests_where w row tended.rests stops)
          (changed-falls w.disk row.disks steady.sound let_go keeps-let_go d found.is_in
          (freed w.disk row.disks let_go d (spare_of_no_use w.disk row.disks d both.0) (let_go_frees d both.1)));
      sound = sound-changed row.disks steady.sound d.disk let_go keeps-let_go;
      unlost = refl;
      known = refl;
    }

-- ---- no disk is wanted

-- an active disk that is attached is not settled where none is wanted
held_unsettled : (w : GoalRow) (row : Row) → IsSteady row → w.disk ≡ None → (d : DiskRow) → IsIn d row.disks →
    is_active d ≡ true → d.attached ≡ true → is_disk_settled w.disk row.disks ≡ false
held_unsettled w row steady wants d is role held =
    ap (λ want. is_disk_settled want row.disks) wants ∙ by_active (active row.disks) refl
  where
    by_active : (a : Option DiskRow) → active row.disks ≡ a → not (meets (λ e. e.attached) a) ≡ false
    by_active None none =
        absurd (let other : is_active d ≡ false =
        not-true (is_active d) (all_in (λ e. not (is_active e)) d row.disks (active_none row.disks none) is) in cc)
    by_active (Some a) now =
        let same : d ≡ a = only_active row.disks (one_of row.disks steady.sound) a d now is role in
        ap not (ap (λ e. e.attached) (sym same) ∙ held)

none_serves : (want : Option DiskWant) (xs : List DiskRow) (d : DiskRow) → want ≡ None → is_of_use want xs d ≡ false
none_serves want xs d wants = ap (λ it. is_of_use it xs d) wants

pub release_unmount : (w : GoalRow) (row : Row) → IsSteady row → (it : vm.Vm) (d : DiskRow) → IsCleared w row it →
    w.disk ≡ None → least_of (λ d. is_active d && d.mounted) row ≡ Some d → (n : ℕ) →
    IsLess (Some w) row (answered n (calls.UnmountDisk it.vm d.disk) answers.Done row)
release_unmount w row steady it d cleared wants first n =
    let found : IsFound (λ d. is_active d && d.mounted) d row.disks =
    least_found (λ d. is_active d && d.mounted) d row.disks first in
    let both : (is_active d ≡ true) × (d.mounted ≡ true) = and_parts (is_active d) d.mounted found.meets in
    let stops : has_to_stop w row ≡ true =
    stops_for_disk w row
    (held_unsettled w row steady wants d found.is_in both.0 (steady.held d found.is_in both.1)) in record {
      less =
          rested w row it n (calls.UnmountDisk it.vm d.disk) (changing d.disk unmount row.disks) refl
          cleared.tended.has cleared.tended.stays (rests_where w row cleared.tended.rests stops)
          (changed-falls w.disk row.disks steady.sound unmount keeps-unmount d found.is_in
          (freed w.disk row.disks unmount d (none_serves w.disk row.disks d wants) (unmount_frees d both.1)));
      sound = sound-changed row.disks steady.sound d.disk unmount keeps-unmount;
      unlost = refl;
      known = refl;
    }

pub release_detach : (w : GoalRow) (row : Row) → IsSteady row → (it : vm.Vm) (d : DiskRow) → IsCleared w row it →
    w.disk ≡ None → least_of (λ d. is_active d && d.attached) row ≡ Some d → (n : ℕ) →
    IsLess (Some w) row (answered n (calls.DetachDisk it.vm d.disk) answers.Done row)
release_detach w row steady it d cleared wants first n =
    let found : IsFound (λ d. is_active d && d.attached) d row.disks =
    least_found (λ d. is_active d && d.attached) d row.disks first in
    let both : (is_active d ≡ true) × (d.attached ≡ true) = and_parts (is_active d) d.attached found.meets in
    let stops : has_to_stop w row ≡ true =
    stops_for_disk w row (held_unsettled w row steady wants d found.is_in both.0 both.1) in record {
      less =
          rested w row it n (calls.DetachDisk it.vm d.disk) (changing d.disk let_go row.disks) refl
          cleared.tended.has cleared.tended.stays (rests_where w row cleared.tended.rests stops)
          (changed-falls w.disk row.disks steady.sound let_go keeps-let_go d found.is_in
          (freed w.disk row.disks let_go d (none_serves w.disk row.disks d wants) (let_go_frees d both.1)));
      sound = sound-changed row.disks steady.sound d.disk let_go keeps-let_go;
      unlost = refl;
      known = refl;
    }

-- ---- a disk is created

as_created : (wanted : DiskWant) (xs : List DiskRow) (d tag : ℕ) →
    IsCreated wanted (found_row d tag wanted xs)
as_created wanted xs d tag =
    record { right = (Decides-disk_want wanted wanted).1 refl; unattached = refl; unmounted = refl }

role_none : (xs : List DiskRow) → active xs ≡ None → new_role xs ≡ Active
role_none xs none = ap (λ (b : Bool). if b then New else Active) (has_active xs ∙ ap is_some none)

role_some : (xs : List DiskRow) (a : DiskRow) → active xs ≡ Some a → new_role xs ≡ New
role_some xs a is = ap (λ (b : Bool). if b then New else Active) (has_active xs ∙ ap is_some is)

unplaced : (w : GoalRow) (row : Row) (wanted : DiskWant) (a : Option DiskRow) → w.disk ≡ Some wanted →
    active row.disks ≡ a → meets (is_in_place wanted) a ≡ false → is_disk_settled w.disk row.disks ≡ false
unplaced w row wanted a wants is wrong =
    ap (λ want. is_disk_settled want row.disks) wants ∙ ap (meets (is_in_place wanted)) is ∙ wrong

pub provide : (w : GoalRow) (effects : List Entry) (row : Row) → IsSteady row → (it : vm.Vm) (wanted : DiskWant) →
    IsCleared w row it → w.disk ≡ Some wanted → active row.disks ≡ None → (n : ℕ) →
    IsAsked (Some w) effects row n →
    IsLess (Some w) row (answered n (calls.CreateDisk wanted it.vm) (answers.Cid (disks_created effects + 1)) row)
provide w effects row steady it wanted cleared wants none n asks =
    let stops : has_to_stop w row ≡ true = stops_for_disk w row (unplaced w row wanted None wants none refl) in
    let role : is_active (found_row (disks_created effects + 1) n wanted row.disks) ≡ true =
    (λ i. is_active (record (found_row (disks_created effects + 1) n wanted row.disks)
    { role = role_none row.disks none i })) in record {
      less =
          rested w row it n (calls.CreateDisk wanted it.vm)
          (row.disks ++ found_row (disks_created effects + 1) n wanted row.disks ∷ [])
          refl cleared.tended.has cleared.tended.stays (rests_where w row cleared.tended.rests stops)
          (subst (λ (want : Option DiskWant). disk_work want (row.disks ++ found_row (disks_created effects + 1) n
          wanted row.disks ∷ []) + 1 ≤ disk_work want row.disks)
          (sym wants)
          (provided-falls wanted row.disks _ none role (as_created wanted row.disks (disks_created effects + 1) n)));
      sound = sound-first row.disks _ steady.sound asks.fresh none role;
      unlost = refl;
      known = refl;
    }

pub replace_create : (w : GoalRow) (effects : List Entry) (row : Row) → IsSteady row → (it : vm.Vm)
    (wanted : DiskWant) (old : DiskRow) → IsReplaced w row it wanted old → coming (Some wanted) row.disks ≡ None →
    (n : ℕ) → IsAsked (Some w) effects row n →
    IsLess (Some w) row (answered n (calls.CreateDisk wanted it.vm) (answers.Cid (disks_created effects + 1)) row)
replace_create w effects row steady it wanted old replaced none n asks =
    let stops : has_to_stop w row ≡ true =
    stops_for_disk w row
    (unplaced w row wanted (Some old) replaced.wants replaced.is_active
    (and_left (is_right wanted old) (old.attached && old.mounted) replaced.wrong)) in
    let other : is_active (found_row (disks_created effects + 1) n wanted row.disks) ≡ false =
    (λ i. is_active (record (found_row (disks_created effects + 1) n wanted row.disks)
    { role = role_some row.disks old replaced.is_active i })) in
    let role : is_new (found_row (disks_created effects + 1) n wanted row.disks) ≡ true =
    (λ i. is_new (record (found_row (disks_created effects + 1) n wanted row.disks)
    { role = role_some row.disks old replaced.is_active i })) in record {
      less =
          rested w row it n (calls.CreateDisk wanted it.vm)
          (row.disks ++ found_row (disks_created effects + 1) n wanted row.disks ∷ [])
          refl replaced.cleared.tended.has replaced.cleared.tended.stays
          (rests_where w row replaced.cleared.tended.rests stops)
          (subst (λ (want : Option DiskWant). disk_work want (row.disks ++ found_row (disks_created effects + 1) n
          wanted row.disks ∷ []) + 1 ≤ disk_work want row.disks)
          (sym replaced.wants)
          (replaced-falls wanted row.disks old _ replaced.is_active replaced.wrong none role other asks.fresh
          (as_created wanted row.disks (disks_created effects + 1) n)));
      sound = sound-more row.disks _ steady.sound asks.fresh other;
      unlost = refl;
      known = refl;
    }

-- ---- a disk is put in its place

active_serves : (want : Option DiskWant) (wanted : DiskWant) (xs : List DiskRow) (d : DiskRow) →
    want ≡ Some wanted → is_active d ≡ true → is_of_use want xs d ≡ true
active_serves want wanted xs d wants role =
    ap (λ it. is_of_use it xs d) wants
    ∙ ap (λ b. b || (is_some (active xs) && not (is_spare_beside (coming (Some wanted) xs) d))) role

coming_serves : (want : Option DiskWant) (wanted : DiskWant) (xs : List DiskRow) (old new : DiskRow) →
    want ≡ Some wanted → active xs ≡ Some old → coming (Some wanted) xs ≡ Some new → is_new new ≡ true →
    is_of_use want xs new ≡ true
coming_serves want wanted xs old new wants was comes role =
    ap (λ it. is_of_use it xs new) wants
    ∙ (λ i. is_active new || (is_some (was i) && not (is_spare_beside (comes i) new)))
    ∙ (λ i. is_active new || not (new_not_spare new role i)) ∙ or_true (is_active new)
  where
    or_true : (b : Bool) → (b || true) ≡ true
    or_true true = refl
    or_true false = refl

pub place_attach : (w : GoalRow) (row : Row) → IsSteady row → (it : vm.Vm) (wanted : DiskWant) (old : DiskRow) →
    IsCleared w row it → w.disk ≡ Some wanted → active row.disks ≡ Some old → old.attached ≡ false → (n : ℕ) →
    IsLess (Some w) row (answered n (calls.AttachDisk it.vm old.disk) answers.Done row)
place_attach w row steady it wanted old cleared wants was loose n =
    let found : IsFound is_active old row.disks = active_found old row.disks was in
    let stops : has_to_stop w row ≡ true =
    stops_for_disk w row
    (unplaced w row wanted (Some old) wants was (wrong (is_right wanted old) old.attached old.mounted loose)) in
    record {
      less =
          rested w row it n (calls.AttachDisk it.vm old.disk) (changing old.disk attach row.disks) refl
          cleared.tended.has cleared.tended.stays (rests_where w row cleared.tended.rests stops)
          (changed-falls w.disk row.disks steady.sound attach keeps-attach old found.is_in
          (placed w.disk row.disks attach old (active_serves w.disk wanted row.disks old wants found.meets)
          (attach_places old loose)));
      sound = sound-changed row.disks steady.sound old.disk attach keeps-attach;
      unlost = refl;
      known = refl;
    }
  where
    wrong : (a b c : Bool) → b ≡ false → (a && (b && c)) ≡ false
    wrong true b c is = and_left b c is
    wrong false b c is = refl

pub place_mount : (w : GoalRow) (row : Row) → IsSteady row → (it : vm.Vm) (wanted : DiskWant) (old : DiskRow) →
    IsCleared w row it → w.disk ≡ Some wanted → active row.disks ≡ Some old → old.mounted ≡ false → (n : ℕ) →
    IsLess (Some w) row (answered n (calls.MountDisk it.vm old.disk) answers.Done row)
place_mount w row steady it wanted old cleared wants was loose n =
    let found : IsFound is_active old row.disks = active_found old row.disks was in
    let stops : has_to_stop w row ≡ true =
    stops_for_disk w row
    (unplaced w row wanted (Some old) wants was (wrong (is_right wanted old) old.attached old.mounted loose)) in
    record {
      less =
          rested w row it n (calls.MountDisk it.vm old.disk) (changing old.disk mount row.disks) refl
          cleared.tended.has cleared.tended.stays (rests_where w row cleared.tended.rests stops)
          (changed-falls w.disk row.disks steady.sound mount keeps-mount old found.is_in
          (placed w.disk row.disks mount old (active_serves w.disk wanted row.disks old wants found.meets)
          (mount_places old loose)));
      sound = sound-changed row.disks steady.sound old.disk mount keeps-mount;
      unlost = refl;
      known = refl;
    }
  where
    wrong : (a b c : Bool) → c ≡ false → (a && (b && c)) ≡ false
    wrong true true c is = is
    wrong true false c is = refl
    wrong false b c is = refl

-- ---- another disk takes the place of the active one

replaced_stops : (w : GoalRow) (row : Row) (it : vm.Vm) (wanted : DiskWant) (old : DiskRow) →
    IsReplaced w row it wanted old → row.running ≡ false
replaced_stops w row it wanted old replaced =
    rests_where w row replaced.cleared.tended.rests
    (stops_for_disk w row
    (unplaced w row wanted (Some old) replaced.wants replaced.is_active
    (and_left (is_right wanted old) (old.attached && old.mounted) replaced.wrong)))

pub replace_attach : (w : GoalRow) (row : Row) → IsSteady row → (it : vm.Vm) (wanted : DiskWant)
    (old new : DiskRow) → IsReplaced w row it wanted old → coming (Some wanted) row.disks ≡ Some new →
    new.attached ≡ false → (n : ℕ) → IsLess (Some w) row (answered n (calls.AttachDisk it.vm new.disk) answers.Done row)
replace_attach w row steady it wanted old new replaced comes loose n =
    let two : AreTwo wanted row.disks old new =
    two_of wanted row.disks old new (distinct_of row.disks steady.sound) replaced.is_active replaced.wrong comes in
    record {
      less =
          rested w row it n (calls.AttachDisk it.vm new.disk) (changing new.disk attach row.disks) refl
          replaced.cleared.tended.has replaced.cleared.tended.stays (replaced_stops w row it wanted old replaced)
          (changed-falls w.disk row.disks steady.sound attach keeps-attach new two.new_in
          (placed w.disk row.disks attach new
          (coming_serves w.disk wanted row.disks old new replaced.wants replaced.is_active comes two.is_new)
          (attach_places new loose)));
      sound = sound-changed row.disks steady.sound new.disk attach keeps-attach;
      unlost = refl;
      known = refl;
    }

pub replace_mount : (w : GoalRow) (row : Row) → IsSteady row → (it : vm.Vm) (wanted : DiskWant) (old new : DiskRow) →
    IsReplaced w row it wanted old → coming (Some wanted) row.disks ≡ Some new → new.mounted ≡ false → (n : ℕ) →
    IsLess (Some w) row (answered n (calls.MountDisk it.vm new.disk) answers.Done row)
replace_mount w row steady it wanted old new replaced comes loose n =
    let two : AreTwo wanted row.disks old new =
    two_of wanted row.disks old new (distinct_of row.disks steady.sound) replaced.is_active replaced.wrong comes in
    record {
      less =
          rested w row it n (calls.MountDisk it.vm new.disk) (changing new.disk mount row.disks) refl
          replaced.cleared.tended.has replaced.cleared.tended.stays (replaced_stops w row it wanted old replaced)
          (changed-falls w.disk row.disks steady.sound mount keeps-mount new two.new_in
          (placed w.disk row.disks mount new
          (coming_serves w.disk wanted row.disks old new replaced.wants replaced.is_active comes two.is_new)
          (mount_places new loose)));
      sound = sound-changed row.disks steady.sound new.disk mount keeps-mount;
      unlost = refl;
      known = refl;
    }

pub replace_migrate : (w : GoalRow) (row : Row) → IsSteady row → row.doubt ≡ None → (it : vm.Vm)
    (wanted : DiskWant) (old new : DiskRow) → IsReplaced w row it wanted old →
    coming (Some wanted) row.disks ≡ Some new → new.attached ≡ true → new.mounted ≡ true → (n : ℕ) →
    IsLess (Some w) row (answered n (calls.MigrateDisk it.vm old.disk new.disk) answers.Done row)
replace_migrate w row steady known it wanted old new replaced comes held is n =
    let migration : IsMigration wanted row.disks old new = record {
      distinct = distinct_of row.disks steady.sound;
      one = one_of row.disks steady.sound;
      was = replaced.is_active;
      wrong = replaced.wrong;
      comes = comes;
      attached = held;
      mounted = is;
    } in
    let falls : disk_work w.disk (migrated_disks old.disk new.disk row.disks) + 1 ≤ disk_work w.disk row.disks =
    subst (λ (want : Option DiskWant).
    disk_work want (migrated_disks old.disk new.disk row.disks) + 1 ≤ disk_work want row.disks) (sym replaced.wants)
    (migrated-falls wanted row.disks old new migration) in
    let rests : row.running ≡ false = replaced_stops w row it wanted old replaced in
    let before : left_known (Some w) row ≡ left_at_rest w row =
    left_resting w row it replaced.cleared.tended.has replaced.cleared.tended.stays rests in
    let later : left_known (Some w) (answered n (calls.MigrateDisk it.vm old.disk new.disk) answers.Done row)
    ≡ left_at_rest w (answered n (calls.MigrateDisk it.vm old.disk new.disk) answers.Done row) =
    left_resting w (answered n (calls.MigrateDisk it.vm old.disk new.disk) answers.Done row) it
    replaced.cleared.tended.has replaced.cleared.tended.stays rests in record {
      less = omega arith;
      sound = sound-migrated wanted row.disks old new migration;
      unlost = refl;
      known = known;
    }

-- ---- the spec is applied, and the machine is started

pub apply : (w : GoalRow) (row : Row) → IsSteady row → (it : vm.Vm) → IsCleared w row it →
    spec_differs w row ≡ true → (n : ℕ) →
    IsLess (Some w) row (answered n (calls.Apply it.vm w.spec) answers.Done row)
apply w row steady it cleared differs n =
    let rests : row.running ≡ false = rests_where w row cleared.tended.rests (stops_for_spec w row differs) in
    let before : left_known (Some w) row ≡ left_at_rest w row =
    left_resting w row it cleared.tended.has cleared.tended.stays rests in
    let later : left_known (Some w) (answered n (calls.Apply it.vm w.spec) answers.Done row)
    ≡ left_at_rest w (answered n (calls.Apply it.vm w.spec) answers.Done row) =
    left_resting w (answered n (calls.Apply it.vm w.spec) answers.Done row) it cleared.tended.has
    cleared.tended.stays rests in
    let one : one_if (spec_differs w row) ≡ 1 = ap one_if differs in
    let none : one_if (spec_differs w (answered n (calls.Apply it.vm w.spec) answers.Done row)) ≡ 0 =
    (λ i. one_if (not ((Decides-spec w.spec w.spec).1 refl i))) in record {
      less = omega arith;
      sound = steady.sound;
      unlost = refl;
      known = refl;
    }

pub start : (w : GoalRow) (row : Row) → IsSteady row → (it : vm.Vm) → IsCleared w row it →
    disk_step w row w.disk ≡ None → spec_differs w row ≡ false → is_running w.state ≡ true → row.running ≡ false →
    (n : ℕ) → IsLess (Some w) row (answered n (calls.Start it.vm) answers.Done row)
start w row steady it cleared disks spec runs rests n =
    let before : left_known (Some w) row ≡ left_at_rest w row =
    left_resting w row it cleared.tended.has cleared.tended.stays rests in
    let one : one_if (is_running w.state) ≡ 1 = ap one_if runs in
    let still : has_to_stop w row ≡ false =
    nothing_stops w row it cleared (settled_then w row disks) spec runs in
    let later : left_known (Some w) (answered n (calls.Start it.vm) answers.Done row) ≡ 0 =
    ap (left_of_machine (Some w) (answered n (calls.Start it.vm) answers.Done row)) cleared.tended.has
    ∙ ap (λ (b : Bool). if b
    then left_to_remove (answered n (calls.Start it.vm) answers.Done row) + left_from_nothing (Some w) row.disks
    else left_to_tend w (answered n (calls.Start it.vm) answers.Done row)) cleared.tended.stays
    ∙ ap (λ (b : Bool). if b
    then one_if (not false) + 1 + left_at_rest w (answered n (calls.Start it.vm) answers.Done row)
    else 0) still in record {
      less = omega arith;
      sound = steady.sound;
      unlost = refl;
      known = refl;
    }
