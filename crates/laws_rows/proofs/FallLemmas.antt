-- Each call of the step rule, answered as it is asked, leaves less to do.
use Rattle.std.proofs.Common.{◌≡◌, ℕ, ◌+◌, ◌≤◌, ◌<◌, Bool, true, false, Option, Some, None, List, refl, sym, ◌∙◌, ap, subst, arith}
use Rattle.std.specs.Prelude.{◌&&◌, ◌||◌, not, nat_le, if◌then◌else◌, is_some, map}
use Rattle.std.specs.List.{sum_by}
use Rattle.std.proofs.lemmas.Bool.{leb-true, le-leb}
use Rattle.bosh_base.specs.CallStep.{answer_of, is_gone, unless_gone}
use Rattle.bosh_base.specs.Cloud.{disks_created}
use Rattle.bosh_base.specs.declared.answer.Answer.{Answer}
use Rattle.bosh_base.specs.declared.answer.Answer.TheVariants as answers
use Rattle.bosh_base.specs.declared.call.Call.{Call}
use Rattle.bosh_base.specs.declared.call.Call.TheVariants as calls
use Rattle.bosh_base.specs.declared.digest.Digest.{Digest}
use Rattle.bosh_base.specs.declared.disk_want.DiskWant.{DiskWant}
use Rattle.bosh_base.specs.declared.entry.Entry.{Entry}
use Rattle.bosh_base.specs.declared.goal.GoalRow.{GoalRow}
use Rattle.bosh_base.specs.declared.key.KeyWork.{KeyWork}
use Rattle.bosh_base.specs.declared.row.DiskRow.{DiskRow}
use Rattle.bosh_base.specs.declared.row.Row.{Row}
use Rattle.bosh_base.specs.declared.row.Vm as vm
use Rattle.bosh_rows.specs.After.{after, attach, begun_row, changing, let_go, mount, unmount, with_disks}
use Rattle.bosh_rows.specs.Disks.{active, coming, is_spare}
use Rattle.bosh_rows.specs.NextStep.{has_to_go, has_to_stop}
use Rattle.bosh_rows.specs.Same.{same_make}
use Rattle.laws_rows.proofs.ListLemmas.{IsFound, IsIn, all_of_one, least_found}
use Rattle.laws_rows.proofs.SoundLemmas.{distinct_of, sound-map}
use Rattle.laws_rows.proofs.StepCases.{goes, is_attached as is_held, is_mounted, least_of}
use Rattle.laws_rows.proofs.WorkLemmas.{Keeps, free-falls, from_nothing-same, keeps-let_go, keeps-one, keeps-unmount, let_go-all, let_go-one, one, one-falls, spare_not_active}
use Rattle.laws_rows.specs.Left.{disk_work, is_of_use, left_at_rest, left_by, left_from_nothing, left_known, left_of_machine, left_to_remove, left_to_tend, one_if, to_free, to_place}
use Rattle.laws_rows.specs.SoundDisks.{are_sound, is_recorded}

-- ---- what is kept of a row that is what the cloud has

pub record IsSteady (row : Row) : Type 0 where
  pub held : (d : DiskRow) → IsIn d row.disks → d.mounted ≡ true → d.attached ≡ true
  pub loose : row.vm ≡ None → map let_go row.disks ≡ row.disks
  pub idle : row.vm ≡ None → row.running ≡ false
  pub sound : are_sound row.disks ≡ true

-- a call of the row is asked: its number is young enough, and the next disk is not recorded yet
pub record IsAsked (want : Option GoalRow) (effects : List Entry) (row : Row) (n : ℕ) : Type 0 where
  pub young : (w : GoalRow) → want ≡ Some w → w.fresh_after < n
  pub fresh : is_recorded row.disks (disks_created effects + 1) ≡ false

-- less is left, and the disks are sound
pub record IsLess (want : Option GoalRow) (row new : Row) : Type 0 where
  pub less : left_known want new + 1 ≤ left_known want row
  pub sound : are_sound new.disks ≡ true
  pub unlost : new.lost ≡ row.lost
  pub known : new.doubt ≡ None

-- the call that begins over the row and is answered
abbrev pub answered : ℕ → Call → Answer → Row → Row
answered n call answer row = after n call answer (begun_row n call row)

abbrev pub Falls : (KeyWork → List Digest → Digest) → Option GoalRow → List Entry → Row → Call → Type 0
Falls built want effects row call =
    (n : ℕ) (answer : Answer) → IsAsked want effects row n → answer ≡ answer_of built effects call →
    is_gone answer ≡ false → IsLess want row (answered n call answer row)

-- what answers unless something is gone
pub answer-is : (b : Bool) (answer a : Answer) → answer ≡ unless_gone b a → is_gone answer ≡ false → answer ≡ a
answer-is true answer a is here = is
answer-is false answer a is here = absurd (let gone : is_gone answer ≡ true = ap is_gone is in cc)

pub falls_done : (built : KeyWork → List Digest → Digest) (want : Option GoalRow) (effects : List Entry) (row : Row)
    (call : Call) (b : Bool) (a : Answer) → answer_of built effects call ≡ unless_gone b a →
    ((n : ℕ) → IsAsked want effects row n → IsLess want row (answered n call a row)) →
    Falls built want effects row call
falls_done built want effects row call b a says done n answer asks is here =
    subst (λ (it : Answer). IsLess want row (answered n call it row)) (sym (answer-is b answer a (is ∙ says) here))
    (done n asks)

-- ---- a machine that goes

left_removed : (want : Option GoalRow) (row : Row) (it : vm.Vm) → row.vm ≡ Some it → goes want row it ≡ true →
    left_known want row ≡ left_to_remove row + left_from_nothing want row.disks
left_removed want row it has away = ap (left_of_machine want row) has ∙ by_want want away
  where
    by_want : (want : Option GoalRow) → goes want row it ≡ true →
        left_of_machine want row (Some it) ≡ left_to_remove row + left_from_nothing want row.disks
    by_want None away = omega arith
    by_want (Some w) away =
        ap (λ (b : Bool). if b then left_to_remove row + left_from_nothing (Some w) row.disks else left_to_tend w row)
        away

goes-same : (want : Option GoalRow) (row new : Row) (it : vm.Vm) → new.make ≡ row.make → goes want row it ≡ true →
    goes want new it ≡ true
goes-same None row new it same away = refl
goes-same (Some w) row new it same away =
    (λ i. has_to_go w (record new { make = same i }) it) ∙ away

removed : (want : Option GoalRow) (row new : Row) (it : vm.Vm) → row.vm ≡ Some it → goes want row it ≡ true →
    new.vm ≡ row.vm → new.make ≡ row.make → map let_go new.disks ≡ map let_go row.disks →
    left_to_remove new + 1 ≤ left_to_remove row → left_known want new + 1 ≤ left_known want row
removed want row new it has away same_vm same_make disks less =
    let before : left_known want row ≡ left_to_remove row + left_from_nothing want row.disks =
    left_removed want row it has away in
    let then_left : left_known want new ≡ left_to_remove new + left_from_nothing want new.disks =
    left_removed want new it (same_vm ∙ has) (goes-same want row new it same_make away) in
    let nothing : left_from_nothing want new.disks ≡ left_from_nothing want row.disks =
    from_nothing-same want row.disks new.disks disks in omega arith

-- ---- a machine that rests

pub left_resting : (w : GoalRow) (row : Row) (it : vm.Vm) → row.vm ≡ Some it → has_to_go w row it ≡ false →
    row.running ≡ false → left_known (Some w) row ≡ left_at_rest w row
left_resting w row it has stays rests =
    ap (left_of_machine (Some w) row) has
    ∙ ap (λ (b : Bool). if b then left_to_remove row + left_from_nothing (Some w) row.disks else left_to_tend w row)
    stays
    ∙ ap (λ (b : Bool). if b then (if has_to_stop w row then one_if (not row.drained) + 1 + left_at_rest w row else 0)
    else left_at_rest w row) rests

-- a row with other disks, of which less is to be done
pub rested : (w : GoalRow) (row : Row) (it : vm.Vm) (n : ℕ) (call : Call) (disks : List DiskRow) →
    (with_disks disks (begun_row n call row)).make ≡ row.make → row.vm ≡ Some it → has_to_go w row it ≡ false →
    row.running ≡ false → disk_work w.disk disks + 1 ≤ disk_work w.disk row.disks →
    left_known (Some w) (with_disks disks (begun_row n call row)) + 1 ≤ left_known (Some w) row
rested w row it n call disks same has stays rests less =
    let before : left_known (Some w) row ≡ left_at_rest w row = left_resting w row it has stays rests in
    let later : left_known (Some w) (with_disks disks (begun_row n call row))
    ≡ left_at_rest w (with_disks disks (begun_row n call row)) =
    left_resting w (with_disks disks (begun_row n call row)) it has
    ((λ i. has_to_go w (record (with_disks disks (begun_row n call row)) { make = same i }) it) ∙ stays) rests in
    omega arith

-- ---- what a disk needs

pub unmount_frees : (d : DiskRow) → d.mounted ≡ true → to_free (unmount d) + 1 ≤ to_free d
unmount_frees d is =
    let one : to_free d ≡ one_if d.attached + 1 = (λ i. one_if d.attached + one_if (is i)) in omega arith

pub let_go_frees : (d : DiskRow) → d.attached ≡ true → to_free (let_go d) + 1 ≤ to_free d
let_go_frees d is =
    let one : to_free d ≡ 1 + one_if d.mounted = (λ i. one_if (is i) + one_if d.mounted) in omega arith

pub attach_places : (d : DiskRow) → d.attached ≡ false → to_place (attach d) + 1 ≤ to_place d
attach_places d is =
    let one : to_place d ≡ 1 + one_if (not d.mounted) = (λ i. one_if (not (is i)) + one_if (not d.mounted)) in
    omega arith

pub mount_places : (d : DiskRow) → d.mounted ≡ false → to_place (mount d) + 1 ≤ to_place d
mount_places d is =
    let one : to_place d ≡ one_if (not d.attached) + 1 = (λ i. one_if (not d.attached) + one_if (not (is i))) in
    omega arith

-- a spare disk is of no use, and where none is wanted none is
pub spare_of_no_use : (want : Option DiskWant) (xs : List DiskRow) (d : DiskRow) → is_spare want xs d ≡ true →
    is_of_use want xs d ≡ false
spare_of_no_use None xs d spare = refl
spare_of_no_use (Some wanted) xs d spare =
    (λ i. spare_not_active (coming (Some wanted) xs) d spare i || (is_some (active xs) && not (spare i)))
    ∙ none (is_some (active xs))
  where
    none : (b : Bool) → (b && false) ≡ false
    none true = refl
    none false = refl

pub freed : (want : Option DiskWant) (xs : List DiskRow) (change : DiskRow → DiskRow) (d : DiskRow) →
    is_of_use want xs d ≡ false → to_free (change d) + 1 ≤ to_free d →
    left_by (is_of_use want xs d) (change d) + 1 ≤ left_by (is_of_use want xs d) d
freed want xs g d serves less = subst (λ (b : Bool). left_by b (g d) + 1 ≤ left_by b d) (sym serves) less

pub placed : (want : Option DiskWant) (xs : List DiskRow) (change : DiskRow → DiskRow) (d : DiskRow) →
    is_of_use want xs d ≡ true → to_place (change d) + 1 ≤ to_place d →
    left_by (is_of_use want xs d) (change d) + 1 ≤ left_by (is_of_use want xs d) d
placed want xs g d serves less = subst (λ (b : Bool). left_by b (g d) + 1 ≤ left_by b d) (sym serves) less

-- one disk changes, and less is left for it
abbrev falls_at : Option DiskWant → List DiskRow → (DiskRow → DiskRow) → DiskRow → Bool
falls_at want xs g e = nat_le (left_by (is_of_use want xs e) (g e) + 1) (left_by (is_of_use want xs e) e)

pub changed-falls : (want : Option DiskWant) (xs : List DiskRow) → are_sound xs ≡ true → (change : DiskRow → DiskRow) →
    Keeps change → (d : DiskRow) → IsIn d xs →
    left_by (is_of_use want xs d) (change d) + 1 ≤ left_by (is_of_use want xs d) d →
    disk_work want (changing d.disk change xs) + 1 ≤ disk_work want xs
changed-falls want xs sound g keeps d is less =
    one-falls want g keeps xs (falls_at want xs g) d is
    (all_of_one (falls_at want xs g) xs (distinct_of xs sound) d is
    (le-leb (left_by (is_of_use want xs d) (g d) + 1) (left_by (is_of_use want xs d) d) less))
    (λ e low. leb-true (left_by (is_of_use want xs e) (g e) + 1) (left_by (is_of_use want xs e) e) low)

abbrev frees_at : (DiskRow → DiskRow) → DiskRow → Bool
frees_at g e = nat_le (to_free (g e) + 1) (to_free e)

changed-frees : (xs : List DiskRow) → are_sound xs ≡ true → (change : DiskRow → DiskRow) → (d : DiskRow) →
    IsIn d xs → to_free (change d) + 1 ≤ to_free d →
    sum_by to_free (changing d.disk change xs) + 1 ≤ sum_by to_free xs
changed-frees xs sound g d is less =
    free-falls g xs (frees_at g) d is
    (all_of_one (frees_at g) xs (distinct_of xs sound) d is (le-leb (to_free (g d) + 1) (to_free d) less))
    (λ e low. leb-true (to_free (g e) + 1) (to_free e) low)

pub sound-changed : (xs : List DiskRow) → are_sound xs ≡ true → (number : ℕ) (change : DiskRow → DiskRow) →
    Keeps change → are_sound (changing number change xs) ≡ true
sound-changed xs sound number g keeps = sound-map (one number g) (keeps-one number g keeps) xs ∙ sound

-- ---- each case of a machine that goes

pub remove_drain : (want : Option GoalRow) (row : Row) → IsSteady row → (it : vm.Vm) → row.vm ≡ Some it →
    goes want row it ≡ true → row.running ≡ true → row.drained ≡ false → (n : ℕ) →
    IsLess want row (answered n (calls.Drain it.vm) answers.Done row)
remove_drain want row steady it has away runs drained n =
    let before : left_to_remove row ≡ 1 + one_if row.running + sum_by to_free row.disks + 1 =
    (λ i. one_if (runs i && not (drained i)) + one_if row.running + sum_by to_free row.disks + 1) in
    let later : left_to_remove (answered n (calls.Drain it.vm) answers.Done row)
    ≡ 0 + one_if row.running + sum_by to_free row.disks + 1 =
    (λ i. one_if (runs i && false) + one_if row.running + sum_by to_free row.disks + 1) in record {
      less = removed want row (answered n (calls.Drain it.vm) answers.Done row) it has away refl refl refl
          (omega arith);
      sound = steady.sound;
      unlost = refl;
      known = refl;
    }

pub remove_stop : (want : Option GoalRow) (row : Row) → IsSteady row → (it : vm.Vm) → row.vm ≡ Some it →
    goes want row it ≡ true → row.running ≡ true → (row.running && not row.drained) ≡ false → (n : ℕ) →
    IsLess want row (answered n (calls.Stop it.vm) answers.Done row)
remove_stop want row steady it has away runs drained n =
    let before : left_to_remove row ≡ 0 + 1 + sum_by to_free row.disks + 1 =
    (λ i. one_if (drained i) + one_if (runs i) + sum_by to_free row.disks + 1) in record {
      less = removed want row (answered n (calls.Stop it.vm) answers.Done row) it has away refl refl refl (omega arith);
      sound = steady.sound;
      unlost = refl;
      known = refl;
    }

pub remove_unmount : (want : Option GoalRow) (row : Row) → IsSteady row → (it : vm.Vm) (d : DiskRow) →
    row.vm ≡ Some it → goes want row it ≡ true → least_of is_mounted row ≡ Some d → (n : ℕ) →
    IsLess want row (answered n (calls.UnmountDisk it.vm d.disk) answers.Done row)
remove_unmount want row steady it d has away first n =
    let found : IsFound is_mounted d row.disks = least_found is_mounted d row.disks first in
    let sum : sum_by to_free (changing d.disk unmount row.disks) + 1 ≤ sum_by to_free row.disks =
    changed-frees row.disks steady.sound unmount d found.is_in (unmount_frees d found.meets) in record {
      less =
          removed want row (answered n (calls.UnmountDisk it.vm d.disk) answers.Done row) it has away refl refl
          (let_go-one d.disk unmount (λ e. refl) row.disks) (omega arith);
      sound = sound-changed row.disks steady.sound d.disk unmount keeps-unmount;
      unlost = refl;
      known = refl;
    }

pub remove_detach : (want : Option GoalRow) (row : Row) → IsSteady row → (it : vm.Vm) (d : DiskRow) →
    row.vm ≡ Some it → goes want row it ≡ true → least_of is_held row ≡ Some d → (n : ℕ) →
    IsLess want row (answered n (calls.DetachDisk it.vm d.disk) answers.Done row)
remove_detach want row steady it d has away first n =
    let found : IsFound is_held d row.disks = least_found is_held d row.disks first in
    let sum : sum_by to_free (changing d.disk let_go row.disks) + 1 ≤ sum_by to_free row.disks =
    changed-frees row.disks steady.sound let_go d found.is_in (let_go_frees d found.meets) in record {
      less =
          removed want row (answered n (calls.DetachDisk it.vm d.disk) answers.Done row) it has away refl refl
          (let_go-one d.disk let_go (λ e. refl) row.disks) (omega arith);
      sound = sound-changed row.disks steady.sound d.disk let_go keeps-let_go;
      unlost = refl;
      known = refl;
    }

pub remove_delete : (want : Option GoalRow) (row : Row) → IsSteady row → row.lost ≡ false → (it : vm.Vm) →
    row.vm ≡ Some it → goes want row it ≡ true → (n : ℕ) →
    IsLess want row (answered n (calls.DeleteVm it.vm) answers.Done row)
remove_delete want row steady unlost it has away n =
    let before : left_known want row ≡ left_to_remove row + left_from_nothing want row.disks =
    left_removed want row it has away in
    let nothing : left_from_nothing want (map let_go row.disks) ≡ left_from_nothing want row.disks =
    from_nothing-same want row.disks (map let_go row.disks) (let_go-all row.disks) in record {
      less = omega arith;
      sound = sound-map let_go keeps-let_go row.disks ∙ steady.sound;
      unlost = sym unlost;
      known = refl;
    }
