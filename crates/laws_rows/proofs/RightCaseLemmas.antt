-- Each call of a next step keeps a row rightful.
use Rattle.std.proofs.Common.{◌≡◌, ℕ, Bool, true, false, Option, Some, None, List, [], refl, sym, ◌∙◌, ap, subst}
use Rattle.std.specs.Prelude.{◌||◌, ◌==◌, not, is_some}
use Rattle.std.specs.List.{list_all}
use Rattle.std.specs.Option.{option_eq}
use Rattle.std.proofs.lemmas.Bool.{and_parts, and_from, eq-eqb, not-true}
use Rattle.std.proofs.lemmas.Option.{same_Some}
use Rattle.bosh_base.specs.Call.{method_of}
use Rattle.bosh_base.specs.Exact.{Decides-option}
use Rattle.bosh_base.specs.Method.{is_changing}
use Rattle.bosh_base.specs.CallStep.{answer_of, CallStep, found_disk, found_vm, has_agent, unless_gone, yes_or_no}
use Rattle.bosh_base.specs.Cloud.{attached_to, is_drained, is_running as runs, is_vm_there, make_of, mounted_on, spec_of, vm_creation}
use Rattle.bosh_base.specs.ExactParts.{Decides-make}
use Rattle.bosh_base.specs.declared.answer.Answer.{Answer}
use Rattle.bosh_base.specs.declared.answer.Answer.TheVariants as answers
use Rattle.bosh_base.specs.declared.call.Call.{Call}
use Rattle.bosh_base.specs.declared.call.Call.TheVariants as calls
use Rattle.bosh_base.specs.declared.digest.Digest.{Digest}
use Rattle.bosh_base.specs.declared.disk_want.DiskWant.{DiskWant}
use Rattle.bosh_base.specs.declared.entry.Entry.{Entry}
use Rattle.bosh_base.specs.declared.goal.GoalRow.{GoalRow}
use Rattle.bosh_base.specs.declared.key.KeyWork.{KeyWork}
use Rattle.bosh_base.specs.declared.make.Make.{Make}
use Rattle.bosh_base.specs.declared.owner.Owner.TheVariants.{Instance}
use Rattle.bosh_base.specs.declared.row.Doubt as doubt
use Rattle.bosh_base.specs.declared.row.Row.{Row}
use Rattle.bosh_base.specs.declared.row.Vm as vm
use Rattle.laws_effects.specs.Orderly.{is_taken}
use Rattle.bosh_rows.proofs.SameLemmas as instances
use Rattle.bosh_rows.specs.After.{after, attached_by, begun_row, let_go, mounted_by, with_disk, with_machine, without_machine}
use Rattle.bosh_rows.specs.CallOf.{next_call}
use Rattle.bosh_rows.specs.Same.{same_make, same_owner}
use Rattle.bosh_rows.specs.Tied.{IsTiedRow, is_disk_kept, is_spoiled, was_made}
use Rattle.laws_rows.proofs.FallLemmas.{answered}
use Rattle.laws_rows.proofs.FitLemmas.{next_fits}
use Rattle.laws_rows.proofs.FoundLemmas.{IsFoundVm, vm-among, vm-found}
use Rattle.laws_rows.proofs.OneCallLemmas.{loose_of}
use Rattle.laws_rows.proofs.PlainRightLemmas.{RightsFit, deletes, plain_cases}
use Rattle.laws_rows.proofs.RightLemmas.{IsCalm, Rights, asks_right, calm_none, calm_same}
use Rattle.laws_rows.proofs.SettledLemmas.{keeps-attached_by, keeps-mounted_by, sound-found}
use Rattle.laws_rows.proofs.SoundLemmas.{distinct_of, sound-map}
use Rattle.laws_rows.proofs.SteadyLemmas.{tied-known}
use Rattle.laws_rows.proofs.StepCases.{by_cases}
use Rattle.laws_rows.proofs.WorkLemmas.{keeps-let_go}
use Rattle.laws_rows.specs.Rightful.{IsRightful, done_with}
use Rattle.laws_rows.specs.SoundDisks.{are_sound, is_new_disk, is_recorded}

-- ---- a row in doubt

abbrev Asks : (KeyWork → List Digest → Digest) → Option GoalRow → List Entry → Row → Type 0
Asks built want effects row =
    IsRightful effects row → are_sound row.disks ≡ true → (call : Call) → next_call want row ≡ Some call →
    RightsFit built effects row call

of_next : (built : KeyWork → List Digest → Digest) (effects : List Entry) (row : Row) (c call : Call) →
    Some c ≡ Some call → RightsFit built effects row c → RightsFit built effects row call
of_next built effects row c call next keeps =
    subst (λ (it : Call). RightsFit built effects row it) (same_Some c call next) keeps

finds_vm : (effects : List Entry) (row : Row) (m : ℕ) (make : Make) (hint : List ℕ) →
    IsRightful effects row → are_sound row.disks ≡ true →
    row.doubt ≡ Some (record { n = m; call = calls.CreateVm make hint }) → option_eq same_make row.make (Some make) ≡
    true →
    (found : Option ℕ) → found_vm effects m ≡ found → IsCalm effects row (with_machine m found row)
finds_vm effects row m make hint right sound doubts asked None is =
    calm_none effects row (with_machine m None row) refl refl (sound-map let_go keeps-let_go row.disks ∙ sound)
finds_vm effects row m make hint right sound doubts asked (Some v) is = record {
  known = refl;
  sound = sound;
  made = λ ys same. by_found ys same (vm-found effects m v is);
}
  where
    by_found : (ys : List Entry) → ((v : ℕ) → vm_creation ys v ≡ vm_creation effects v) → IsFoundVm effects m v →
        was_made (Instance row.inst) m row.make (vm_creation ys v) ≡ true
    by_found ys same it =
        let call : it.e.call ≡ calls.CreateVm make hint =
        right.call (record { n = m; call = calls.CreateVm make hint }) it.e doubts (vm-among effects v it.e it.made)
        it.number in
        let owner : it.e.owner ≡ Instance row.inst =
        right.owner (record { n = m; call = calls.CreateVm make hint }) it.e doubts (vm-among effects v it.e it.made)
        it.number in
        let known : row.make ≡ Some make = (Decides-option Decides-make row.make (Some make)).0 asked in
        (λ i. was_made (Instance row.inst) m row.make ((same v ∙ it.made) i))
        ∙ and_from _ _ (ap (λ o. same_owner o (Instance row.inst)) owner ∙ instances.itself row.inst)
        (and_from (it.e.n == m) _ (eq-eqb it.e.n m it.number)
        ((λ i. option_eq same_make (make_of (call i)) (known i)) ∙ (Decides-make make make).1 refl))

finds_disk : (effects : List Entry) (row : Row) (m : ℕ) (wanted : DiskWant) → IsRightful effects row →
    are_sound row.disks ≡ true → (found : Option ℕ) → is_new_disk row.disks found ≡ true →
    IsCalm effects row (with_disk m wanted found row)
finds_disk effects row m wanted right sound None new =
    calm_same effects row (with_disk m wanted None row) right refl refl refl refl sound
finds_disk effects row m wanted right sound (Some d) new =
    calm_same effects row (with_disk m wanted (Some d) row) right refl refl refl refl
    (sound-found row.disks d m wanted sound (not-true (is_recorded row.disks d) new))

asks_there : (built : KeyWork → List Digest → Digest) (effects : List Entry) (row : Row) (it : vm.Vm) →
    IsRightful effects row → are_sound row.disks ≡ true → RightsFit built effects row (calls.HasVm it.vm)
asks_there built effects row it right sound fit =
    asks_right built effects row (calls.HasVm it.vm) refl right sound (λ n. refl)
    (λ n. by_there n (is_vm_there effects it.vm))
  where
    by_there : (n : ℕ) (b : Bool) → IsCalm effects row (answered n (calls.HasVm it.vm) (yes_or_no b) row)
    by_there n true = calm_same effects row (record row { doubt = None }) right refl refl refl refl sound
    by_there n false =
        calm_none effects row (without_machine row) refl refl (sound-map let_go keeps-let_go row.disks ∙ sound)

-- a probe that answers unless something is gone
asks_told : (built : KeyWork → List Digest → Digest) (effects : List Entry) (row : Row) (c : Call) (here : Bool)
    (a : Answer) → is_changing (method_of c) ≡ false → answer_of built effects c ≡ unless_gone here a →
    IsRightful effects row → are_sound row.disks ≡ true → ((n : ℕ) → begun_row n c row ≡ row) →
    ((n : ℕ) → IsCalm effects row (answered n c a row)) → ((n : ℕ) → IsCalm effects row
    (answered n c answers.Gone row)) →
    RightsFit built effects row c
asks_told built effects row c here a asks says right sound same told gone fit =
    asks_right built effects row c asks right sound same
    (λ n. subst (λ (it : Answer). IsCalm effects row (answered n c it row)) (sym says) (by_here n here))
  where
    by_here : (n : ℕ) (b : Bool) → IsCalm effects row (answered n c (unless_gone b a) row)
    by_here n true = told n
    by_here n false = gone n

lists : (built : KeyWork → List Digest → Digest) (effects : List Entry) (row : Row) (it : vm.Vm) →
    IsRightful effects row → are_sound row.disks ≡ true → RightsFit built effects row (calls.GetDisks it.vm)
lists built effects row it right sound =
    asks_told built effects row (calls.GetDisks it.vm) (is_vm_there effects it.vm)
    (answers.Disks (attached_to effects it.vm)) refl refl right sound (λ n. refl)
    (λ n. calm_same effects row (answered n (calls.GetDisks it.vm) (answers.Disks (attached_to effects it.vm)) row)
    right
    refl refl refl refl
    (sound-map (attached_by (attached_to effects it.vm)) (keeps-attached_by (attached_to effects it.vm)) row.disks ∙
    sound))
    (λ n. calm_same effects row (answered n (calls.GetDisks it.vm) answers.Gone row) right refl refl refl refl sound)

shows : (built : KeyWork → List Digest → Digest) (effects : List Entry) (row : Row) (it : vm.Vm) →
    IsRightful effects row → are_sound row.disks ≡ true → RightsFit built effects row (calls.ListDisk it.vm)
shows built effects row it right sound =
    asks_told built effects row (calls.ListDisk it.vm) (has_agent effects it.vm)
    (answers.Disks (mounted_on effects it.vm)) refl refl right sound (λ n. refl)
    (λ n. calm_same effects row (answered n (calls.ListDisk it.vm) (answers.Disks (mounted_on effects it.vm)) row) right
    refl refl refl refl
    (sound-map (mounted_by (mounted_on effects it.vm)) (keeps-mounted_by (mounted_on effects it.vm)) row.disks ∙ sound))
    (λ n. calm_same effects row (answered n (calls.ListDisk it.vm) answers.Gone row) right refl refl refl refl sound)

tells : (built : KeyWork → List Digest → Digest) (effects : List Entry) (row : Row) (it : vm.Vm) →
    IsRightful effects row → are_sound row.disks ≡ true → RightsFit built effects row (calls.GetState it.vm)
tells built effects row it right sound =
    asks_told built effects row (calls.GetState it.vm) (has_agent effects it.vm)
    (answers.Facts (spec_of effects it.vm) (runs effects it.vm) (is_drained effects it.vm)) refl refl right sound
    (λ n. refl)
    (λ n. calm_same effects row (answered n (calls.GetState it.vm)
    (answers.Facts (spec_of effects it.vm) (runs effects it.vm) (is_drained effects it.vm)) row) right refl refl refl
    refl
    sound)
    (λ n. calm_same effects row (answered n (calls.GetState it.vm) answers.Gone row) right refl refl refl refl sound)

lost_asks : (built : KeyWork → List Digest → Digest) (want : Option GoalRow) (effects : List Entry) (row : Row)
    (d : Option doubt.Doubt) (it : Option vm.Vm) → Asks built want effects
    (record row { doubt = d; vm = it; lost = true })
lost_asks built want effects row None None right sound call next = absurd cc
lost_asks built want effects row None (Some it) right sound call next =
    of_next built effects (record row { doubt = None; vm = Some it; lost = true }) (calls.DeleteVm it.vm) call next
    (deletes built effects (record row { doubt = None; vm = Some it; lost = true }) it right sound)
lost_asks built want effects row (Some d) it right sound call next = by_call d.n d.call it right next
  where
    by_call : (m : ℕ) (c : Call) (it : Option vm.Vm) →
        IsRightful effects (record row { doubt = Some (record { n = m; call = c }); vm = it; lost = true }) →
        next_call want (record row { doubt = Some (record { n = m; call = c }); vm = it; lost = true }) ≡ Some call →
        RightsFit built effects (record row { doubt = Some (record { n = m; call = c }); vm = it; lost = true }) call
    by_call m (calls.CreateDisk wanted v) it right next =
        of_next built effects
        (record row { doubt = Some (record { n = m; call = calls.CreateDisk wanted v }); vm = it; lost = true })
        (calls.FindDisk m) call next
        (λ fit. asks_right built effects
        (record row { doubt = Some (record { n = m; call = calls.CreateDisk wanted v }); vm = it; lost = true })
        (calls.FindDisk m) refl right sound (λ n. refl)
        (λ n. finds_disk effects
        (record row { doubt = Some (record { n = m; call = calls.CreateDisk wanted v }); vm = it; lost = true }) m
        wanted
        right sound (found_disk effects m) right.found_new))
    by_call m c None right next = absurd cc
    by_call m (calls.DeleteVm v) (Some it) right next =
        of_next built effects
        (record row { doubt = Some (record { n = m; call = calls.DeleteVm v }); vm = Some it; lost = true })
        (calls.HasVm it.vm) call next
        (asks_there built effects
        (record row { doubt = Some (record { n = m; call = calls.DeleteVm v }); vm = Some it; lost = true }) it right
        sound)
    by_call m c (Some it) right next =
        of_next built effects (record row { doubt = Some (record { n = m; call = c }); vm = Some it; lost = true })
        (calls.DeleteVm it.vm) call next
        (deletes built effects (record row { doubt = Some (record { n = m; call = c }); vm = Some it; lost = true }) it
        right sound)

doubted_asks : (built : KeyWork → List Digest → Digest) (want : Option GoalRow) (effects : List Entry) (row : Row)
    (m : ℕ) (c : Call) (it : Option vm.Vm) →
    Asks built want effects (record row { doubt = Some (record { n = m; call = c }); vm = it; lost = false })
doubted_asks built want effects row m (calls.CreateVm make hint) it right sound call next =
    of_next built effects
    (record row { doubt = Some (record { n = m; call = calls.CreateVm make hint }); vm = it; lost = false })
    (calls.FindVm m) call next
    (λ fit. asks_right built effects
    (record row { doubt = Some (record { n = m; call = calls.CreateVm make hint }); vm = it; lost = false })
    (calls.FindVm m) refl right sound (λ n. refl)
    (λ n. finds_vm effects
    (record row { doubt = Some (record { n = m; call = calls.CreateVm make hint }); vm = it; lost = false }) m make hint
    right sound refl (and_parts (not (is_some it)) (option_eq same_make row.make (Some make)) right.fit).1
    (found_vm effects m) refl))
doubted_asks built want effects row m (calls.CreateDisk wanted v) it right sound call next =
    of_next built effects
    (record row { doubt = Some (record { n = m; call = calls.CreateDisk wanted v }); vm = it; lost = false })
    (calls.FindDisk m) call next
    (λ fit. asks_right built effects
    (record row { doubt = Some (record { n = m; call = calls.CreateDisk wanted v }); vm = it; lost = false })
    (calls.FindDisk m) refl right sound (λ n. refl)
    (λ n. finds_disk effects
    (record row { doubt = Some (record { n = m; call = calls.CreateDisk wanted v }); vm = it; lost = false }) m wanted
    right sound (found_disk effects m) right.found_new))
doubted_asks built want effects row m c None right sound call next = absurd cc
doubted_asks built want effects row m (calls.DeleteVm v) (Some it) right sound call next =
    of_next built effects
    (record row { doubt = Some (record { n = m; call = calls.DeleteVm v }); vm = Some it; lost = false })
    (calls.HasVm it.vm) call next
    (asks_there built effects
    (record row { doubt = Some (record { n = m; call = calls.DeleteVm v }); vm = Some it; lost = false }) it right
    sound)
doubted_asks built want effects row m (calls.AttachDisk v x) (Some it) right sound call next =
    of_next built effects
    (record row { doubt = Some (record { n = m; call = calls.AttachDisk v x }); vm = Some it; lost = false })
    (calls.GetDisks it.vm) call next
    (lists built effects
    (record row { doubt = Some (record { n = m; call = calls.AttachDisk v x }); vm = Some it; lost = false }) it right
    sound)
doubted_asks built want effects row m (calls.DetachDisk v x) (Some it) right sound call next =
    of_next built effects
    (record row { doubt = Some (record { n = m; call = calls.DetachDisk v x }); vm = Some it; lost = false })
    (calls.GetDisks it.vm) call next
    (lists built effects
    (record row { doubt = Some (record { n = m; call = calls.DetachDisk v x }); vm = Some it; lost = false }) it right
    sound)
doubted_asks built want effects row m (calls.MountDisk v x) (Some it) right sound call next =
    of_next built effects
    (record row { doubt = Some (record { n = m; call = calls.MountDisk v x }); vm = Some it; lost = false })
    (calls.ListDisk it.vm) call next
    (shows built effects
    (record row { doubt = Some (record { n = m; call = calls.MountDisk v x }); vm = Some it; lost = false }) it right
    sound)
doubted_asks built want effects row m (calls.UnmountDisk v x) (Some it) right sound call next =
    of_next built effects
    (record row { doubt = Some (record { n = m; call = calls.UnmountDisk v x }); vm = Some it; lost = false })
    (calls.ListDisk it.vm) call next
    (shows built effects
    (record row { doubt = Some (record { n = m; call = calls.UnmountDisk v x }); vm = Some it; lost = false }) it right
    sound)
doubted_asks built want effects row m c (Some it) right sound call next =
    of_next built effects (record row { doubt = Some (record { n = m; call = c }); vm = Some it; lost = false })
    (calls.GetState it.vm) call next
    (tells built effects (record row { doubt = Some (record { n = m; call = c }); vm = Some it; lost = false }) it right
    sound)

-- ---- every row

-- the disks of a row that is not in doubt are there, whether a loss named its machine or not
disks_kept : (effects : List Entry) (row : Row) → IsTiedRow effects row → IsRightful effects row → row.lost ≡ false →
    row.doubt ≡ None → list_all (is_disk_kept effects row) row.disks ≡ true
disks_kept effects row tied right unlost known = by_spoiled (is_spoiled effects row) refl
  where
    by_spoiled : (b : Bool) → is_spoiled effects row ≡ b → list_all (is_disk_kept effects row) row.disks ≡ true
    by_spoiled true spoils = (loose_of effects row tied right (λ i. unlost i || spoils i)).weak.kept
    by_spoiled false whole = (tied-known effects row tied unlost whole known).kept

pub stays_right : (built : KeyWork → List Digest → Digest) (want : Option GoalRow) (effects : List Entry) (row : Row) →
    IsTiedRow effects row → IsRightful effects row → are_sound row.disks ≡ true → (call : Call) →
    next_call want row ≡ Some call → Rights built effects row call
stays_right built want effects row tied right sound call next =
    by_ways row.lost refl row.doubt refl
    (λ n leaves. next_fits want row n call (distinct_of row.disks sound) next leaves)
  where
    by_ways : (lost : Bool) → row.lost ≡ lost → (d : Option doubt.Doubt) → row.doubt ≡ d →
        RightsFit built effects row call
    by_ways true is d doubts =
        subst (λ (r : Row). Asks built want effects r) (λ i. record row { lost = sym is i })
        (lost_asks built want effects row row.doubt row.vm) right sound call next
    by_ways false is (Some d) doubts =
        subst (λ (r : Row). Asks built want effects r) (λ i. record row { doubt = sym doubts i; lost = sym is i })
        (doubted_asks built want effects row d.n d.call row.vm) right sound call next
    by_ways false is None known =
        by_cases (RightsFit built effects row) want row
        (plain_cases built want effects row (record {
          right = right;
          sound = sound;
          kept = disks_kept effects row tied right is known;
          known = known;
        })) is known call next

pub still_right : (built : KeyWork → List Digest → Digest) (want : Option GoalRow) (effects : List Entry) (row : Row)
    (n : ℕ) (dep : List ℕ) (call : Call) (has_effect : Bool) (answer : Answer) → IsTiedRow effects row →
    IsRightful effects row → are_sound row.disks ≡ true → next_call want row ≡ Some call → is_taken effects n ≡ false →
    CallStep built effects call has_effect answer →
    IsRightful (done_with has_effect effects (record { n = n; owner = Instance row.inst; dep = dep; call = call }))
    (after n call answer (begun_row n call row))
still_right built want effects row n dep call has_effect answer tied right sound next fresh step =
    (stays_right built want effects row tied right sound call next n dep has_effect answer fresh step).right

pub sound_after : (built : KeyWork → List Digest → Digest) (want : Option GoalRow) (effects : List Entry) (row : Row)
    (n : ℕ) (call : Call) (has_effect : Bool) (answer : Answer) → IsTiedRow effects row →
    IsRightful effects row → are_sound row.disks ≡ true → next_call want row ≡ Some call → is_taken effects n ≡ false →
    CallStep built effects call has_effect answer → are_sound (after n call answer (begun_row n call row)).disks ≡ true
sound_after built want effects row n call has_effect answer tied right sound next fresh step =
    (stays_right built want effects row tied right sound call next n [] has_effect answer fresh step).sound
