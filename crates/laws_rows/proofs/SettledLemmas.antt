-- A call that only asks leaves less to do, and so does the deletion of a lost machine.
use Rattle.std.proofs.Common.{◌≡◌, ℕ, Bool, true, false, Option, Some, None, List, [], ◌∷◌, ◌++◌, refl, sym, ◌∙◌, ap, subst}
use Rattle.std.specs.Prelude.{if◌then◌else◌, is_some}
use Rattle.std.proofs.lemmas.Bool.{not-true}
use Rattle.std.proofs.lemmas.Option.{same_Some}
use Rattle.bosh_base.specs.CallStep.{answer_of, found_disk, found_vm, has_agent, is_gone, unless_gone, yes_or_no}
use Rattle.bosh_base.specs.Cloud.{attached_to, is_drained, is_running as runs, is_vm_there, mounted_on, spec_of}
use Rattle.bosh_base.specs.declared.answer.Answer.{Answer}
use Rattle.bosh_base.specs.declared.answer.Answer.TheVariants as answers
use Rattle.bosh_base.specs.declared.call.Call.{Call}
use Rattle.bosh_base.specs.declared.call.Call.TheVariants as calls
use Rattle.bosh_base.specs.declared.digest.Digest.{Digest}
use Rattle.bosh_base.specs.declared.disk_want.DiskWant.{DiskWant}
use Rattle.bosh_base.specs.declared.entry.Entry.{Entry}
use Rattle.bosh_base.specs.declared.goal.GoalRow.{GoalRow}
use Rattle.bosh_base.specs.declared.key.KeyWork.{KeyWork}
use Rattle.bosh_base.specs.declared.make.Make.{Make}
use Rattle.bosh_base.specs.declared.row.DiskRow.{DiskRow}
use Rattle.bosh_base.specs.declared.row.Role.TheVariants.{Active, New}
use Rattle.bosh_base.specs.declared.row.Row.{Row}
use Rattle.bosh_base.specs.declared.row.Vm as vm
use Rattle.bosh_rows.proofs.DiskLemmas.{has_active}
use Rattle.bosh_rows.specs.After.{after, attached_by, let_go, mounted_by, with_disk, with_machine}
use Rattle.bosh_rows.specs.CallOf.{next_call}
use Rattle.bosh_rows.specs.Disks.{active, is_active}
use Rattle.laws_rows.proofs.FallLemmas.{answer-is, answered}
use Rattle.laws_rows.proofs.NewDiskLemmas.{found_row}
use Rattle.laws_rows.proofs.SoundLemmas.{sound-first, sound-map, sound-more}
use Rattle.laws_rows.proofs.WorkLemmas.{Keeps, keeps-let_go}
use Rattle.laws_rows.specs.Left.{left_known, settled}
use Rattle.laws_rows.specs.SoundDisks.{are_sound, is_found_new, is_new_disk, is_recorded}

-- the row in doubt of a call, with this machine
abbrev pub in_doubt : Row → ℕ → Call → Option vm.Vm → Row
in_doubt row m call it = record row { doubt = Some (record { n = m; call = call }); vm = it; lost = false }

-- what is left after a call that asked, which answered so
pub record IsSettledBy (built : KeyWork → List Digest → Digest) (want : Option GoalRow) (effects : List Entry)
    (row new : Row) : Type 0 where
  pub less : left_known want new ≡ left_known want (settled built effects row)
  pub sound : are_sound new.disks ≡ true
  pub unlost : new.lost ≡ false
  pub known : new.doubt ≡ None

pub keeps-attached_by : (numbers : List ℕ) → Keeps (attached_by numbers)
keeps-attached_by numbers = record { number = λ d. refl; role = λ d. refl; want = λ d. refl }

pub keeps-mounted_by : (numbers : List ℕ) → Keeps (mounted_by numbers)
keeps-mounted_by numbers = record { number = λ d. refl; role = λ d. refl; want = λ d. refl }

-- a disk that is found, and is not recorded yet, stands once
pub sound-found : (xs : List DiskRow) (d tag : ℕ) (wanted : DiskWant) → are_sound xs ≡ true →
    is_recorded xs d ≡ false → are_sound (xs ++ found_row d tag wanted xs ∷ []) ≡ true
sound-found xs d tag wanted sound fresh = by_active (active xs) refl
  where
    by_active : (a : Option DiskRow) → active xs ≡ a → are_sound (xs ++ found_row d tag wanted xs ∷ []) ≡ true
    by_active None none =
        sound-first xs (found_row d tag wanted xs) sound fresh none
        (λ i. is_active (record (found_row d tag wanted xs) {
          role =
              ap (λ (b : Bool). if b then New else Active) (has_active xs ∙ ap is_some none) i;
        }))
    by_active (Some a) now =
        sound-more xs (found_row d tag wanted xs) sound fresh
        (λ i. is_active (record (found_row d tag wanted xs) {
          role =
              ap (λ (b : Bool). if b then New else Active) (has_active xs ∙ ap is_some now) i;
        }))

-- one call that asks, for what it answers
by_answer : (built : KeyWork → List Digest → Digest) (want : Option GoalRow) (effects : List Entry) (row : Row)
    (c call : Call) (n : ℕ) (answer a : Answer) → Some c ≡ Some call → answer ≡ answer_of built effects call →
    answer_of built effects c ≡ a → IsSettledBy built want effects row (answered n c a row) →
    IsSettledBy built want effects row (answered n call answer row)
by_answer built want effects row c call n answer a next is says shown =
    let same : c ≡ call = same_Some c call next in
    subst (λ (it : Call). IsSettledBy built want effects row (answered n it answer row)) same
    (subst (λ (it : Answer). IsSettledBy built want effects row (answered n c it row))
    (sym (is ∙ ap (answer_of built effects) (sym same) ∙ says)) shown)

-- .. where it answers unless something is gone
pub not_gone : (built : KeyWork → List Digest → Digest) (effects : List Entry) (c call : Call) (answer a : Answer)
    (b : Bool) → Some c ≡ Some call → answer ≡ answer_of built effects call → is_gone answer ≡ false →
    answer_of built effects c ≡ unless_gone b a → answer_of built effects c ≡ a
not_gone built effects c call answer a b next is here says =
    let same : c ≡ call = same_Some c call next in
    let also : answer ≡ answer_of built effects c = is ∙ ap (answer_of built effects) (sym same) in
    sym also ∙ answer-is b answer a (also ∙ says) here

abbrev Asks : (KeyWork → List Digest → Digest) → Option GoalRow → List Entry → Row → Type 0
Asks built want effects row =
    are_sound row.disks ≡ true → is_found_new effects row ≡ true → (n : ℕ) (call : Call) (answer : Answer) →
    next_call want row ≡ Some call → answer ≡ answer_of built effects call → is_gone answer ≡ false →
    IsSettledBy built want effects row (answered n call answer row)

asks_found_vm : (built : KeyWork → List Digest → Digest) (want : Option GoalRow) (effects : List Entry) (row : Row)
    (m : ℕ) (make : Make) (hint : List ℕ) (it : Option vm.Vm) (found : Option ℕ) → are_sound row.disks ≡ true →
    found_vm effects m ≡ found →
    IsSettledBy built want effects (in_doubt row m (calls.CreateVm make hint) it)
    (with_machine m found (in_doubt row m (calls.CreateVm make hint) it))
asks_found_vm built want effects row m make hint it (Some v) sound is = record {
  less = ap (λ found. left_known want (with_machine m found (in_doubt row m (calls.CreateVm make hint) it))) (sym is);
  sound = sound;
  unlost = refl;
  known = refl;
}
asks_found_vm built want effects row m make hint it None sound is = record {
  less = ap (λ found. left_known want (with_machine m found (in_doubt row m (calls.CreateVm make hint) it))) (sym is);
  sound = sound-map let_go keeps-let_go row.disks ∙ sound;
  unlost = refl;
  known = refl;
}

asks_found_disk : (built : KeyWork → List Digest → Digest) (want : Option GoalRow) (effects : List Entry) (row : Row)
    (m : ℕ) (wanted : DiskWant) (v : ℕ) (it : Option vm.Vm) (found : Option ℕ) → are_sound row.disks ≡ true →
    found_disk effects m ≡ found → is_new_disk row.disks (found_disk effects m) ≡ true →
    IsSettledBy built want effects (in_doubt row m (calls.CreateDisk wanted v) it)
    (with_disk m wanted found (in_doubt row m (calls.CreateDisk wanted v) it))
asks_found_disk built want effects row m wanted v it None sound is new = record {
  less =
      ap (λ found. left_known want (with_disk m wanted found (in_doubt row m (calls.CreateDisk wanted v) it))) (sym is);
  sound = sound;
  unlost = refl;
  known = refl;
}
asks_found_disk built want effects row m wanted v it (Some d) sound is new = record {
  less =
      ap (λ found. left_known want (with_disk m wanted found (in_doubt row m (calls.CreateDisk wanted v) it))) (sym is);
  sound =
      sound-found row.disks d m wanted sound
      (not-true (is_recorded row.disks d) (sym (ap (is_new_disk row.disks) is) ∙ new));
  unlost = refl;
  known = refl;
}

asks_has_vm : (built : KeyWork → List Digest → Digest) (want : Option GoalRow) (effects : List Entry) (row : Row)
    (m v : ℕ) (it : vm.Vm) (n : ℕ) (here : Bool) → are_sound row.disks ≡ true → is_vm_there effects it.vm ≡ here →
    IsSettledBy built want effects (in_doubt row m (calls.DeleteVm v) (Some it))
    (answered n (calls.HasVm it.vm) (yes_or_no here) (in_doubt row m (calls.DeleteVm v) (Some it)))
asks_has_vm built want effects row m v it n true sound is = record {
  less =
      ap (λ here.
      left_known want (after 0 (calls.HasVm it.vm) (yes_or_no here) (in_doubt row m (calls.DeleteVm v) (Some it))))
      (sym is);
  sound = sound;
  unlost = refl;
  known = refl;
}
asks_has_vm built want effects row m v it n false sound is = record {
  less =
      ap (λ here.
      left_known want (after 0 (calls.HasVm it.vm) (yes_or_no here) (in_doubt row m (calls.DeleteVm v) (Some it))))
      (sym is);
  sound = sound-map let_go keeps-let_go row.disks ∙ sound;
  unlost = refl;
  known = refl;
}

pub asks : (built : KeyWork → List Digest → Digest) (want : Option GoalRow) (effects : List Entry) (row : Row) (m : ℕ)
    (c : Call) (it : Option vm.Vm) → Asks built want effects (in_doubt row m c it)
asks built want effects row m (calls.CreateVm make hint) it sound new n call answer next is here =
    by_answer built want effects (in_doubt row m (calls.CreateVm make hint) it) (calls.FindVm m) call n answer
    (answers.Found (found_vm effects m)) next is refl
    (asks_found_vm built want effects row m make hint it (found_vm effects m) sound refl)
asks built want effects row m (calls.CreateDisk wanted v) it sound new n call answer next is here =
    by_answer built want effects (in_doubt row m (calls.CreateDisk wanted v) it) (calls.FindDisk m) call n answer
    (answers.Found (found_disk effects m)) next is refl
    (asks_found_disk built want effects row m wanted v it (found_disk effects m) sound refl new)
asks built want effects row m c None sound new n call answer next is here = absurd cc
asks built want effects row m (calls.DeleteVm v) (Some it) sound new n call answer next is here =
    by_answer built want effects (in_doubt row m (calls.DeleteVm v) (Some it)) (calls.HasVm it.vm) call n answer
    (yes_or_no (is_vm_there effects it.vm)) next is refl
    (asks_has_vm built want effects row m v it n (is_vm_there effects it.vm) sound refl)
asks built want effects row m (calls.AttachDisk v d) (Some it) sound new n call answer next is here =
    let says : answer_of built effects (calls.GetDisks it.vm) ≡ answers.Disks (attached_to effects it.vm) =
    not_gone built effects (calls.GetDisks it.vm) call answer (answers.Disks (attached_to effects it.vm))
    (is_vm_there effects it.vm) next is here refl in
    by_answer built want effects (in_doubt row m (calls.AttachDisk v d) (Some it)) (calls.GetDisks it.vm) call n answer
    (answers.Disks (attached_to effects it.vm)) next is says (record {
      less =
          ap (λ a. left_known want (after 0 (calls.GetDisks it.vm) a (in_doubt row m (calls.AttachDisk v d) (Some it))))
          (sym says);
      sound =
          sound-map (attached_by (attached_to effects it.vm)) (keeps-attached_by (attached_to effects it.vm)) row.disks
          ∙ sound;
      unlost = refl;
      known = refl;
    })
asks built want effects row m (calls.DetachDisk v d) (Some it) sound new n call answer next is here =
    let says : answer_of built effects (calls.GetDisks it.vm) ≡ answers.Disks (attached_to effects it.vm) =
    not_gone built effects (calls.GetDisks it.vm) call answer (answers.Disks (attached_to effects it.vm))
    (is_vm_there effects it.vm) next is here refl in
    by_answer built want effects (in_doubt row m (calls.DetachDisk v d) (Some it)) (calls.GetDisks it.vm) call n answer
    (answers.Disks (attached_to effects it.vm)) next is says (record {
      less =
          ap (λ a. left_known want (after 0 (calls.GetDisks it.vm) a (in_doubt row m (calls.DetachDisk v d) (Some it))))
          (sym says);
      sound =
          sound-map (attached_by (attached_to effects it.vm)) (keeps-attached_by (attached_to effects it.vm)) row.disks
          ∙ sound;
      unlost = refl;
      known = refl;
    })
asks built want effects row m (calls.MountDisk v d) (Some it) sound new n call answer next is here =
    let says : answer_of built effects (calls.ListDisk it.vm) ≡ answers.Disks (mounted_on effects it.vm) =
    not_gone built effects (calls.ListDisk it.vm) call answer (answers.Disks (mounted_on effects it.vm))
    (has_agent effects it.vm) next is here refl in
    by_answer built want effects (in_doubt row m (calls.MountDisk v d) (Some it)) (calls.ListDisk it.vm) call n answer
    (answers.Disks (mounted_on effects it.vm)) next is says (record {
      less =
          ap (λ a. left_known want (after 0 (calls.ListDisk it.vm) a (in_doubt row m (calls.MountDisk v d) (Some it))))
          (sym says);
      sound =
          sound-map (mounted_by (mounted_on effects it.vm)) (keeps-mounted_by (mounted_on effects it.vm)) row.disks
          ∙ sound;
      unlost = refl;
      known = refl;
    })
asks built want effects row m (calls.UnmountDisk v d) (Some it) sound new n call answer next is here =
    let says : answer_of built effects (calls.ListDisk it.vm) ≡ answers.Disks (mounted_on effects it.vm) =
    not_gone built effects (calls.ListDisk it.vm) call answer (answers.Disks (mounted_on effects it.vm))
    (has_agent effects it.vm) next is here refl in
    by_answer built want effects (in_doubt row m (calls.UnmountDisk v d) (Some it)) (calls.ListDisk it.vm) call n answer
    (answers.Disks (mounted_on effects it.vm)) next is says (record {
      less =
          ap (λ a. left_known want (after 0 (calls.ListDisk it.vm) a
          (in_doubt row m (calls.UnmountDisk v d) (Some it))))
          (sym says);
      sound =
          sound-map (mounted_by (mounted_on effects it.vm)) (keeps-mounted_by (mounted_on effects it.vm)) row.disks
          ∙ sound;
      unlost = refl;
      known = refl;
    })
asks built want effects row m c (Some it) sound new n call answer next is here =
    let says : answer_of built effects (calls.GetState it.vm)
    ≡ answers.Facts (spec_of effects it.vm) (runs effects it.vm) (is_drained effects it.vm) =
    not_gone built effects (calls.GetState it.vm) call answer
    (answers.Facts (spec_of effects it.vm) (runs effects it.vm) (is_drained effects it.vm)) (has_agent effects it.vm)
    next is here refl in
    by_answer built want effects (in_doubt row m c (Some it)) (calls.GetState it.vm) call n answer
    (answers.Facts (spec_of effects it.vm) (runs effects it.vm) (is_drained effects it.vm)) next is says (record {
      less =
          ap (λ a. left_known want (after 0 (calls.GetState it.vm) a (in_doubt row m c (Some it)))) (sym says);
      sound = sound;
      unlost = refl;
      known = refl;
    })
