-- What is asked or done for a lost row leaves less to do.
use Rattle.std.proofs.Common.{◌≡◌, ℕ, ◌+◌, ◌≤◌, Bool, true, false, Option, Some, None, List, refl, sym, ◌∙◌, ap, subst, arith}
use Rattle.std.specs.Prelude.{map}
use Rattle.std.proofs.lemmas.Bool.{not-true}
use Rattle.std.proofs.lemmas.Option.{same_Some}
use Rattle.bosh_base.specs.CallStep.{answer_of, found_disk, unless_gone, yes_or_no}
use Rattle.bosh_base.specs.Cloud.{is_vm_there}
use Rattle.bosh_base.specs.declared.answer.Answer.{Answer}
use Rattle.bosh_base.specs.declared.answer.Answer.TheVariants as answers
use Rattle.bosh_base.specs.declared.call.Call.{Call}
use Rattle.bosh_base.specs.declared.call.Call.TheVariants as calls
use Rattle.bosh_base.specs.declared.digest.Digest.{Digest}
use Rattle.bosh_base.specs.declared.disk_want.DiskWant.{DiskWant}
use Rattle.bosh_base.specs.declared.entry.Entry.{Entry}
use Rattle.bosh_base.specs.declared.goal.GoalRow.{GoalRow}
use Rattle.bosh_base.specs.declared.key.KeyWork.{KeyWork}
use Rattle.bosh_base.specs.declared.row.Doubt as doubt
use Rattle.bosh_base.specs.declared.row.Row.{Row}
use Rattle.bosh_base.specs.declared.row.Vm as vm
use Rattle.bosh_rows.specs.After.{let_go, with_disk, without_machine}
use Rattle.bosh_rows.specs.CallOf.{next_call}
use Rattle.laws_rows.proofs.FallLemmas.{answered}
use Rattle.laws_rows.proofs.SettledLemmas.{sound-found}
use Rattle.laws_rows.proofs.SoundLemmas.{sound-map}
use Rattle.laws_rows.proofs.WorkLemmas.{from_nothing-same, keeps-let_go, let_go-all}
use Rattle.laws_rows.specs.Left.{calls_left, left_from_nothing}
use Rattle.laws_rows.specs.SoundDisks.{are_sound, is_found_new, is_new_disk, is_recorded}

-- a lost row in this doubt, with this machine
abbrev pub as_lost : Row → Option doubt.Doubt → Option vm.Vm → Row
as_lost row doubt it = record row { doubt = doubt; vm = it; lost = true }

-- less is left, and the disks are sound; nothing is in doubt then
pub record IsLeft (built : KeyWork → List Digest → Digest) (want : Option GoalRow) (effects later : List Entry)
    (row new : Row) : Type 0 where
  pub less : calls_left built want later new + 1 ≤ calls_left built want effects row
  pub sound : are_sound new.disks ≡ true
  pub known : new.doubt ≡ None

-- .. and the row has two calls and what a new machine needs at most
pub record IsLostLeft (built : KeyWork → List Digest → Digest) (want : Option GoalRow) (effects later : List Entry)
    (row new : Row) : Type 0 where
  pub left : IsLeft built want effects later row new
  pub most : calls_left built want effects row ≤ 2 + left_from_nothing want new.disks

abbrev Asks : (KeyWork → List Digest → Digest) → Option GoalRow → List Entry → List Entry → Row → Type 0
Asks built want effects later row =
    are_sound row.disks ≡ true → is_found_new effects row ≡ true → (n : ℕ) (call : Call) (answer : Answer) →
    next_call want row ≡ Some call → answer ≡ answer_of built effects call →
    IsLostLeft built want effects later row (answered n call answer row)

by_answer : (built : KeyWork → List Digest → Digest) (want : Option GoalRow) (effects later : List Entry) (row : Row)
    (c call : Call) (n : ℕ) (answer : Answer) → Some c ≡ Some call → answer ≡ answer_of built effects call →
    IsLostLeft built want effects later row (answered n c (answer_of built effects c) row) →
    IsLostLeft built want effects later row (answered n call answer row)
by_answer built want effects later row c call n answer next is shown =
    let same : c ≡ call = same_Some c call next in
    subst (λ (it : Call). IsLostLeft built want effects later row (answered n it answer row)) same
    (subst (λ (it : Answer). IsLostLeft built want effects later row (answered n c it row))
    (sym (is ∙ ap (answer_of built effects) (sym same))) shown)

-- the machine is gone, whether it was there or not
deleted : (built : KeyWork → List Digest → Digest) (want : Option GoalRow) (effects later : List Entry) (row : Row)
    (doubt : Option doubt.Doubt) (it : vm.Vm) (n : ℕ) (here : Bool) → are_sound row.disks ≡ true →
    calls_left built want effects (as_lost row doubt (Some it)) ≡ 1 + left_from_nothing want row.disks →
    IsLostLeft built want effects later (as_lost row doubt (Some it))
    (answered n (calls.DeleteVm it.vm) (unless_gone here answers.Done) (as_lost row doubt (Some it)))
deleted built want effects later row doubt it n here sound before = by_here here
  where
    gone : IsLostLeft built want effects later (as_lost row doubt (Some it))
        (without_machine (as_lost row doubt (Some it)))
    gone =
        let nothing : left_from_nothing want (map let_go row.disks) ≡ left_from_nothing want row.disks =
        from_nothing-same want row.disks (map let_go row.disks) (let_go-all row.disks) in record {
          left = record {
            less = omega arith;
            sound = sound-map let_go keeps-let_go row.disks ∙ sound;
            known = refl;
          };
          most = omega arith;
        }

    by_here : (b : Bool) → IsLostLeft built want effects later (as_lost row doubt (Some it))
        (answered n (calls.DeleteVm it.vm) (unless_gone b answers.Done) (as_lost row doubt (Some it)))
    by_here true = gone
    by_here false = gone

asks_has_vm : (built : KeyWork → List Digest → Digest) (want : Option GoalRow) (effects later : List Entry)
    (row : Row) (m v : ℕ) (it : vm.Vm) (n : ℕ) (here : Bool) → are_sound row.disks ≡ true →
    is_vm_there effects it.vm ≡ here →
    IsLostLeft built want effects later (as_lost row (Some (record { n = m; call = calls.DeleteVm v })) (Some it))
    (answered n (calls.HasVm it.vm) (yes_or_no here)
    (as_lost row (Some (record { n = m; call = calls.DeleteVm v })) (Some it)))
asks_has_vm built want effects later row m v it n true sound is =
    let before : calls_left built want effects
    (as_lost row (Some (record { n = m; call = calls.DeleteVm v })) (Some it))
    ≡ 2 + left_from_nothing want row.disks =
    ap (λ here. 2 + left_from_nothing want (answered 0 (calls.HasVm it.vm) (yes_or_no here)
    (as_lost row (Some (record { n = m; call = calls.DeleteVm v })) (Some it))).disks) is in record {
      left = record { less = omega arith; sound = sound; known = refl };
      most = omega arith;
    }
asks_has_vm built want effects later row m v it n false sound is =
    let before : calls_left built want effects
    (as_lost row (Some (record { n = m; call = calls.DeleteVm v })) (Some it))
    ≡ 2 + left_from_nothing want (map let_go row.disks) =
    ap (λ here. 2 + left_from_nothing want (answered 0 (calls.HasVm it.vm) (yes_or_no here)
    (as_lost row (Some (record { n = m; call = calls.DeleteVm v })) (Some it))).disks) is in
    let nothing : left_from_nothing want (map let_go row.disks) ≡ left_from_nothing want row.disks =
    from_nothing-same want row.disks (map let_go row.disks) (let_go-all row.disks) in record {
      left = record {
        less = omega arith;
        sound = sound-map let_go keeps-let_go row.disks ∙ sound;
        known = refl;
      };
      most = omega arith;
    }

asks_disk : (built : KeyWork → List Digest → Digest) (want : Option GoalRow) (effects later : List Entry) (row : Row)
    (m : ℕ) (wanted : DiskWant) (v : ℕ) (it : Option vm.Vm) (found : Option ℕ) → are_sound row.disks ≡ true →
    found_disk effects m ≡ found → is_new_disk row.disks (found_disk effects m) ≡ true →
    IsLostLeft built want effects later (as_lost row (Some (record { n = m; call = calls.CreateDisk wanted v })) it)
    (with_disk m wanted found (as_lost row (Some (record { n = m; call = calls.CreateDisk wanted v })) it))
asks_disk built want effects later row m wanted v it None sound is new =
    let before : calls_left built want effects
    (as_lost row (Some (record { n = m; call = calls.CreateDisk wanted v })) it)
    ≡ 2 + left_from_nothing want row.disks =
    ap (λ found. 2 + left_from_nothing want (with_disk m wanted found
    (as_lost row (Some (record { n = m; call = calls.CreateDisk wanted v })) it)).disks) is in record {
      left = record { less = omega arith; sound = sound; known = refl };
      most = omega arith;
    }
asks_disk built want effects later row m wanted v it (Some d) sound is new =
    let before : calls_left built want effects
    (as_lost row (Some (record { n = m; call = calls.CreateDisk wanted v })) it)
    ≡ 2 + left_from_nothing want (with_disk m wanted (Some d)
    (as_lost row (Some (record { n = m; call = calls.CreateDisk wanted v })) it)).disks =
    ap (λ found. 2 + left_from_nothing want (with_disk m wanted found
    (as_lost row (Some (record { n = m; call = calls.CreateDisk wanted v })) it)).disks) is in record {
      left = record {
        less = omega arith;
        sound =
            sound-found row.disks d m wanted sound
            (not-true (is_recorded row.disks d) (sym (ap (is_new_disk row.disks) is) ∙ new));
        known = refl;
      };
      most = omega arith;
    }

pub asks : (built : KeyWork → List Digest → Digest) (want : Option GoalRow) (effects later : List Entry) (row : Row)
    (doubt : Option doubt.Doubt) (it : Option vm.Vm) → Asks built want effects later (as_lost row doubt it)
asks built want effects later row None None sound new n call answer next is = absurd cc
asks built want effects later row None (Some it) sound new n call answer next is =
    by_answer built want effects later (as_lost row None (Some it)) (calls.DeleteVm it.vm) call n answer next is
    (deleted built want effects later row None it n (is_vm_there effects it.vm) sound refl)
asks built want effects later row (Some doubt) it sound new n call answer next is =
    by_call doubt.n doubt.call it new next
  where
    by_call : (m : ℕ) (c : Call) (it : Option vm.Vm) →
        is_found_new effects (as_lost row (Some (record { n = m; call = c })) it) ≡ true →
        next_call want (as_lost row (Some (record { n = m; call = c })) it) ≡ Some call →
        IsLostLeft built want effects later (as_lost row (Some (record { n = m; call = c })) it)
        (answered n call answer (as_lost row (Some (record { n = m; call = c })) it))
    by_call m (calls.CreateDisk wanted v) it new next =
        by_answer built want effects later (as_lost row (Some (record { n = m; call = calls.CreateDisk wanted v })) it)
        (calls.FindDisk m) call n answer next is
        (asks_disk built want effects later row m wanted v it (found_disk effects m) sound refl new)
    by_call m c None new next = absurd cc
    by_call m (calls.DeleteVm v) (Some it) new next =
        by_answer built want effects later (as_lost row (Some (record { n = m; call = calls.DeleteVm v })) (Some it))
        (calls.HasVm it.vm) call n answer next is
        (asks_has_vm built want effects later row m v it n (is_vm_there effects it.vm) sound refl)
    by_call m c (Some it) new next =
        by_answer built want effects later (as_lost row (Some (record { n = m; call = c })) (Some it))
        (calls.DeleteVm it.vm) call n answer next is
        (deleted built want effects later row (Some (record { n = m; call = c })) it n (is_vm_there effects it.vm) sound
        refl)
