-- One call keeps the tie of a row that is lost or spoiled: where its machine goes or is asked for, and where a disk
-- is made
-- or found.
use Rattle.std.proofs.Common.{◌≡◌, ℕ, ◌+◌, Bool, true, false, Option, Some, None, List, refl, sym, ◌∙◌, ap, subst, inl, inr}
use Rattle.std.specs.Prelude.{◌&&◌, ◌||◌, ◌==◌, not, if◌then◌else◌}
use Rattle.std.specs.List.{list_all, list_any}
use Rattle.std.specs.Option.{option_eq}
use Rattle.std.proofs.lemmas.Bool.{and_parts, and_from, eq-eqb}
use Rattle.bosh_base.specs.CallStep.{CallStep, found_disk, is_gone, takes_effect, unless_gone, yes_or_no}
use Rattle.bosh_base.specs.Cloud.{disks_created, is_disk_there, is_vm_there, vm_creation, want_of, when}
use Rattle.bosh_base.specs.ExactParts.{Decides-disk_want}
use Rattle.bosh_base.specs.History.{chosen}
use Rattle.bosh_base.specs.declared.answer.Answer.{Answer}
use Rattle.bosh_base.specs.declared.answer.Answer.TheVariants as answers
use Rattle.bosh_base.specs.declared.call.Call.{Call}
use Rattle.bosh_base.specs.declared.call.Call.TheVariants as calls
use Rattle.bosh_base.specs.declared.digest.Digest.{Digest}
use Rattle.bosh_base.specs.declared.disk_want.DiskWant.{DiskWant}
use Rattle.bosh_base.specs.declared.entry.Entry.{Entry}
use Rattle.bosh_base.specs.declared.entry.Entry.TheVariants.{Effect}
use Rattle.bosh_base.specs.declared.goal.GoalRow.{GoalRow}
use Rattle.bosh_base.specs.declared.key.KeyWork.{KeyWork}
use Rattle.bosh_base.specs.declared.owner.Owner.TheVariants.{Instance}
use Rattle.bosh_base.specs.declared.row.DiskRow.{DiskRow}
use Rattle.bosh_base.specs.declared.row.Doubt as doubt
use Rattle.bosh_base.specs.declared.row.Row.{Row}
use Rattle.bosh_base.specs.declared.row.Vm as vm
use Rattle.laws_effects.proofs.CreationLemmas.{is_vm_there-grown, vm_creation-grown}
use Rattle.laws_effects.proofs.HolderLemmas.{held_by_own}
use Rattle.laws_effects.specs.Holders.{AreHeldByTheirOwn}
use Rattle.bosh_rows.specs.After.{begun_row, with_disk, without_machine}
use Rattle.bosh_rows.specs.CallOf.{next_call}
use Rattle.bosh_rows.specs.Same.{same_make, same_want}
use Rattle.bosh_rows.specs.Tied.{IsTiedRow, is_disk_kept, is_made_for, is_named_lost, is_spoiled, number_of, was_provided}
use Rattle.laws_rows.proofs.FallLemmas.{answered}
use Rattle.laws_rows.proofs.FoundLemmas.{IsFoundDisk, disk-among, disk-found}
use Rattle.laws_rows.proofs.KnownTieLemmas.{Keeps}
use Rattle.laws_rows.proofs.ListLemmas.{all_from, all_in}
use Rattle.laws_rows.proofs.MakeTieLemmas.{all_more, kept_made, mine_in, new_kept}
use Rattle.laws_rows.proofs.ProbeTieLemmas.{asks_only, next_is, owner-same}
use Rattle.laws_rows.proofs.NewDiskLemmas.{found_row}
use Rattle.laws_rows.proofs.StepCases.{Cases, by_cases}
use Rattle.laws_rows.proofs.TieLemmas.{StaysDisks, StaysMachines, of_row, with_call}
use Rattle.laws_rows.proofs.WeakTieLemmas as weak
use Rattle.laws_rows.proofs.WeakTieLemmas.{IsLoose, IsSameRow, IsWeak, bare-tied, done-tied, less_mine, quiet, same_kept, still-tied, unchanged, weak-from, weak-parts, weak-same}
use Rattle.laws_rows.proofs.WholeTieLemmas.{spoiled-same, tied-weak, tied-whole}
use Rattle.laws_rows.specs.Rightful.{IsRightful, done_with}

-- ---- a machine goes

by_absence : (b here : Bool) → chosen (when b false) here ≡ true → here ≡ true
by_absence true here is = absurd cc
by_absence false here is = is

-- after a deletion the machines that are there were there
deleted_mine : (xs : List Entry) (row : Row) (n : ℕ) (dep : List ℕ) (v u : ℕ) →
    mine_in (with_call xs row n dep (calls.DeleteVm v)) row u ≡ true → mine_in xs row u ≡ true
deleted_mine xs row n dep v u mine =
    let parts : (is_vm_there (with_call xs row n dep (calls.DeleteVm v)) u ≡ true) × _ =
    and_parts (is_vm_there (with_call xs row n dep (calls.DeleteVm v)) u)
    (is_made_for (Instance row.inst) (vm_creation (with_call xs row n dep (calls.DeleteVm v)) u)) mine in
    and_from (is_vm_there xs u) (is_made_for (Instance row.inst) (vm_creation xs u))
    (by_absence (v == u) (is_vm_there xs u)
    (sym (is_vm_there-grown xs (Effect (of_row row n dep (calls.DeleteVm v))) u) ∙ parts.0))
    (sym (ap (is_made_for (Instance row.inst)) (vm_creation-grown xs (Effect (of_row row n dep (calls.DeleteVm v))) u))
    ∙ parts.1)

deletes : (built : KeyWork → List Digest → Digest) (effects : List Entry) (row : Row) (it : vm.Vm) →
    IsLoose effects row → row.vm ≡ Some it → Keeps built effects row (calls.DeleteVm it.vm)
deletes built effects row it loose has n dep has_effect answer fresh step = by_step step
  where
    disks : StaysDisks (calls.DeleteVm it.vm)
    disks = record { creates = refl; stays = λ d m. refl }

    begun_tied : (b : Bool) →
        IsTiedRow (done_with b effects (of_row row n dep (calls.DeleteVm it.vm))) (begun_row n (calls.DeleteVm it.vm) row)
    begun_tied true =
        done-tied effects row (begun_row n (calls.DeleteVm it.vm) row) n dep (calls.DeleteVm it.vm) loose
        (unchanged row (begun_row n (calls.DeleteVm it.vm) row) refl refl refl refl)
        (λ v mine. deleted_mine effects row n dep it.vm v mine)
        (same_kept effects row n dep (calls.DeleteVm it.vm) disks)
    begun_tied false =
        still-tied effects row (begun_row n (calls.DeleteVm it.vm) row) loose
        (unchanged row (begun_row n (calls.DeleteVm it.vm) row) refl refl refl refl)

    done_weak : IsWeak (with_call effects row n dep (calls.DeleteVm it.vm)) row
    done_weak =
        weak-same effects (with_call effects row n dep (calls.DeleteVm it.vm)) row row loose.weak
        (unchanged row row refl refl refl refl) (λ v mine. deleted_mine effects row n dep it.vm v mine)
        (same_kept effects row n dep (calls.DeleteVm it.vm) disks)

    done_there : is_vm_there (with_call effects row n dep (calls.DeleteVm it.vm)) it.vm ≡ false
    done_there =
        is_vm_there-grown effects (Effect (of_row row n dep (calls.DeleteVm it.vm))) it.vm
        ∙ ap (λ b. chosen (when b false) (is_vm_there effects it.vm)) (eq-eqb it.vm it.vm refl)

    done_own : is_vm_there effects it.vm ≡ true →
        AreHeldByTheirOwn (with_call effects row n dep (calls.DeleteVm it.vm))
    done_own here =
        held_by_own built effects (Effect (of_row row n dep (calls.DeleteVm it.vm))) loose.right.orderly
        (ap (λ b. true && not (is_gone (unless_gone b answers.Done))) here) loose.right.own tt

    -- the answer by whether the machine is there
    by_there : (b : Bool) → is_vm_there effects it.vm ≡ b →
        IsTiedRow (done_with (true && not (is_gone (unless_gone b answers.Done))) effects
        (of_row row n dep (calls.DeleteVm it.vm)))
        (answered n (calls.DeleteVm it.vm) (unless_gone b answers.Done) row)
    by_there true here =
        tied-whole (with_call effects row n dep (calls.DeleteVm it.vm)) (without_machine row) refl
        (bare-tied (with_call effects row n dep (calls.DeleteVm it.vm)) row it has done_weak (done_own here) done_there)
    by_there false gone = by_loss row.lost refl
      where
        by_loss : (lost : Bool) → row.lost ≡ lost → IsTiedRow effects
            (if lost then without_machine (begun_row n (calls.DeleteVm it.vm) row)
            else record (begun_row n (calls.DeleteVm it.vm) row) { doubt = None })
        by_loss true is =
            tied-whole effects (without_machine row) refl
            (bare-tied effects row it has loose.weak loose.right.own gone)
        by_loss false is =
            still-tied effects row (record (begun_row n (calls.DeleteVm it.vm) row) { doubt = None }) loose
            (unchanged row (record (begun_row n (calls.DeleteVm it.vm) row) { doubt = None }) refl refl refl refl)

    by_step : CallStep built effects (calls.DeleteVm it.vm) has_effect answer →
        IsTiedRow (done_with has_effect effects (of_row row n dep (calls.DeleteVm it.vm)))
        (answered n (calls.DeleteVm it.vm) answer row)
    by_step (inl (is, effect_is)) =
        subst (λ (b : Bool). IsTiedRow (done_with b effects (of_row row n dep (calls.DeleteVm it.vm)))
        (answered n (calls.DeleteVm it.vm) answer row)) (sym effect_is)
        (subst (λ (a : Answer). IsTiedRow (done_with (takes_effect built effects (calls.DeleteVm it.vm)) effects
        (of_row row n dep (calls.DeleteVm it.vm))) (answered n (calls.DeleteVm it.vm) a row)) (sym is)
        (by_there (is_vm_there effects it.vm) refl))
    by_step (inr (failed, may)) =
        subst (λ (a : Answer). IsTiedRow (done_with has_effect effects (of_row row n dep (calls.DeleteVm it.vm)))
        (answered n (calls.DeleteVm it.vm) a row)) (sym failed) (begun_tied has_effect)

-- it is asked whether it is there
asks_there : (built : KeyWork → List Digest → Digest) (effects : List Entry) (row : Row) (it : vm.Vm) →
    IsTiedRow effects row → IsLoose effects row → row.vm ≡ Some it → Keeps built effects row (calls.HasVm it.vm)
asks_there built effects row it tied loose has =
    asks_only built effects row (calls.HasVm it.vm) refl tied (λ n. refl)
    (λ n. by_there n (is_vm_there effects it.vm) refl)
  where
    by_there : (n : ℕ) (b : Bool) → is_vm_there effects it.vm ≡ b →
        IsTiedRow effects (answered n (calls.HasVm it.vm) (yes_or_no b) row)
    by_there n true here =
        still-tied effects row (record row { doubt = None }) loose
        (unchanged row (record row { doubt = None }) refl refl refl refl)
    by_there n false gone =
        tied-whole effects (without_machine row) refl (bare-tied effects row it has loose.weak loose.right.own gone)

-- ---- a disk is made

created_kept : (effects : List Entry) (row new : Row) (wanted : DiskWant) (v n : ℕ) (dep : List ℕ) →
    new.inst ≡ row.inst → list_all (is_disk_kept effects row) row.disks ≡ true →
    list_all (is_disk_kept (with_call effects row n dep (calls.CreateDisk wanted v)) new) row.disks ≡ true
created_kept effects row new wanted v n dep inst kept =
    all_from (is_disk_kept (with_call effects row n dep (calls.CreateDisk wanted v)) new) row.disks
    (λ d is. kept_made effects row new wanted v n dep inst d (all_in (is_disk_kept effects row) d row.disks kept is))

creates_disk : (built : KeyWork → List Digest → Digest) (effects : List Entry) (row : Row) (it : vm.Vm)
    (wanted : DiskWant) → IsLoose effects row → Keeps built effects row (calls.CreateDisk wanted it.vm)
creates_disk built effects row it wanted loose n dep has_effect answer fresh step = by_step step
  where
    machines : StaysMachines (calls.CreateDisk wanted it.vm)
    machines = record { creates = refl; stays = λ v m. refl }

    marked : (new : Row) → new.vm ≡ row.vm → new.lost ≡ row.lost →
        (new.lost || is_spoiled (with_call effects row n dep (calls.CreateDisk wanted it.vm)) new) ≡ true
    marked new same_vm same_lost =
        ap (λ b. new.lost || b) (spoiled-same effects (of_row row n dep (calls.CreateDisk wanted it.vm)) new)
        ∙ (λ i. same_lost i || list_any (is_named_lost effects) (number_of (same_vm i))) ∙ loose.marked

    with_new : IsTiedRow (with_call effects row n dep (calls.CreateDisk wanted it.vm))
        (answered n (calls.CreateDisk wanted it.vm) (answers.Cid (disks_created effects + 1)) row)
    with_new =
        tied-weak (with_call effects row n dep (calls.CreateDisk wanted it.vm))
        (answered n (calls.CreateDisk wanted it.vm) (answers.Cid (disks_created effects + 1)) row)
        (marked (answered n (calls.CreateDisk wanted it.vm) (answers.Cid (disks_created effects + 1)) row) refl refl)
        (weak-from (with_call effects row n dep (calls.CreateDisk wanted it.vm))
        (answered n (calls.CreateDisk wanted it.vm) (answers.Cid (disks_created effects + 1)) row) (record {
          machines = λ v mine. loose.weak.machines v
              (less_mine effects row n dep (calls.CreateDisk wanted it.vm) machines v mine);
          kept =
              all_more (is_disk_kept (with_call effects row n dep (calls.CreateDisk wanted it.vm))
              (answered n (calls.CreateDisk wanted it.vm) (answers.Cid (disks_created effects + 1)) row)) row.disks
              (found_row (disks_created effects + 1) n wanted row.disks)
              (created_kept effects row
              (answered n (calls.CreateDisk wanted it.vm) (answers.Cid (disks_created effects + 1)) row) wanted it.vm n
              dep refl loose.weak.kept)
              (new_kept effects row
              (answered n (calls.CreateDisk wanted it.vm) (answers.Cid (disks_created effects + 1)) row) wanted it.vm n
              dep row.disks refl);
        }))

    begun_tied : (b : Bool) → IsTiedRow (done_with b effects (of_row row n dep (calls.CreateDisk wanted it.vm)))
        (begun_row n (calls.CreateDisk wanted it.vm) row)
    begun_tied true =
        tied-weak (with_call effects row n dep (calls.CreateDisk wanted it.vm))
        (begun_row n (calls.CreateDisk wanted it.vm) row)
        (marked (begun_row n (calls.CreateDisk wanted it.vm) row) refl refl)
        (weak-from (with_call effects row n dep (calls.CreateDisk wanted it.vm))
        (begun_row n (calls.CreateDisk wanted it.vm) row) (record {
          machines = λ v mine. loose.weak.machines v
              (less_mine effects row n dep (calls.CreateDisk wanted it.vm) machines v mine);
          kept =
              created_kept effects row (begun_row n (calls.CreateDisk wanted it.vm) row) wanted it.vm n dep refl
              loose.weak.kept;
        }))
    begun_tied false =
        still-tied effects row (begun_row n (calls.CreateDisk wanted it.vm) row) loose
        (unchanged row (begun_row n (calls.CreateDisk wanted it.vm) row) refl refl refl refl)

    by_there : (b : Bool) →
        IsTiedRow (done_with (true && not (is_gone (unless_gone b (answers.Cid (disks_created effects + 1))))) effects
        (of_row row n dep (calls.CreateDisk wanted it.vm)))
        (answered n (calls.CreateDisk wanted it.vm) (unless_gone b (answers.Cid (disks_created effects + 1))) row)
    by_there true = with_new
    by_there false =
        still-tied effects row (record (begun_row n (calls.CreateDisk wanted it.vm) row) { doubt = None }) loose
        (unchanged row (record (begun_row n (calls.CreateDisk wanted it.vm) row) { doubt = None }) refl refl refl refl)

    by_step : CallStep built effects (calls.CreateDisk wanted it.vm) has_effect answer →
        IsTiedRow (done_with has_effect effects (of_row row n dep (calls.CreateDisk wanted it.vm)))
        (answered n (calls.CreateDisk wanted it.vm) answer row)
    by_step (inl (is, effect_is)) =
        subst (λ (b : Bool). IsTiedRow (done_with b effects (of_row row n dep (calls.CreateDisk wanted it.vm)))
        (answered n (calls.CreateDisk wanted it.vm) answer row)) (sym effect_is)
        (subst (λ (a : Answer). IsTiedRow (done_with (takes_effect built effects (calls.CreateDisk wanted it.vm))
        effects
        (of_row row n dep (calls.CreateDisk wanted it.vm))) (answered n (calls.CreateDisk wanted it.vm) a row)) (sym is)
        (by_there (is_vm_there effects it.vm)))
    by_step (inr (failed, may)) =
        subst (λ (a : Answer). IsTiedRow (done_with has_effect effects
        (of_row row n dep (calls.CreateDisk wanted it.vm)))
        (answered n (calls.CreateDisk wanted it.vm) a row)) (sym failed) (begun_tied has_effect)

-- ---- a disk is found

-- what is found by the number of the call in doubt was made for the instance, as it was asked
pub found_kept : (effects : List Entry) (row new : Row) (m v d : ℕ) (wanted : DiskWant) (xs : List DiskRow) →
    IsRightful effects row → row.doubt ≡ Some (record { n = m; call = calls.CreateDisk wanted v }) →
    new.inst ≡ row.inst → found_disk effects m ≡ Some d →
    is_disk_kept effects new (found_row d m wanted xs) ≡ true
found_kept effects row new m v d wanted xs right doubts inst is = by_found (disk-found effects m d is)
  where
    by_found : IsFoundDisk effects m d → is_disk_kept effects new (found_row d m wanted xs) ≡ true
    by_found it =
        let call : it.e.call ≡ calls.CreateDisk wanted v =
        right.call (record { n = m; call = calls.CreateDisk wanted v }) it.e doubts (disk-among effects d it.e it.made)
        it.number in
        let owner : it.e.owner ≡ Instance row.inst =
        right.owner (record { n = m; call = calls.CreateDisk wanted v }) it.e doubts (disk-among effects d it.e it.made)
        it.number in
        and_from (is_disk_there effects d) _ it.there
        ((λ i. was_provided (Instance (inst i)) m wanted (it.made i))
        ∙ and_from _ _ (owner-same it.e row owner)
        (and_from (it.e.n == m) _ (eq-eqb it.e.n m it.number)
        (ap (λ c. option_eq same_want (want_of c) (Some wanted)) call ∙ (Decides-disk_want wanted wanted).1 refl)))

finds_disk : (built : KeyWork → List Digest → Digest) (effects : List Entry) (row : Row) (m v : ℕ)
    (wanted : DiskWant) →
    IsTiedRow effects (record row { doubt = Some (record { n = m; call = calls.CreateDisk wanted v }) }) →
    IsLoose effects (record row { doubt = Some (record { n = m; call = calls.CreateDisk wanted v }) }) →
    Keeps built effects (record row { doubt = Some (record { n = m; call = calls.CreateDisk wanted v }) })
    (calls.FindDisk m)
finds_disk built effects row m v wanted tied loose =
    asks_only built effects (record row { doubt = Some (record { n = m; call = calls.CreateDisk wanted v }) })
    (calls.FindDisk m) refl tied (λ n. refl) (λ n. by_found (found_disk effects m) refl)
  where
    by_found : (found : Option ℕ) → found_disk effects m ≡ found →
        IsTiedRow effects (with_disk m wanted found
        (record row { doubt = Some (record { n = m; call = calls.CreateDisk wanted v }) }))
    by_found None is =
        still-tied effects (record row { doubt = Some (record { n = m; call = calls.CreateDisk wanted v }) })
        (record row { doubt = None }) loose
        (unchanged (record row { doubt = Some (record { n = m; call = calls.CreateDisk wanted v }) })
        (record row { doubt = None }) refl refl refl refl)
    by_found (Some d) is =
        tied-weak effects (with_disk m wanted (Some d) row) loose.marked
        (weak-from effects (with_disk m wanted (Some d) row) (record {
          machines = loose.weak.machines;
          kept =
              all_more (is_disk_kept effects (with_disk m wanted (Some d) row)) row.disks
              (found_row d m wanted row.disks)
              loose.weak.kept
              (found_kept effects
              (record row { doubt = Some (record { n = m; call = calls.CreateDisk wanted v }) })
              (with_disk m wanted (Some d) row) m v d wanted row.disks loose.right refl refl is);
        }))

-- ---- the next call of a lost row

abbrev pub AsksLoose : (KeyWork → List Digest → Digest) → Option GoalRow → List Entry → Row → Type 0
AsksLoose built want effects row =
    IsTiedRow effects row → IsLoose effects row → (call : Call) → next_call want row ≡ Some call →
    Keeps built effects row call

lost_asks : (built : KeyWork → List Digest → Digest) (want : Option GoalRow) (effects : List Entry) (row : Row)
    (d : Option doubt.Doubt) (it : Option vm.Vm) →
    AsksLoose built want effects (record row { doubt = d; vm = it; lost = true })
lost_asks built want effects row None None tied loose call next = absurd cc
lost_asks built want effects row None (Some it) tied loose call next =
    next_is built effects (record row { doubt = None; vm = Some it; lost = true }) (calls.DeleteVm it.vm) call next
    (deletes built effects (record row { doubt = None; vm = Some it; lost = true }) it loose refl)
lost_asks built want effects row (Some d) it tied loose call next = by_call d.n d.call it tied loose next
  where
    by_call : (m : ℕ) (c : Call) (it : Option vm.Vm) →
        IsTiedRow effects (record row { doubt = Some (record { n = m; call = c }); vm = it; lost = true }) →
        IsLoose effects (record row { doubt = Some (record { n = m; call = c }); vm = it; lost = true }) →
        next_call want (record row { doubt = Some (record { n = m; call = c }); vm = it; lost = true }) ≡ Some call →
        Keeps built effects (record row { doubt = Some (record { n = m; call = c }); vm = it; lost = true }) call
    by_call m (calls.CreateDisk wanted v) it tied loose next =
        next_is built effects
        (record row { doubt = Some (record { n = m; call = calls.CreateDisk wanted v }); vm = it; lost = true })
        (calls.FindDisk m) call next
        (finds_disk built effects (record row { vm = it; lost = true }) m v wanted tied loose)
    by_call m c None tied loose next = absurd cc
    by_call m (calls.DeleteVm v) (Some it) tied loose next =
        next_is built effects
        (record row { doubt = Some (record { n = m; call = calls.DeleteVm v }); vm = Some it; lost = true })
        (calls.HasVm it.vm) call next
        (asks_there built effects
        (record row { doubt = Some (record { n = m; call = calls.DeleteVm v }); vm = Some it; lost = true }) it tied
        loose
        refl)
    by_call m c (Some it) tied loose next =
        next_is built effects (record row { doubt = Some (record { n = m; call = c }); vm = Some it; lost = true })
        (calls.DeleteVm it.vm) call next
        (deletes built effects (record row { doubt = Some (record { n = m; call = c }); vm = Some it; lost = true }) it
        loose refl)

pub lost-keeps : (built : KeyWork → List Digest → Digest) (want : Option GoalRow) (effects : List Entry) (row : Row) →
    row.lost ≡ true → AsksLoose built want effects row
lost-keeps built want effects row is =
    subst (λ (r : Row). AsksLoose built want effects r) (λ i. record row { lost = sym is i })
    (lost_asks built want effects row row.doubt row.vm)

-- ---- .. of a spoiled row in doubt

spoiled_asks : (built : KeyWork → List Digest → Digest) (want : Option GoalRow) (effects : List Entry) (row : Row)
    (m : ℕ) (c : Call) (it : Option vm.Vm) →
    AsksLoose built want effects (record row { doubt = Some (record { n = m; call = c }); vm = it; lost = false })
spoiled_asks built want effects row m c None tied loose call next = absurd
    (let marked : (false || false) ≡ true = loose.marked in cc)
spoiled_asks built want effects row m (calls.CreateVm make hint) (Some it) tied loose call next =
    absurd (let fit : (false && option_eq same_make row.make (Some make)) ≡ true = loose.right.fit in cc)
spoiled_asks built want effects row m (calls.CreateDisk wanted v) (Some it) tied loose call next =
    next_is built effects
    (record row { doubt = Some (record { n = m; call = calls.CreateDisk wanted v }); vm = Some it; lost = false })
    (calls.FindDisk m) call next
    (finds_disk built effects (record row { vm = Some it; lost = false }) m v wanted tied loose)
spoiled_asks built want effects row m (calls.DeleteVm v) (Some it) tied loose call next =
    next_is built effects
    (record row { doubt = Some (record { n = m; call = calls.DeleteVm v }); vm = Some it; lost = false })
    (calls.HasVm it.vm) call next
    (asks_there built effects
    (record row { doubt = Some (record { n = m; call = calls.DeleteVm v }); vm = Some it; lost = false }) it tied loose
    refl)
spoiled_asks built want effects row m (calls.AttachDisk v x) (Some it) tied loose call next =
    next_is built effects
    (record row { doubt = Some (record { n = m; call = calls.AttachDisk v x }); vm = Some it; lost = false })
    (calls.GetDisks it.vm) call next
    (quiet built effects
    (record row { doubt = Some (record { n = m; call = calls.AttachDisk v x }); vm = Some it; lost = false })
    (calls.GetDisks it.vm) loose (record { creates = refl; stays = λ u k. refl })
    (record { creates = refl; stays = λ d k. refl }) (λ n answer. weak.lists n it.vm _ answer))
spoiled_asks built want effects row m (calls.DetachDisk v x) (Some it) tied loose call next =
    next_is built effects
    (record row { doubt = Some (record { n = m; call = calls.DetachDisk v x }); vm = Some it; lost = false })
    (calls.GetDisks it.vm) call next
    (quiet built effects
    (record row { doubt = Some (record { n = m; call = calls.DetachDisk v x }); vm = Some it; lost = false })
    (calls.GetDisks it.vm) loose (record { creates = refl; stays = λ u k. refl })
    (record { creates = refl; stays = λ d k. refl }) (λ n answer. weak.lists n it.vm _ answer))
spoiled_asks built want effects row m (calls.MountDisk v x) (Some it) tied loose call next =
    next_is built effects
    (record row { doubt = Some (record { n = m; call = calls.MountDisk v x }); vm = Some it; lost = false })
    (calls.ListDisk it.vm) call next
    (quiet built effects
    (record row { doubt = Some (record { n = m; call = calls.MountDisk v x }); vm = Some it; lost = false })
    (calls.ListDisk it.vm) loose (record { creates = refl; stays = λ u k. refl })
    (record { creates = refl; stays = λ d k. refl }) (λ n answer. weak.shows n it.vm _ answer))
spoiled_asks built want effects row m (calls.UnmountDisk v x) (Some it) tied loose call next =
    next_is built effects
    (record row { doubt = Some (record { n = m; call = calls.UnmountDisk v x }); vm = Some it; lost = false })
    (calls.ListDisk it.vm) call next
    (quiet built effects
    (record row { doubt = Some (record { n = m; call = calls.UnmountDisk v x }); vm = Some it; lost = false })
    (calls.ListDisk it.vm) loose (record { creates = refl; stays = λ u k. refl })
    (record { creates = refl; stays = λ d k. refl }) (λ n answer. weak.shows n it.vm _ answer))
spoiled_asks built want effects row m c (Some it) tied loose call next =
    next_is built effects (record row { doubt = Some (record { n = m; call = c }); vm = Some it; lost = false })
    (calls.GetState it.vm) call next
    (quiet built effects (record row { doubt = Some (record { n = m; call = c }); vm = Some it; lost = false })
    (calls.GetState it.vm) loose (record { creates = refl; stays = λ u k. refl })
    (record { creates = refl; stays = λ d k. refl }) (λ n answer. weak.tells n it.vm _ answer))

pub doubted-keeps : (built : KeyWork → List Digest → Digest) (want : Option GoalRow) (effects : List Entry) (row : Row)
    (d : doubt.Doubt) → row.lost ≡ false → row.doubt ≡ Some d → AsksLoose built want effects row
doubted-keeps built want effects row d unlost doubts =
    subst (λ (r : Row). AsksLoose built want effects r) (λ i. record row { doubt = sym doubts i; lost = sym unlost i })
    (spoiled_asks built want effects row d.n d.call row.vm)

-- ---- .. and of a spoiled row that is not in doubt

spoiled_cases : (built : KeyWork → List Digest → Digest) (want : Option GoalRow) (effects : List Entry) (row : Row) →
    IsLoose effects row → row.lost ≡ false → Cases (Keeps built effects row) want row
spoiled_cases built want effects row loose unlost = record {
  remove_drain = λ it has away runs drained. drains it;
  remove_stop = λ it has away runs drained. stops it;
  remove_unmount = λ it d has away rests first. unmounts it d.disk;
  remove_detach = λ it d has away rests none first. detaches it d.disk;
  remove_delete = λ it has away rests none too. deletes built effects row it loose has;
  create = λ w wants none here. absurd (no_machine none);
  tend_drain = λ w it wants has stays runs halts drained. drains it;
  tend_stop = λ w it wants has stays runs halts drained. stops it;
  clear_unmount = λ w it d wants tended first. unmounts it d.disk;
  clear_detach = λ w it d wants tended none first. detaches it d.disk;
  release_unmount = λ w it d wants cleared nothing first. unmounts it d.disk;
  release_detach = λ w it d wants cleared nothing none first. detaches it d.disk;
  provide = λ w it wanted wants cleared disk none. creates_disk built effects row it wanted loose;
  place_attach = λ w it wanted old wants cleared disk was off. attaches it old.disk;
  place_mount = λ w it wanted old wants cleared disk was on off. mounts it old.disk;
  replace_create = λ w it wanted old wants replaced none. creates_disk built effects row it wanted loose;
  replace_attach = λ w it wanted old new wants replaced comes off. attaches it new.disk;
  replace_mount = λ w it wanted old new wants replaced comes on off. mounts it new.disk;
  replace_migrate = λ w it wanted old new wants replaced comes on up.
      quiet built effects row (calls.MigrateDisk it.vm old.disk new.disk) loose
      (record { creates = refl; stays = λ v m. refl }) (record { creates = refl; stays = λ d m. refl })
      (λ n answer. weak.migrates n it.vm old.disk new.disk row answer);
  apply = λ w it wants cleared differs.
      quiet built effects row (calls.Apply it.vm w.spec) loose (record { creates = refl; stays = λ v m. refl })
      (record { creates = refl; stays = λ d m. refl }) (λ n answer. weak.applies n it.vm w.spec row answer);
  start = λ w it wants cleared disks spec runs rests.
      quiet built effects row (calls.Start it.vm) loose (record { creates = refl; stays = λ v m. refl })
      (record { creates = refl; stays = λ d m. refl }) (λ n answer. weak.starts n it.vm row answer);
}
  where
    no_machine : row.vm ≡ None → ⊥
    no_machine none =
        let marked : (false || false) ≡ true =
        sym (λ i. unlost i || list_any (is_named_lost effects) (number_of (none i))) ∙ loose.marked in cc

    drains : (it : vm.Vm) → Keeps built effects row (calls.Drain it.vm)
    drains it =
        quiet built effects row (calls.Drain it.vm) loose (record { creates = refl; stays = λ v m. refl })
        (record { creates = refl; stays = λ d m. refl }) (λ n answer. weak.drains n it.vm row answer)

    stops : (it : vm.Vm) → Keeps built effects row (calls.Stop it.vm)
    stops it =
        quiet built effects row (calls.Stop it.vm) loose (record { creates = refl; stays = λ v m. refl })
        (record { creates = refl; stays = λ d m. refl }) (λ n answer. weak.stops n it.vm row answer)

    attaches : (it : vm.Vm) (x : ℕ) → Keeps built effects row (calls.AttachDisk it.vm x)
    attaches it x =
        quiet built effects row (calls.AttachDisk it.vm x) loose (record { creates = refl; stays = λ v m. refl })
        (record { creates = refl; stays = λ d m. refl }) (λ n answer. weak.attaches n it.vm x row answer)

    detaches : (it : vm.Vm) (x : ℕ) → Keeps built effects row (calls.DetachDisk it.vm x)
    detaches it x =
        quiet built effects row (calls.DetachDisk it.vm x) loose (record { creates = refl; stays = λ v m. refl })
        (record { creates = refl; stays = λ d m. refl }) (λ n answer. weak.detaches n it.vm x row answer)

    mounts : (it : vm.Vm) (x : ℕ) → Keeps built effects row (calls.MountDisk it.vm x)
    mounts it x =
        quiet built effects row (calls.MountDisk it.vm x) loose (record { creates = refl; stays = λ v m. refl })
        (record { creates = refl; stays = λ d m. refl }) (λ n answer. weak.mounts n it.vm x row answer)

    unmounts : (it : vm.Vm) (x : ℕ) → Keeps built effects row (calls.UnmountDisk it.vm x)
    unmounts it x =
        quiet built effects row (calls.UnmountDisk it.vm x) loose (record { creates = refl; stays = λ v m. refl })
        (record { creates = refl; stays = λ d m. refl }) (λ n answer. weak.unmounts n it.vm x row answer)

pub spoiled-keeps : (built : KeyWork → List Digest → Digest) (want : Option GoalRow) (effects : List Entry)
    (row : Row) → row.lost ≡ false → row.doubt ≡ None → AsksLoose built want effects row
spoiled-keeps built want effects row unlost known tied loose call next =
    by_cases (Keeps built effects row) want row (spoiled_cases built want effects row loose unlost) unlost known call
    next
