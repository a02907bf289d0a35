-- One call keeps the tie of a row that is not lost, not spoiled and not in doubt.
use Rattle.std.proofs.Common.{◌≡◌, ℕ, ◌+◌, Bool, true, false, Option, Some, None, List, refl, sym, ◌∙◌, ap, subst, inl, inr}
use Rattle.std.specs.Prelude.{◌&&◌, ◌==◌, not, if◌then◌else◌}
use Rattle.std.specs.List.{list_any}
use Rattle.std.proofs.lemmas.Bool.{and_parts, and_from, eq-eqb, not-true}
use Rattle.bosh_base.specs.Call.{method_of}
use Rattle.bosh_base.specs.CallStep.{answer_of, CallStep, has_agent, is_attached, is_gone, is_mounted_on, is_movable, takes_effect, unless_gone}
use Rattle.bosh_base.specs.Cloud.{disks_created, is_vm_there, vms_created}
use Rattle.bosh_base.specs.Method.{is_changing}
use Rattle.bosh_base.specs.declared.answer.Answer.{Answer}
use Rattle.bosh_base.specs.declared.answer.Answer.TheVariants as answers
use Rattle.bosh_base.specs.declared.call.Call.{Call}
use Rattle.bosh_base.specs.declared.call.Call.TheVariants as calls
use Rattle.bosh_base.specs.declared.digest.Digest.{Digest}
use Rattle.bosh_base.specs.declared.disk_want.DiskWant.{DiskWant}
use Rattle.bosh_base.specs.declared.entry.Entry.{Entry}
use Rattle.bosh_base.specs.declared.goal.GoalRow.{GoalRow}
use Rattle.bosh_base.specs.declared.key.KeyWork.{KeyWork}
use Rattle.bosh_base.specs.declared.row.DiskRow.{DiskRow}
use Rattle.bosh_base.specs.declared.row.Row.{Row}
use Rattle.bosh_base.specs.declared.row.Vm as vm
use Rattle.laws_effects.specs.Orderly.{AreOrderly, is_taken}
use Rattle.bosh_rows.specs.After.{begun_row, with_disk, with_machine}
use Rattle.bosh_rows.specs.CallOf.{next_call}
use Rattle.bosh_rows.specs.Disks.{active, active_disks, coming, is_active, is_new, is_right, is_spare, least, meets}
use Rattle.bosh_rows.specs.Tied.{as_done, IsTiedRow, has_facts, is_named_lost, is_spoiled, number_of, without_doubt}
use Rattle.laws_rows.proofs.DiskTieLemmas as disk
use Rattle.laws_rows.proofs.FallLemmas.{answered}
use Rattle.laws_rows.proofs.FoundLemmas.{found-made_disk, found-made_vm}
use Rattle.laws_rows.proofs.ListLemmas.{IsFound, IsIn, active_found, all_in, any_in, least_found, least_none}
use Rattle.laws_rows.proofs.MakeTieLemmas as make
use Rattle.laws_rows.proofs.SteadyLemmas.{IsTiedTo}
use Rattle.laws_rows.proofs.StepCases.{Cases, by_cases, is_attached as is_held, is_mounted, is_spare_attached, is_spare_mounted, least_of}
use Rattle.laws_rows.proofs.TieLemmas as tie
use Rattle.laws_rows.proofs.TieLemmas.{KeepsDisks, KeepsMachines, KeepsPlaces, StaysMachines, facts-from, facts-of, facts-still, keeps-disks, keeps-machines, keeps-places, of_row, quiet-machines, with_call}
use Rattle.laws_rows.proofs.WholeTieLemmas.{IsPlacedSo, attached-on, machine-answers, machine-there, mounted-held, mounted-on, movable-off, movable-on, placed-so, spoiled-same, tied-doubted, tied-whole}
use Rattle.laws_rows.specs.Rightful.{done_with}

-- what one call keeps
abbrev pub Keeps : (KeyWork → List Digest → Digest) → List Entry → Row → Call → Type 0
Keeps built effects row call =
    (n : ℕ) (dep : List ℕ) (has_effect : Bool) (answer : Answer) → is_taken effects n ≡ false →
    CallStep built effects call has_effect answer →
    IsTiedRow (done_with has_effect effects (of_row row n dep call)) (answered n call answer row)

-- .. where nothing that it names is gone
pub record IsKept (built : KeyWork → List Digest → Digest) (effects : List Entry) (row : Row) (call : Call) : Type 0
  where
    pub keeps : Keeps built effects row call
    pub here : is_gone (answer_of built effects call) ≡ false

-- a row that is neither lost, spoiled nor in doubt, and tied
pub record IsTiedKnown (effects : List Entry) (row : Row) : Type 0 where
  pub tied : IsTiedTo effects row
  pub unlost : row.lost ≡ false
  pub unspoiled : is_spoiled effects row ≡ false
  pub known : row.doubt ≡ None
  pub orderly : AreOrderly effects

-- a call that is in doubt from its beginning on, and had its effect or not
in_doubt : (effects : List Entry) (row : Row) (n : ℕ) (dep : List ℕ) (call : Call) → IsTiedKnown effects row →
    IsTiedTo (with_call effects row n dep call) (as_done (with_call effects row n dep call) (begun_row n call row)) →
    (begun_row n call row).lost ≡ row.lost → (begun_row n call row).vm ≡ row.vm →
    IsTiedRow (with_call effects row n dep call) (begun_row n call row)
in_doubt effects row n dep call it later same_lost same_vm =
    tied-doubted (with_call effects row n dep call) (begun_row n call row) (same_lost ∙ it.unlost)
    (spoiled-same effects (of_row row n dep call) (begun_row n call row)
    ∙ (λ i. list_any (is_named_lost effects) (number_of (same_vm i))) ∙ it.unspoiled)
    (inr later)

still_begun : (effects : List Entry) (row : Row) (n : ℕ) (call : Call) → IsTiedKnown effects row →
    without_doubt (begun_row n call row) ≡ row → (begun_row n call row).lost ≡ row.lost → (begun_row n call row).vm ≡ row.vm →
    IsTiedRow effects (begun_row n call row)
still_begun effects row n call it same same_lost same_vm =
    tied-doubted effects (begun_row n call row) (same_lost ∙ it.unlost)
    ((λ i. list_any (is_named_lost effects) (number_of (same_vm i))) ∙ it.unspoiled)
    (inl (subst (λ (r : Row). IsTiedTo effects r) (sym same) it.tied))

-- a changing call, as it is answered where it does not fail
keeps_as : (built : KeyWork → List Digest → Digest) (effects : List Entry) (row : Row) (call : Call) (a : Answer) →
    answer_of built effects call ≡ a → takes_effect built effects call ≡ true →
    ((n : ℕ) (dep : List ℕ) → is_taken effects n ≡ false →
    IsTiedRow (with_call effects row n dep call) (answered n call a row)) →
    ((n : ℕ) (dep : List ℕ) → is_taken effects n ≡ false →
    IsTiedRow (with_call effects row n dep call) (begun_row n call row)) →
    ((n : ℕ) → IsTiedRow effects (begun_row n call row)) → Keeps built effects row call
keeps_as built effects row call a says takes done doubted undone n dep has_effect answer fresh (inl (is, has)) =
    subst (λ (b : Bool). IsTiedRow (done_with b effects (of_row row n dep call)) (answered n call answer row))
    (sym (has ∙ takes))
    (subst (λ (it : Answer). IsTiedRow (with_call effects row n dep call) (answered n call it row)) (sym (is ∙ says))
    (done n dep fresh))
keeps_as built effects row call a says takes done doubted undone n dep has_effect answer fresh (inr (failed, may)) =
    subst (λ (it : Answer). IsTiedRow (done_with has_effect effects (of_row row n dep call)) (answered n call it row))
    (sym failed) (by_effect has_effect)
  where
    by_effect : (b : Bool) → IsTiedRow (done_with b effects (of_row row n dep call)) (begun_row n call row)
    by_effect true = doubted n dep fresh
    by_effect false = undone n

keeps : (built : KeyWork → List Digest → Digest) (effects : List Entry) (row : Row) (call : Call) (a : Answer) →
    answer_of built effects call ≡ a → takes_effect built effects call ≡ true →
    ((n : ℕ) (dep : List ℕ) → is_taken effects n ≡ false →
    IsTiedRow (with_call effects row n dep call) (answered n call a row)) →
    ((n : ℕ) (dep : List ℕ) → is_taken effects n ≡ false →
    IsTiedRow (with_call effects row n dep call) (begun_row n call row)) →
    ((n : ℕ) → IsTiedRow effects (begun_row n call row)) → IsKept built effects row call
keeps built effects row call a says takes done doubted undone = record {
  keeps = keeps_as built effects row call a says takes done doubted undone;
  here =
      not-true (is_gone (answer_of built effects call))
      (and_parts (is_changing (method_of call)) (not (is_gone (answer_of built effects call))) takes).1;
}

-- .. unless something is gone, which it is not
pub says_done : (b : Bool) (a : Answer) → b ≡ true → unless_gone b a ≡ a
says_done b a is = ap (λ b. unless_gone b a) is

takes_done : (b : Bool) (a : Answer) → is_gone a ≡ false → b ≡ true → (true && not (is_gone (unless_gone b a))) ≡ true
takes_done b a here is = ap (λ b. true && not (is_gone (unless_gone b a))) is ∙ ap not here

keeps_done : (built : KeyWork → List Digest → Digest) (effects : List Entry) (row : Row) (call : Call) (b : Bool) →
    IsTiedKnown effects row → answer_of built effects call ≡ unless_gone b answers.Done →
    is_changing (method_of call) ≡ true → b ≡ true →
    ((n : ℕ) (dep : List ℕ) → IsTiedTo (with_call effects row n dep call) (answered n call answers.Done row)) →
    ((n : ℕ) (dep : List ℕ) → as_done (with_call effects row n dep call) (begun_row n call row)
    ≡ answered n call answers.Done row) →
    ((n : ℕ) → without_doubt (begun_row n call row) ≡ record row { doubt = None }) →
    ((n : ℕ) → (begun_row n call row).vm ≡ row.vm) → ((n : ℕ) → (answered n call answers.Done row).doubt ≡ None) →
    IsKept built effects row call
keeps_done built effects row call b it says changing here done as_is same same_vm known =
    keeps built effects row call answers.Done (says ∙ says_done b answers.Done here)
    ((λ i. changing i && not (is_gone (says i))) ∙ takes_done b answers.Done refl here)
    (λ n dep fresh. tied-whole (with_call effects row n dep call) (answered n call answers.Done row) (known n)
    (done n dep))
    (λ n dep fresh.
    in_doubt effects row n dep call it
    (subst (λ (r : Row). IsTiedTo (with_call effects row n dep call) r) (sym (as_is n dep)) (done n dep)) refl
    (same_vm n))
    (λ n. still_begun effects row n call it (same n ∙ (λ i. record row { doubt = sym it.known i })) refl (same_vm n))

-- ---- each call

drains : (built : KeyWork → List Digest → Digest) (effects : List Entry) (row : Row) (it : vm.Vm) →
    IsTiedKnown effects row → row.vm ≡ Some it → IsKept built effects row (calls.Drain it.vm)
drains built effects row it is has =
    keeps_done built effects row (calls.Drain it.vm) (has_agent effects it.vm) is refl refl
    (machine-answers effects row it has is.tied is.unspoiled)
    (λ n dep. tie.tied-drain effects row it n dep is.tied has) (λ n dep. refl) (λ n. refl) (λ n. refl) (λ n. refl)

stops : (built : KeyWork → List Digest → Digest) (effects : List Entry) (row : Row) (it : vm.Vm) →
    IsTiedKnown effects row → row.vm ≡ Some it → IsKept built effects row (calls.Stop it.vm)
stops built effects row it is has =
    keeps_done built effects row (calls.Stop it.vm) (has_agent effects it.vm) is refl refl
    (machine-answers effects row it has is.tied is.unspoiled)
    (λ n dep. tie.tied-stop effects row it n dep is.tied has) (λ n dep. refl) (λ n. refl) (λ n. refl) (λ n. refl)

starts : (built : KeyWork → List Digest → Digest) (effects : List Entry) (row : Row) (it : vm.Vm) →
    IsTiedKnown effects row → row.vm ≡ Some it → IsKept built effects row (calls.Start it.vm)
starts built effects row it is has =
    keeps_done built effects row (calls.Start it.vm) (has_agent effects it.vm) is refl refl
    (machine-answers effects row it has is.tied is.unspoiled)
    (λ n dep. tie.tied-start effects row it n dep is.tied has) (λ n dep. refl) (λ n. refl) (λ n. refl) (λ n. refl)

applies : (built : KeyWork → List Digest → Digest) (effects : List Entry) (row : Row) (w : GoalRow) (it : vm.Vm) →
    IsTiedKnown effects row → row.vm ≡ Some it → IsKept built effects row (calls.Apply it.vm w.spec)
applies built effects row w it is has =
    keeps_done built effects row (calls.Apply it.vm w.spec) (has_agent effects it.vm) is refl refl
    (machine-answers effects row it has is.tied is.unspoiled)
    (λ n dep. tie.tied-apply effects row it w.spec n dep is.tied has) (λ n dep. refl) (λ n. refl) (λ n. refl)
    (λ n. refl)

deletes : (built : KeyWork → List Digest → Digest) (effects : List Entry) (row : Row) (it : vm.Vm) →
    IsTiedKnown effects row → row.vm ≡ Some it → IsKept built effects row (calls.DeleteVm it.vm)
deletes built effects row it is has =
    keeps_done built effects row (calls.DeleteVm it.vm) (is_vm_there effects it.vm) is refl refl
    (machine-there effects row it has is.tied)
    (λ n dep. make.tied-delete_vm effects row it n dep is.tied has) (λ n dep. refl) (λ n. refl) (λ n. refl) (λ n. refl)

attaches : (built : KeyWork → List Digest → Digest) (effects : List Entry) (row : Row) (it : vm.Vm) (d : DiskRow) →
    IsTiedKnown effects row → row.vm ≡ Some it → IsIn d row.disks → d.attached ≡ false →
    IsKept built effects row (calls.AttachDisk it.vm d.disk)
attaches built effects row it d is has is_in off =
    let takes : (is_vm_there effects it.vm && is_movable effects it.vm d.disk) ≡ true =
    and_from (is_vm_there effects it.vm) (is_movable effects it.vm d.disk) (machine-there effects row it has is.tied)
    (movable-off effects it.vm d (placed-so effects row it has is.tied d is_in) off) in
    keeps_done built effects row (calls.AttachDisk it.vm d.disk)
    (is_vm_there effects it.vm && is_movable effects it.vm d.disk) is refl refl takes
    (λ n dep. disk.tied-attach effects row it d.disk n dep is.tied has
    (any_in (λ e. e.disk == d.disk) d row.disks is_in (eq-eqb d.disk d.disk refl)) takes)
    (λ n dep. refl) (λ n. refl) (λ n. refl) (λ n. refl)

detaches : (built : KeyWork → List Digest → Digest) (effects : List Entry) (row : Row) (it : vm.Vm) (d : DiskRow) →
    IsTiedKnown effects row → row.vm ≡ Some it → IsIn d row.disks → d.attached ≡ true → d.mounted ≡ false →
    IsKept built effects row (calls.DetachDisk it.vm d.disk)
detaches built effects row it d is has is_in on off =
    keeps_done built effects row (calls.DetachDisk it.vm d.disk)
    (is_vm_there effects it.vm && is_movable effects it.vm d.disk) is refl refl
    (and_from (is_vm_there effects it.vm) (is_movable effects it.vm d.disk) (machine-there effects row it has is.tied)
    (movable-on effects it.vm d (placed-so effects row it has is.tied d is_in) on off))
    (λ n dep. disk.tied-detach effects row it d.disk n dep is.tied has)
    (λ n dep. refl) (λ n. refl) (λ n. refl) (λ n. refl)

mounts : (built : KeyWork → List Digest → Digest) (effects : List Entry) (row : Row) (it : vm.Vm) (d : DiskRow) →
    IsTiedKnown effects row → row.vm ≡ Some it → IsIn d row.disks → d.attached ≡ true →
    IsKept built effects row (calls.MountDisk it.vm d.disk)
mounts built effects row it d is has is_in on =
    let takes : (has_agent effects it.vm && is_attached effects it.vm d.disk) ≡ true =
    and_from (has_agent effects it.vm) (is_attached effects it.vm d.disk)
    (machine-answers effects row it has is.tied is.unspoiled)
    (attached-on effects it.vm d (placed-so effects row it has is.tied d is_in) on) in
    keeps_done built effects row (calls.MountDisk it.vm d.disk)
    (has_agent effects it.vm && is_attached effects it.vm d.disk) is refl refl takes
    (λ n dep. disk.tied-mount effects row it d.disk n dep is.tied has takes)
    (λ n dep. refl) (λ n. refl) (λ n. refl) (λ n. refl)

unmounts : (built : KeyWork → List Digest → Digest) (effects : List Entry) (row : Row) (it : vm.Vm) (d : DiskRow) →
    IsTiedKnown effects row → row.vm ≡ Some it → IsIn d row.disks → d.mounted ≡ true →
    IsKept built effects row (calls.UnmountDisk it.vm d.disk)
unmounts built effects row it d is has is_in on =
    let placed : IsPlacedSo effects it.vm d = placed-so effects row it has is.tied d is_in in
    keeps_done built effects row (calls.UnmountDisk it.vm d.disk)
    (has_agent effects it.vm && is_attached effects it.vm d.disk) is refl refl
    (and_from (has_agent effects it.vm) (is_attached effects it.vm d.disk)
    (machine-answers effects row it has is.tied is.unspoiled)
    (attached-on effects it.vm d placed (mounted-held effects it.vm d placed on)))
    (λ n dep. disk.tied-unmount effects row it d.disk n dep is.tied has)
    (λ n dep. refl) (λ n. refl) (λ n. refl) (λ n. refl)

creates_vm : (built : KeyWork → List Digest → Digest) (effects : List Entry) (row : Row) (w : GoalRow)
    (hint : List ℕ) → IsTiedKnown effects row → row.vm ≡ None → IsKept built effects row (calls.CreateVm w.make hint)
creates_vm built effects row w hint is none =
    keeps built effects row (calls.CreateVm w.make hint) (answers.Cid (vms_created effects + 1)) refl refl
    (λ n dep fresh.
    tied-whole (with_call effects row n dep (calls.CreateVm w.make hint))
    (answered n (calls.CreateVm w.make hint) (answers.Cid (vms_created effects + 1)) row) refl (done n dep))
    (λ n dep fresh.
    in_doubt effects row n dep (calls.CreateVm w.make hint) is
    (subst (λ (o : Option ℕ). IsTiedTo (with_call effects row n dep (calls.CreateVm w.make hint))
    (with_machine n o (begun_row n (calls.CreateVm w.make hint) row)))
    (sym (found-made_vm effects row w.make hint n dep fresh)) (done n dep)) refl refl)
    (λ n.
    tied-doubted effects (begun_row n (calls.CreateVm w.make hint) row) is.unlost is.unspoiled
    (inl (remade n)))
  where
    done : (n : ℕ) (dep : List ℕ) → IsTiedTo (with_call effects row n dep (calls.CreateVm w.make hint))
        (answered n (calls.CreateVm w.make hint) (answers.Cid (vms_created effects + 1)) row)
    done n dep = make.tied-create_vm effects row w.make hint n dep is.orderly is.tied none

    remade : (n : ℕ) → IsTiedTo effects (without_doubt (begun_row n (calls.CreateVm w.make hint) row))
    remade n = record {
      machines = is.tied.machines;
      facts =
          ap (has_facts effects (without_doubt (begun_row n (calls.CreateVm w.make hint) row))) none
          ∙ sym (ap (has_facts effects row) none) ∙ is.tied.facts;
      kept = is.tied.kept;
      placed = is.tied.placed;
      others = is.tied.others;
    }

creates_disk : (built : KeyWork → List Digest → Digest) (effects : List Entry) (row : Row) (it : vm.Vm)
    (wanted : DiskWant) → IsTiedKnown effects row → row.vm ≡ Some it →
    IsKept built effects row (calls.CreateDisk wanted it.vm)
creates_disk built effects row it wanted is has =
    keeps built effects row (calls.CreateDisk wanted it.vm) (answers.Cid (disks_created effects + 1))
    (says_done (is_vm_there effects it.vm) (answers.Cid (disks_created effects + 1)) here)
    (takes_done (is_vm_there effects it.vm) (answers.Cid (disks_created effects + 1)) refl here)
    (λ n dep fresh.
    tied-whole (with_call effects row n dep (calls.CreateDisk wanted it.vm))
    (answered n (calls.CreateDisk wanted it.vm) (answers.Cid (disks_created effects + 1)) row) refl (done n dep))
    (λ n dep fresh.
    in_doubt effects row n dep (calls.CreateDisk wanted it.vm) is
    (subst (λ (o : Option ℕ). IsTiedTo (with_call effects row n dep (calls.CreateDisk wanted it.vm))
    (with_disk n wanted o (begun_row n (calls.CreateDisk wanted it.vm) row)))
    (sym (found-made_disk effects row wanted it.vm n dep fresh)) (done n dep)) refl refl)
    (λ n.
    still_begun effects row n (calls.CreateDisk wanted it.vm) is (λ i. record row { doubt = sym is.known i }) refl
    refl)
  where
    here : is_vm_there effects it.vm ≡ true
    here = machine-there effects row it has is.tied

    done : (n : ℕ) (dep : List ℕ) → IsTiedTo (with_call effects row n dep (calls.CreateDisk wanted it.vm))
        (answered n (calls.CreateDisk wanted it.vm) (answers.Cid (disks_created effects + 1)) row)
    done n dep = make.tied-create_disk effects row it wanted n dep is.orderly is.tied has

-- a migration leaves no doubt; where it failed the row is as it was
migrates : (built : KeyWork → List Digest → Digest) (effects : List Entry) (row : Row) (it : vm.Vm)
    (old new : DiskRow) → IsTiedKnown effects row → row.vm ≡ Some it → IsIn old row.disks → old.attached ≡ true →
    old.mounted ≡ true → IsIn new row.disks → new.attached ≡ true → new.mounted ≡ true →
    IsKept built effects row (calls.MigrateDisk it.vm old.disk new.disk)
migrates built effects row it old new is has old_in old_on old_up new_in new_on new_up =
    keeps built effects row (calls.MigrateDisk it.vm old.disk new.disk) answers.Done
    (says_done (has_agent effects it.vm && (is_mounted_on effects it.vm old.disk && is_mounted_on effects it.vm
    new.disk))
    answers.Done here)
    (takes_done (has_agent effects it.vm && (is_mounted_on effects it.vm old.disk && is_mounted_on effects it.vm
    new.disk))
    answers.Done refl here)
    (λ n dep fresh.
    tied-whole (with_call effects row n dep (calls.MigrateDisk it.vm old.disk new.disk))
    (answered n (calls.MigrateDisk it.vm old.disk new.disk) answers.Done row) is.known
    (disk.tied-migrate effects row it old.disk new.disk n dep is.tied has))
    (λ n dep fresh.
    tied-whole (with_call effects row n dep (calls.MigrateDisk it.vm old.disk new.disk)) row is.known (same n dep))
    (λ n. tied-whole effects row is.known is.tied)
  where
    here : (has_agent effects it.vm
        && (is_mounted_on effects it.vm old.disk && is_mounted_on effects it.vm new.disk)) ≡ true
    here =
        and_from (has_agent effects it.vm) _ (machine-answers effects row it has is.tied is.unspoiled)
        (and_from (is_mounted_on effects it.vm old.disk) (is_mounted_on effects it.vm new.disk)
        (mounted-on effects it.vm old (placed-so effects row it has is.tied old old_in) old_on old_up)
        (mounted-on effects it.vm new (placed-so effects row it has is.tied new new_in) new_on new_up))

    machines : StaysMachines (calls.MigrateDisk it.vm old.disk new.disk)
    machines = record { creates = refl; stays = λ v m. refl }

    same : (n : ℕ) (dep : List ℕ) →
        IsTiedTo (with_call effects row n dep (calls.MigrateDisk it.vm old.disk new.disk)) row
    same n dep =
        quiet-machines effects row n dep (calls.MigrateDisk it.vm old.disk new.disk)
        (keeps-machines effects row n dep (calls.MigrateDisk it.vm old.disk new.disk) machines) is.tied row refl refl
        refl
        (keeps-disks effects row n dep (calls.MigrateDisk it.vm old.disk new.disk)
        (record { creates = refl; stays = λ d m. refl }))
        (keeps-places effects row n dep (calls.MigrateDisk it.vm old.disk new.disk) machines
        (record { attached = λ d. refl; mounts = λ d. refl }))
        (facts-from (with_call effects row n dep (calls.MigrateDisk it.vm old.disk new.disk)) row it has
        (facts-still effects row row n dep (calls.MigrateDisk it.vm old.disk new.disk) it machines refl refl refl refl
        refl refl refl refl (facts-of effects row it has is.tied.facts)))

-- ---- the next call

-- where none of those that meet a test is mounted, one of them is not
pub not_up : (test : DiskRow → Bool) (row : Row) (d : DiskRow) → least_of (λ e. test e && e.mounted) row ≡ None →
    IsIn d row.disks → test d ≡ true → d.mounted ≡ false
not_up test row d none is holds =
    sym (ap (λ b. b && d.mounted) holds)
    ∙ not-true (test d && d.mounted)
    (all_in (λ e. not (test e && e.mounted)) d row.disks (least_none (λ e. test e && e.mounted) row.disks none) is)

known_cases : (built : KeyWork → List Digest → Digest) (want : Option GoalRow) (effects : List Entry) (row : Row) →
    IsTiedKnown effects row → Cases (IsKept built effects row) want row
known_cases built want effects row is = record {
  remove_drain = λ it has away runs drained. drains built effects row it is has;
  remove_stop = λ it has away runs drained. stops built effects row it is has;
  remove_unmount = λ it d has away rests first.
      let found : IsFound is_mounted d row.disks = least_found is_mounted d row.disks first in
      unmounts built effects row it d is has found.is_in found.meets;
  remove_detach = λ it d has away rests none first.
      let found : IsFound is_held d row.disks = least_found is_held d row.disks first in
      detaches built effects row it d is has found.is_in found.meets
      (not-true d.mounted (all_in (λ e. not e.mounted) d row.disks (least_none is_mounted row.disks none) found.is_in));
  remove_delete = λ it has away rests none too. deletes built effects row it is has;
  create = λ w wants none here. creates_vm built effects row w (active_disks row.disks) is none;
  tend_drain = λ w it wants has stays runs halts drained. drains built effects row it is has;
  tend_stop = λ w it wants has stays runs halts drained. stops built effects row it is has;
  clear_unmount = λ w it d wants tended first.
      let found : IsFound (is_spare_mounted w row) d row.disks = least_found (is_spare_mounted w row) d row.disks
      first in
      unmounts built effects row it d is tended.has found.is_in
      (and_parts (is_spare w.disk row.disks d) d.mounted found.meets).1;
  clear_detach = λ w it d wants tended none first.
      let found : IsFound (is_spare_attached w row) d row.disks =
      least_found (is_spare_attached w row) d row.disks first in
      let both : (is_spare w.disk row.disks d ≡ true) × (d.attached ≡ true) =
      and_parts (is_spare w.disk row.disks d) d.attached found.meets in
      detaches built effects row it d is tended.has found.is_in both.1
      (not_up (is_spare w.disk row.disks) row d none found.is_in both.0);
  release_unmount = λ w it d wants cleared nothing first.
      let found : IsFound (λ e. is_active e && e.mounted) d row.disks =
      least_found (λ e. is_active e && e.mounted) d row.disks first in
      unmounts built effects row it d is cleared.tended.has found.is_in
      (and_parts (is_active d) d.mounted found.meets).1;
  release_detach = λ w it d wants cleared nothing none first.
      let found : IsFound (λ e. is_active e && e.attached) d row.disks =
      least_found (λ e. is_active e && e.attached) d row.disks first in
      let both : (is_active d ≡ true) × (d.attached ≡ true) = and_parts (is_active d) d.attached found.meets in
      detaches built effects row it d is cleared.tended.has found.is_in both.1
      (not_up is_active row d none found.is_in both.0);
  provide = λ w it wanted wants cleared disk none. creates_disk built effects row it wanted is cleared.tended.has;
  place_attach = λ w it wanted old wants cleared disk was off.
      attaches built effects row it old is cleared.tended.has (active_found old row.disks was).is_in off;
  place_mount = λ w it wanted old wants cleared disk was on off.
      mounts built effects row it old is cleared.tended.has (active_found old row.disks was).is_in on;
  replace_create = λ w it wanted old wants replaced none.
      creates_disk built effects row it wanted is replaced.cleared.tended.has;
  replace_attach = λ w it wanted old new wants replaced comes off.
      attaches built effects row it new is replaced.cleared.tended.has (coming_in wanted row old new replaced.is_active
      replaced.wrong comes) off;
  replace_mount = λ w it wanted old new wants replaced comes on off.
      mounts built effects row it new is replaced.cleared.tended.has (coming_in wanted row old new replaced.is_active
      replaced.wrong comes) on;
  replace_migrate = λ w it wanted old new wants replaced comes on up.
      migrates built effects row it old new is replaced.cleared.tended.has
      (active_found old row.disks replaced.is_active).is_in replaced.attached replaced.mounted
      (coming_in wanted row old new replaced.is_active replaced.wrong comes) on up;
  apply = λ w it wants cleared differs. applies built effects row w it is cleared.tended.has;
  start = λ w it wants cleared disks spec runs rests. starts built effects row it is cleared.tended.has;
}
  where
    coming_in : (wanted : DiskWant) (row : Row) (old new : DiskRow) → active row.disks ≡ Some old →
        is_right wanted old ≡ false → coming (Some wanted) row.disks ≡ Some new → IsIn new row.disks
    coming_in wanted row old new was wrong comes =
        (least_found (λ d. is_new d && is_right wanted d) new row.disks
        (sym (ap (λ (b : Bool). if b then None else least (λ d. is_new d && is_right wanted d) row.disks)
        (ap (meets (is_right wanted)) was ∙ wrong)) ∙ comes)).is_in

pub known-keeps : (built : KeyWork → List Digest → Digest) (want : Option GoalRow) (effects : List Entry) (row : Row) →
    IsTiedKnown effects row → (call : Call) → next_call want row ≡ Some call → IsKept built effects row call
known-keeps built want effects row is call next =
    by_cases (IsKept built effects row) want row (known_cases built want effects row is) is.unlost is.known call next
