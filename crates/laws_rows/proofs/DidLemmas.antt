-- The effect of a call in doubt makes of the cloud what the row is, once that call is done.
use Rattle.std.proofs.Common.{◌≡◌, ℕ, ◌+◌, true, false, Option, Some, None, List, [], ◌∷◌, ◌++◌, refl, sym, ◌∙◌, subst}
use Rattle.std.specs.Prelude.{◌&&◌, not, is_some}
use Rattle.std.specs.Option.{option_eq}
use Rattle.std.proofs.lemmas.Bool.{and_parts, eqb-true}
use Rattle.bosh_base.specs.CallStep.{has_agent, is_attached, is_movable, takes_effect}
use Rattle.bosh_base.specs.Cloud.{disks_created, is_vm_there, vms_created}
use Rattle.bosh_base.specs.Exact.{Decides-option}
use Rattle.bosh_base.specs.ExactParts.{Decides-make}
use Rattle.bosh_base.specs.declared.answer.Answer.TheVariants as answers
use Rattle.bosh_base.specs.declared.call.Call.{Call}
use Rattle.bosh_base.specs.declared.call.Call.TheVariants as calls
use Rattle.bosh_base.specs.declared.digest.Digest.{Digest}
use Rattle.bosh_base.specs.declared.entry.Entry.{Entry}
use Rattle.bosh_base.specs.declared.entry.Entry.TheVariants.{Effect}
use Rattle.bosh_base.specs.declared.key.KeyWork.{KeyWork}
use Rattle.bosh_base.specs.declared.owner.Owner.TheVariants.{Instance}
use Rattle.bosh_base.specs.declared.row.Doubt as doubt
use Rattle.bosh_base.specs.declared.row.Row.{Row}
use Rattle.bosh_base.specs.declared.row.Vm as vm
use Rattle.laws_effects.proofs.FollowLemmas.{not_gone}
use Rattle.laws_effects.specs.Orderly.{AreOrderly, is_taken}
use Rattle.bosh_rows.specs.After.{with_disk, with_machine}
use Rattle.bosh_rows.specs.Same.{same_make}
use Rattle.bosh_rows.specs.Tied.{as_done, is_tied_to, without_doubt}
use Rattle.laws_rows.proofs.DiskTieLemmas as disk
use Rattle.laws_rows.proofs.FoundLemmas.{found-made_disk, found-made_vm}
use Rattle.laws_rows.proofs.MakeTieLemmas as make
use Rattle.laws_rows.proofs.SteadyLemmas.{IsTiedTo, tied-from, tied-parts}
use Rattle.laws_rows.proofs.TieLemmas as tie
use Rattle.laws_rows.proofs.TieLemmas.{with_call}
use Rattle.laws_rows.specs.Rightful.{fits, is_disk_with, is_machine}
use Rattle.laws_rows.specs.SoundDisks.{is_recorded}

-- the row in doubt of a call
abbrev doubting : Row → ℕ → Call → Row
doubting row n c = record row { doubt = Some (record { n = n; call = c }) }

abbrev Settles : (KeyWork → List Digest → Digest) → List Entry → Row → ℕ → List ℕ → Call → Type 0
Settles built effects row n dep c =
    AreOrderly effects → fits (doubting row n c) c ≡ true → is_taken effects n ≡ false →
    takes_effect built effects c ≡ true → IsTiedTo effects (without_doubt row) →
    IsTiedTo (with_call effects row n dep c) (as_done (with_call effects row n dep c) (doubting row n c))

-- the machine that a call names is the recorded one
record IsNamed (row : Row) (v : ℕ) : Type 0 where
  it : vm.Vm
  has : row.vm ≡ Some it
  same : it.vm ≡ v

named : (row : Row) (v : ℕ) → is_machine row.vm v ≡ true → IsNamed row v
named row v is = by_vm row.vm refl is
  where
    by_vm : (o : Option vm.Vm) → row.vm ≡ o → is_machine o v ≡ true → IsNamed row v
    by_vm (Some it) has is = record { it = it; has = has; same = eqb-true it.vm v is }
    by_vm None has is = absurd cc

-- what is shown of the number of the machine is shown of the one that the call names
as_named : (row : Row) (v : ℕ) (P : ℕ → Type 0) → IsNamed row v → ((it : vm.Vm) → row.vm ≡ Some it → P it.vm) → P v
as_named row v P it shown = subst P it.same (shown it.it it.has)

settles : (built : KeyWork → List Digest → Digest) (effects : List Entry) (row : Row) (n : ℕ) (dep : List ℕ)
    (c : Call) → Settles built effects row n dep c
settles built effects row n dep (calls.CreateVm it hint) orderly fit fresh takes tied =
    let parts : (not (is_some row.vm) ≡ true) × (option_eq same_make row.make (Some it) ≡ true) =
    and_parts (not (is_some row.vm)) (option_eq same_make row.make (Some it)) fit in
    let asked : row.make ≡ Some it = (Decides-option Decides-make row.make (Some it)).0 parts.1 in
    let none : row.vm ≡ None = no_machine row.vm parts.0 in
    subst (λ (o : Option ℕ). IsTiedTo (with_call effects row n dep (calls.CreateVm it hint))
    (with_machine n o (doubting row n (calls.CreateVm it hint))))
    (sym (found-made_vm effects row it hint n dep fresh))
    (subst (λ (r : Row). IsTiedTo (with_call effects row n dep (calls.CreateVm it hint)) r)
    (λ i. with_machine n (Some (vms_created effects + 1))
    (record (doubting row n (calls.CreateVm it hint)) { make = sym asked i }))
    (make.tied-create_vm effects (without_doubt row) it hint n dep orderly tied none))
  where
    no_machine : (o : Option vm.Vm) → not (is_some o) ≡ true → o ≡ None
    no_machine None is = refl
    no_machine (Some v) is = absurd cc
settles built effects row n dep (calls.CreateDisk wanted v) orderly fit fresh takes tied =
    subst (λ (o : Option ℕ). IsTiedTo (with_call effects row n dep (calls.CreateDisk wanted v))
    (with_disk n wanted o (doubting row n (calls.CreateDisk wanted v))))
    (sym (found-made_disk effects row wanted v n dep fresh))
    (as_named row v (λ u. IsTiedTo (with_call effects row n dep (calls.CreateDisk wanted u))
    (with_disk n wanted (Some (disks_created effects + 1)) (doubting row n (calls.CreateDisk wanted u))))
    (named row v fit)
    (λ it has. make.tied-create_disk effects (without_doubt row) it wanted n dep orderly tied has))
settles built effects row n dep (calls.DeleteVm v) orderly fit fresh takes tied =
    as_named row v (λ u. IsTiedTo (with_call effects row n dep (calls.DeleteVm u))
    (as_done (with_call effects row n dep (calls.DeleteVm u)) (doubting row n (calls.DeleteVm u)))) (named row v fit)
    (λ it has. make.tied-delete_vm effects (without_doubt row) it n dep tied has)
settles built effects row n dep (calls.Apply v spec) orderly fit fresh takes tied =
    as_named row v (λ u. IsTiedTo (with_call effects row n dep (calls.Apply u spec))
    (as_done (with_call effects row n dep (calls.Apply u spec)) (doubting row n (calls.Apply u spec))))
    (named row v fit)
    (λ it has. tie.tied-apply effects (without_doubt row) it spec n dep tied has)
settles built effects row n dep (calls.Start v) orderly fit fresh takes tied =
    as_named row v (λ u. IsTiedTo (with_call effects row n dep (calls.Start u))
    (as_done (with_call effects row n dep (calls.Start u)) (doubting row n (calls.Start u)))) (named row v fit)
    (λ it has. tie.tied-start effects (without_doubt row) it n dep tied has)
settles built effects row n dep (calls.Drain v) orderly fit fresh takes tied =
    as_named row v (λ u. IsTiedTo (with_call effects row n dep (calls.Drain u))
    (as_done (with_call effects row n dep (calls.Drain u)) (doubting row n (calls.Drain u)))) (named row v fit)
    (λ it has. tie.tied-drain effects (without_doubt row) it n dep tied has)
settles built effects row n dep (calls.Stop v) orderly fit fresh takes tied =
    as_named row v (λ u. IsTiedTo (with_call effects row n dep (calls.Stop u))
    (as_done (with_call effects row n dep (calls.Stop u)) (doubting row n (calls.Stop u)))) (named row v fit)
    (λ it has. tie.tied-stop effects (without_doubt row) it n dep tied has)
settles built effects row n dep (calls.AttachDisk v x) orderly fit fresh takes tied =
    let parts : (is_machine row.vm v ≡ true) × (is_disk_with (λ d. not d.attached) row.disks x ≡ true) =
    and_parts (is_machine row.vm v) (is_disk_with (λ d. not d.attached) row.disks x) fit in
    as_named row v (λ u. (is_vm_there effects u && is_movable effects u x) ≡ true →
    IsTiedTo (with_call effects row n dep (calls.AttachDisk u x))
    (as_done (with_call effects row n dep (calls.AttachDisk u x)) (doubting row n (calls.AttachDisk u x))))
    (named row v parts.0)
    (λ it has movable. disk.tied-attach effects (without_doubt row) it x n dep tied has
    (and_parts (is_recorded row.disks x) _ parts.1).0 movable)
    (not_gone (is_vm_there effects v && is_movable effects v x) answers.Done takes)
settles built effects row n dep (calls.DetachDisk v x) orderly fit fresh takes tied =
    as_named row v (λ u. IsTiedTo (with_call effects row n dep (calls.DetachDisk u x))
    (as_done (with_call effects row n dep (calls.DetachDisk u x)) (doubting row n (calls.DetachDisk u x))))
    (named row v (and_parts (is_machine row.vm v) _ fit).0)
    (λ it has. disk.tied-detach effects (without_doubt row) it x n dep tied has)
settles built effects row n dep (calls.MountDisk v x) orderly fit fresh takes tied =
    as_named row v (λ u. (has_agent effects u && is_attached effects u x) ≡ true →
    IsTiedTo (with_call effects row n dep (calls.MountDisk u x))
    (as_done (with_call effects row n dep (calls.MountDisk u x)) (doubting row n (calls.MountDisk u x))))
    (named row v (and_parts (is_machine row.vm v) _ fit).0)
    (λ it has attached. disk.tied-mount effects (without_doubt row) it x n dep tied has attached)
    (not_gone (has_agent effects v && is_attached effects v x) answers.Done takes)
settles built effects row n dep (calls.UnmountDisk v x) orderly fit fresh takes tied =
    as_named row v (λ u. IsTiedTo (with_call effects row n dep (calls.UnmountDisk u x))
    (as_done (with_call effects row n dep (calls.UnmountDisk u x)) (doubting row n (calls.UnmountDisk u x))))
    (named row v (and_parts (is_machine row.vm v) _ fit).0)
    (λ it has. disk.tied-unmount effects (without_doubt row) it x n dep tied has)
settles built effects row n dep c orderly fit fresh takes tied = absurd cc

pub effect_settles : (built : KeyWork → List Digest → Digest) (effects : List Entry) (row : Row) (d : doubt.Doubt)
    (dep : List ℕ) → AreOrderly effects → row.doubt ≡ Some d → fits row d.call ≡ true → is_taken effects d.n ≡ false →
    takes_effect built effects d.call ≡ true → is_tied_to effects (without_doubt row) ≡ true →
    is_tied_to (effects ++ Effect (record { n = d.n; owner = Instance row.inst; dep = dep; call = d.call }) ∷ [])
    (as_done (effects ++ Effect (record { n = d.n; owner = Instance row.inst; dep = dep; call = d.call }) ∷ []) row)
    ≡ true
effect_settles built effects row d dep orderly doubts fit fresh takes tied =
    (λ i. is_tied_to (with_call effects row d.n dep d.call)
    (as_done (with_call effects row d.n dep d.call) (record row { doubt = doubts i })))
    ∙ tied-from (with_call effects row d.n dep d.call)
    (as_done (with_call effects row d.n dep d.call) (doubting row d.n d.call))
    (settles built effects row d.n dep d.call orderly
    (sym (λ i. fits (record row { doubt = doubts i }) d.call) ∙ fit) fresh takes
    (tied-parts effects (without_doubt row) tied))
