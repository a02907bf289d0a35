-- The small row in doubt is rightful, tied, and has room.
use Rattle.std.proofs.Common.{◌≡◌, Bool, true, false, Some, None, refl, inl, inr, ap, sym, ◌∙◌}
use Rattle.std.specs.Prelude.{◌==◌}
use Rattle.std.specs.Option.{option_and_then}
use Rattle.std.proofs.lemmas.Bool.{eqb-true}
use Rattle.std.proofs.lemmas.Option.{same_Some}
use Rattle.bosh_base.specs.Cloud.{present, when}
use Rattle.bosh_base.specs.History.{chosen}
use Rattle.bosh_base.specs.declared.call.Call.TheVariants.{AttachDisk}
use Rattle.bosh_base.specs.declared.entry.Entry.TheVariants.{Effect}
use Rattle.bosh_base.specs.declared.entry.Effect as effect
use Rattle.bosh_base.specs.declared.owner.Owner.TheVariants.{Instance}
use Rattle.laws_effects.specs.Holders.{AreHeldByTheirOwn, disk_owner, vm_owner}
use Rattle.laws_effects.specs.Orderly.{AreOrderly}
use Rattle.bosh_rows.specs.Tied.{IsTiedRow}
use Rattle.laws_rows.specs.Rightful.{IsAmong, IsRightful}
use Rattle.laws_rows.specs.RowExample.{attaching, one_attaching, web}

orderly : AreOrderly one_attaching
orderly = (
  record { vms = refl; disks = refl; number = refl },
  (record { vms = refl; disks = refl; number = refl }, (record { vms = refl; disks = refl; number = refl }, tt)),
)

own : AreHeldByTheirOwn one_attaching
own d v is = by_number (1 == d) refl is
  where
    by_number : (b : Bool) → (1 == d) ≡ b →
        option_and_then (present one_attaching) (chosen (when b (Some 1)) None) ≡ Some v →
        vm_owner one_attaching v ≡ disk_owner one_attaching d
    by_number true same is =
        let number : 1 ≡ d = eqb-true 1 d same in
        let machine : 1 ≡ v = same_Some 1 v is in
        ap (vm_owner one_attaching) (sym machine) ∙ ap (disk_owner one_attaching) number
    by_number false other is = absurd cc

-- the one effect of the number of the doubt is that call's
record IsDoubted (e : effect.Effect) : Type 0 where
  call : e.call ≡ AttachDisk 1 1
  owner : e.owner ≡ Instance web

same_effect : (a b : effect.Effect) → Effect a ≡ Effect b → a ≡ b
same_effect a b is = cc

by_number : (e : effect.Effect) → IsAmong e one_attaching → e.n ≡ 3 → IsDoubted e
by_number e (inl first) number =
    absurd (let same : 1 ≡ e.n = ap (λ it. it.n) (same_effect _ e first) in let other : 1 ≡ 3 = same ∙ number in cc)
by_number e (inr (inl second)) number =
    absurd (let same : 2 ≡ e.n = ap (λ it. it.n) (same_effect _ e second) in let other : 2 ≡ 3 = same ∙ number in cc)
by_number e (inr (inr (inl third))) number = record {
  call = ap (λ it. it.call) (sym (same_effect _ e third));
  owner = ap (λ it. it.owner) (sym (same_effect _ e third));
}
by_number e (inr (inr (inr none))) number = absurd none

pub example_rightful : IsRightful one_attaching attaching
example_rightful = record {
  orderly = orderly;
  own = own;
  fit = refl;
  found_new = refl;
  made = refl;
  call = λ d e is among same.
      let doubted : record { n = 3; call = AttachDisk 1 1 } ≡ d = same_Some _ d is in
      (by_number e among (same ∙ ap (λ it. it.n) (sym doubted))).call ∙ ap (λ it. it.call) doubted;
  owner = λ d e is among same.
      let doubted : record { n = 3; call = AttachDisk 1 1 } ≡ d = same_Some _ d is in
      (by_number e among (same ∙ ap (λ it. it.n) (sym doubted))).owner;
}

pub example_tied : IsTiedRow one_attaching attaching
example_tied = refl
