-- The next call of any row, case by case: of a lost one, of one in doubt, and of one of which all is known.
use Rattle.std.proofs.Common.{◌≡◌, ℕ, Bool, true, false, Option, Some, None, List, refl, subst, inl, inr}
use Rattle.std.specs.Prelude.{◌⊎◌}
use Rattle.std.proofs.lemmas.Option.{same_Some}
use Rattle.bosh_base.specs.Call.{method_of}
use Rattle.bosh_base.specs.declared.call.Call.{Call}
use Rattle.bosh_base.specs.declared.call.Call.TheVariants as calls
use Rattle.bosh_base.specs.declared.disk_want.DiskWant.{DiskWant}
use Rattle.bosh_base.specs.declared.goal.GoalRow.{GoalRow}
use Rattle.bosh_base.specs.declared.make.Make.{Make}
use Rattle.bosh_base.specs.declared.method.Method.TheVariants.{GetState}
use Rattle.bosh_base.specs.declared.row.Doubt.{Doubt}
use Rattle.bosh_base.specs.declared.row.Row.{Row}
use Rattle.bosh_base.specs.declared.row.Vm.{Vm}
use Rattle.laws_rows.proofs.StepCases.{Cases, by_cases}
use Rattle.bosh_rows.specs.CallOf.{next_call}
use Rattle.bosh_rows.specs.NextStep.{probe_method}

-- the call is in doubt
abbrev pub Doubts : Row → ℕ → Call → Type 0
Doubts row n call = row.doubt ≡ Some (record { n = n; call = call })

-- what is to be shown of each call
pub record AllCases (P : Call → Type 0) (want : Option GoalRow) (row : Row) : Type 0 where
  pub known : row.lost ≡ false → row.doubt ≡ None → Cases P want row
  pub deletes : (it : Vm) → row.lost ≡ true → row.vm ≡ Some it → P (calls.DeleteVm it.vm)
  pub there : (it : Vm) (m v : ℕ) → row.vm ≡ Some it → Doubts row m (calls.DeleteVm v) → P (calls.HasVm it.vm)
  pub finds_vm :
      (m : ℕ) (make : Make) (hint : List ℕ) → row.lost ≡ false → Doubts row m (calls.CreateVm make hint) →
      P (calls.FindVm m)
  pub finds_disk :
      (m : ℕ) (wanted : DiskWant) (v : ℕ) → Doubts row m (calls.CreateDisk wanted v) → P (calls.FindDisk m)
  pub lists :
      (it : Vm) (m v x : ℕ) → row.lost ≡ false → row.vm ≡ Some it →
      (Doubts row m (calls.AttachDisk v x) ⊎ Doubts row m (calls.DetachDisk v x)) → P (calls.GetDisks it.vm)
  pub shows :
      (it : Vm) (m v x : ℕ) → row.lost ≡ false → row.vm ≡ Some it →
      (Doubts row m (calls.MountDisk v x) ⊎ Doubts row m (calls.UnmountDisk v x)) → P (calls.ListDisk it.vm)
  pub tells :
      (it : Vm) (m : ℕ) (c : Call) → row.lost ≡ false → row.vm ≡ Some it → Doubts row m c →
      probe_method (method_of c) ≡ GetState → P (calls.GetState it.vm)

of_next : (P : Call → Type 0) (c call : Call) → Some c ≡ Some call → P c → P call
of_next P c call next shown = subst P (same_Some c call next) shown

-- a row as it is in one of the cases
abbrev as_case : Row → Bool → Option Doubt → Option Vm → Row
as_case row lost d it = record row { lost = lost; doubt = d; vm = it }

-- the next call is one of these
pub by_all : (P : Call → Type 0) (want : Option GoalRow) (row : Row) → AllCases P want row → (call : Call) →
    next_call want row ≡ Some call → P call
by_all P want row cases call next =
    by_case row.lost row.doubt row.vm refl refl refl next
  where
    by_lost : (m : ℕ) (c : Call) (it : Option Vm) → row.lost ≡ true → Doubts row m c → row.vm ≡ it →
        next_call want (as_case row true (Some (record { n = m; call = c })) it) ≡ Some call → P call
    by_lost m (calls.CreateDisk wanted v) it lost doubts has next =
        of_next P (calls.FindDisk m) call next (cases.finds_disk m wanted v doubts)
    by_lost m c None lost doubts has next = absurd cc
    by_lost m (calls.DeleteVm v) (Some it) lost doubts has next =
        of_next P (calls.HasVm it.vm) call next (cases.there it m v has doubts)
    by_lost m c (Some it) lost doubts has next =
        of_next P (calls.DeleteVm it.vm) call next (cases.deletes it lost has)

    by_doubt : (m : ℕ) (c : Call) (it : Option Vm) → row.lost ≡ false → Doubts row m c → row.vm ≡ it →
        next_call want (as_case row false (Some (record { n = m; call = c })) it) ≡ Some call → P call
    by_doubt m (calls.CreateVm make hint) it found doubts has next =
        of_next P (calls.FindVm m) call next (cases.finds_vm m make hint found doubts)
    by_doubt m (calls.CreateDisk wanted v) it found doubts has next =
        of_next P (calls.FindDisk m) call next (cases.finds_disk m wanted v doubts)
    by_doubt m c None found doubts has next = absurd cc
    by_doubt m (calls.DeleteVm v) (Some it) found doubts has next =
        of_next P (calls.HasVm it.vm) call next (cases.there it m v has doubts)
    by_doubt m (calls.AttachDisk v x) (Some it) found doubts has next =
        of_next P (calls.GetDisks it.vm) call next (cases.lists it m v x found has (inl doubts))
    by_doubt m (calls.DetachDisk v x) (Some it) found doubts has next =
        of_next P (calls.GetDisks it.vm) call next (cases.lists it m v x found has (inr doubts))
    by_doubt m (calls.MountDisk v x) (Some it) found doubts has next =
        of_next P (calls.ListDisk it.vm) call next (cases.shows it m v x found has (inl doubts))
    by_doubt m (calls.UnmountDisk v x) (Some it) found doubts has next =
        of_next P (calls.ListDisk it.vm) call next (cases.shows it m v x found has (inr doubts))
    by_doubt m c (Some it) found doubts has next =
        of_next P (calls.GetState it.vm) call next (cases.tells it m c found has doubts refl)

    by_case : (lost : Bool) (d : Option Doubt) (it : Option Vm) → row.lost ≡ lost → row.doubt ≡ d → row.vm ≡ it →
        next_call want (as_case row lost d it) ≡ Some call → P call
    by_case true None None lost doubts has is = absurd cc
    by_case true None (Some it) lost doubts has is =
        of_next P (calls.DeleteVm it.vm) call is (cases.deletes it lost has)
    by_case true (Some d) it lost doubts has is = by_lost d.n d.call it lost doubts has is
    by_case false None it lost doubts has is =
        by_cases P want row (cases.known lost doubts) lost doubts call next
    by_case false (Some d) it lost doubts has is = by_doubt d.n d.call it lost doubts has is
