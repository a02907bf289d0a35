-- Where the next call of a row names its machine, there is one.
use Rattle.std.proofs.Common.{◌≡◌, ℕ, true, false, Option, Some, None, refl, sym, ◌∙◌, ap}
use Rattle.std.specs.Prelude.{is_some}
use Rattle.std.specs.Option.{option_and_then, option_map}
use Rattle.std.proofs.lemmas.Option.{same_Some}
use Rattle.bosh_base.specs.declared.call.Call.{Call}
use Rattle.bosh_base.specs.declared.goal.GoalRow.{GoalRow}
use Rattle.bosh_base.specs.declared.method.Method.{Method}
use Rattle.bosh_base.specs.declared.method.Method.TheVariants as methods
use Rattle.bosh_base.specs.declared.row.DiskRow.{DiskRow}
use Rattle.bosh_base.specs.declared.row.Row.{Row}
use Rattle.bosh_base.specs.declared.row.Vm.{Vm}
use Rattle.bosh_rows.specs.CallOf.{call_of, disk_wanted, next_call}
use Rattle.bosh_rows.specs.Disks.{active}
use Rattle.bosh_rows.specs.NextStep.{next_step}
use Rattle.bosh_rows.specs.declared.step.Step.{Step}
use Rattle.laws_row_facts.specs.Calls.{names_machine}

none_then : {A B : Type 0} (o : Option A) (b : B) → option_and_then (λ (a : A). None) o ≡ Some b → ⊥
none_then None b is = cc
none_then (Some a) b is = cc

mapped : {A : Type 0} (o : Option A) (f : A → Call) (call : Call) → ((a : A) → names_machine (f a) ≡ false) →
    option_map f o ≡ Some call → names_machine call ≡ false
mapped None f call each is = absurd cc
mapped (Some a) f call each is = ap names_machine (sym (same_Some (f a) call is)) ∙ each a

none_moved : (old : Option DiskRow) (disk : Option ℕ) (call : Call) →
    option_and_then (λ (it : DiskRow). option_and_then (λ (d : ℕ). None) disk) old ≡ Some call → ⊥
none_moved None disk call is = cc
none_moved (Some it) disk call is = none_then disk call is

-- a row without a machine has no call that names one
none_named : (want : Option GoalRow) (row : Row) (method : Method) (disk : Option ℕ) (call : Call) →
    call_of (record { method = method; disk = disk }) want (record row { vm = None }) ≡ Some call →
    names_machine call ≡ false
none_named want row methods.CreateVm disk call is = mapped want _ call (λ w. refl) is
none_named want row methods.FindVm disk call is = mapped row.doubt _ call (λ d. refl) is
none_named want row methods.FindDisk disk call is = mapped row.doubt _ call (λ d. refl) is
none_named want row methods.CreateDisk disk call is = absurd (none_then (disk_wanted want) call is)
none_named want row methods.Apply disk call is = absurd (none_then want call is)
none_named want row methods.AttachDisk disk call is = absurd (none_then disk call is)
none_named want row methods.DetachDisk disk call is = absurd (none_then disk call is)
none_named want row methods.MountDisk disk call is = absurd (none_then disk call is)
none_named want row methods.UnmountDisk disk call is = absurd (none_then disk call is)
none_named want row methods.MigrateDisk disk call is = absurd (none_moved (active row.disks) disk call is)
none_named want row method disk call is = absurd cc

-- .. so one that names a machine is of a row that has it
pub next_named : (want : Option GoalRow) (row : Row) (call : Call) → next_call want row ≡ Some call →
    names_machine call ≡ true → is_some row.vm ≡ true
next_named want row call next named = by_step (next_step want row) next
  where
    by_vm : (step : Step) (it : Option Vm) → row.vm ≡ it → call_of step want row ≡ Some call → is_some it ≡ true
    by_vm step (Some it) has is = refl
    by_vm step None has is =
        absurd (let none : names_machine call ≡ false =
        none_named want row step.method step.disk call
        ((λ i. call_of step want (record row { vm = sym has i })) ∙ is) in cc)

    by_step : (step : Option Step) → option_and_then (λ step. call_of step want row) step ≡ Some call →
        is_some row.vm ≡ true
    by_step (Some step) is = by_vm step row.vm refl is
    by_step None is = absurd cc
