-- The next call of a row is never a ping, which is made of an instance that is to be asked alone, nor a compilation, nor
-- the deletion of a disk.
use Rattle.std.proofs.Common.{◌≡◌, Bool, true, false, Option, Some, None, refl, subst}
use Rattle.std.specs.Prelude.{if◌then◌else◌}
use Rattle.std.specs.Option.{option_and_then, option_map}
use Rattle.bosh_base.specs.Call.{method_of}
use Rattle.bosh_base.specs.declared.call.Call.{Call}
use Rattle.bosh_base.specs.declared.call.Call.TheVariants as calls
use Rattle.bosh_base.specs.declared.goal.GoalRow.{GoalRow}
use Rattle.bosh_base.specs.declared.method.Method.{Method}
use Rattle.bosh_base.specs.declared.method.Method.TheVariants as methods
use Rattle.bosh_base.specs.declared.row.Doubt.{Doubt}
use Rattle.bosh_base.specs.declared.row.Row.{Row}
use Rattle.bosh_base.specs.declared.row.Vm.{Vm}
use Rattle.bosh_rows.specs.CallOf.{call_of, next_call}
use Rattle.bosh_rows.specs.NextStep.{known_step, lost_method, lost_step, plain, probe_method}
use Rattle.laws_row_facts.specs.Calls.{is_ping}
use Rattle.laws_rows.proofs.StepCases.{Cases, by_cases}

-- it compiles a package
abbrev pub is_compilation : Call → Bool
is_compilation (calls.CompilePackage vm work deps) = true
is_compilation call = false

-- it deletes a disk
abbrev pub deletes_disk : Call → Bool
deletes_disk (calls.DeleteDisk d) = true
deletes_disk call = false

abbrev pub IsPlain : Call → Type 0
IsPlain call = (is_ping call ≡ false) × (is_compilation call ≡ false) × (deletes_disk call ≡ false)

mapped : {A : Type 0} (f : A → Call) (it : Option A) (call : Call) → ((a : A) → IsPlain (f a))
    → option_map f it ≡ Some call → IsPlain call
mapped f (Some a) call none is = let same : f a ≡ call = cc in subst (λ (c : Call). IsPlain c) same (none a)
mapped f None call none is = absurd cc

lost_asks : (want : Option GoalRow) (row : Row) (call : Call) (method : Method)
    → call_of (plain (lost_method method)) want row ≡ Some call → IsPlain call
lost_asks want row call methods.CreateDisk is =
    mapped (λ (it : Doubt). calls.FindDisk it.n) row.doubt call (λ it. (refl, refl, refl)) is
lost_asks want row call methods.DeleteVm is =
    mapped (λ (it : Vm). calls.HasVm it.vm) row.vm call (λ it. (refl, refl, refl)) is
lost_asks want row call method is = mapped (λ (it : Vm). calls.DeleteVm it.vm) row.vm call (λ it. (refl, refl, refl)) is

probe_asks : (want : Option GoalRow) (row : Row) (call : Call) (method : Method)
    → call_of (plain (probe_method method)) want row ≡ Some call → IsPlain call
probe_asks want row call methods.CreateVm is =
    mapped (λ (it : Doubt). calls.FindVm it.n) row.doubt call (λ it. (refl, refl, refl)) is
probe_asks want row call methods.DeleteVm is =
    mapped (λ (it : Vm). calls.HasVm it.vm) row.vm call (λ it. (refl, refl, refl)) is
probe_asks want row call methods.CreateDisk is =
    mapped (λ (it : Doubt). calls.FindDisk it.n) row.doubt call (λ it. (refl, refl, refl)) is
probe_asks want row call methods.AttachDisk is =
    mapped (λ (it : Vm). calls.GetDisks it.vm) row.vm call (λ it. (refl, refl, refl)) is
probe_asks want row call methods.DetachDisk is =
    mapped (λ (it : Vm). calls.GetDisks it.vm) row.vm call (λ it. (refl, refl, refl)) is
probe_asks want row call methods.MountDisk is =
    mapped (λ (it : Vm). calls.ListDisk it.vm) row.vm call (λ it. (refl, refl, refl)) is
probe_asks want row call methods.UnmountDisk is =
    mapped (λ (it : Vm). calls.ListDisk it.vm) row.vm call (λ it. (refl, refl, refl)) is
probe_asks want row call method is = mapped (λ (it : Vm). calls.GetState it.vm) row.vm call (λ it. (refl, refl, refl)) is

step_cases : (want : Option GoalRow) (row : Row) → Cases IsPlain want row
step_cases want row = record {
  remove_drain = λ it has away runs drained. (refl, refl, refl);
  remove_stop = λ it has away runs drained. (refl, refl, refl);
  remove_unmount = λ it d has away rests first. (refl, refl, refl);
  remove_detach = λ it d has away rests none first. (refl, refl, refl);
  remove_delete = λ it has away rests none too. (refl, refl, refl);
  create = λ w wants none stays. (refl, refl, refl);
  tend_drain = λ w it wants has stays runs stops drained. (refl, refl, refl);
  tend_stop = λ w it wants has stays runs stops drained. (refl, refl, refl);
  clear_unmount = λ w it d wants tended first. (refl, refl, refl);
  clear_detach = λ w it d wants tended none first. (refl, refl, refl);
  release_unmount = λ w it d wants cleared no_disk first. (refl, refl, refl);
  release_detach = λ w it d wants cleared no_disk none first. (refl, refl, refl);
  provide = λ w it wanted wants cleared disk none. (refl, refl, refl);
  place_attach = λ w it wanted old wants cleared disk there off. (refl, refl, refl);
  place_mount = λ w it wanted old wants cleared disk there on off. (refl, refl, refl);
  replace_create = λ w it wanted old wants replaced none. (refl, refl, refl);
  replace_attach = λ w it wanted old new wants replaced there off. (refl, refl, refl);
  replace_mount = λ w it wanted old new wants replaced there on off. (refl, refl, refl);
  replace_migrate = λ w it wanted old new wants replaced there on mounted. (refl, refl, refl);
  apply = λ w it wants cleared differs. (refl, refl, refl);
  start = λ w it wants cleared settled same running rests. (refl, refl, refl);
}

pub plain_call : (want : Option GoalRow) (row : Row) (call : Call) → next_call want row ≡ Some call
    → IsPlain call
plain_call want row call is = by row.lost refl row.doubt refl is
  where
    by : (lost : Bool) → row.lost ≡ lost → (doubt : Option Doubt) → row.doubt ≡ doubt
        → option_and_then (λ step. call_of step want row)
        (if lost then Some (lost_step doubt) else known_step want row doubt) ≡ Some call → IsPlain call
    by true lost (Some doubt) has called = lost_asks want row call (method_of doubt.call) called
    by true lost None has called = mapped (λ (it : Vm). calls.DeleteVm it.vm) row.vm call (λ it. (refl, refl, refl)) called
    by false lost (Some doubt) has called = probe_asks want row call (method_of doubt.call) called
    by false lost None has called = by_cases IsPlain want row (step_cases want row) lost has call is
