-- A machine is created for an instance only where one is wanted of that make.
use Rattle.std.proofs.Common.{◌≡◌, ℕ, Bool, true, false, Option, Some, None, List, refl, arith}
use Rattle.std.specs.Prelude.{◌≢◌, if◌then◌else◌}
use Rattle.std.specs.Option.{option_and_then, option_map}
use Rattle.bosh_base.specs.Call.{method_of}
use Rattle.bosh_base.specs.declared.call.Call.{Call}
use Rattle.bosh_base.specs.declared.call.Call.TheVariants as calls
use Rattle.bosh_base.specs.declared.goal.GoalRow.{GoalRow}
use Rattle.bosh_base.specs.declared.make.Make.{Make}
use Rattle.bosh_base.specs.declared.method.Method.{Method}
use Rattle.bosh_base.specs.declared.method.Method.TheVariants as methods
use Rattle.bosh_base.specs.declared.row.Doubt.{Doubt}
use Rattle.bosh_base.specs.declared.row.Row.{Row}
use Rattle.bosh_base.specs.declared.row.Vm.{Vm}
use Rattle.laws_rows.proofs.StepCases.{Cases, by_cases}
use Rattle.bosh_rows.specs.CallOf.{call_of, next_call}
use Rattle.bosh_rows.specs.Disks.{is_detached}
use Rattle.bosh_rows.specs.NextStep.{known_step, lost_method, lost_step, plain, probe_method}

-- it is wanted of this make, and not to be detached
pub record IsCreated (want : Option GoalRow) (make : Make) : Type 0 where
  pub row : GoalRow
  pub wants : want ≡ Some row
  pub of_make : make ≡ row.make
  pub stays : is_detached row.state ≡ false

abbrev pub Creates : Option GoalRow → Call → Type 0
Creates want call = (make : Make) (disks : List ℕ) → call ≡ calls.CreateVm make disks → IsCreated want make

-- a call on what is recorded is none that creates a machine
pub none_on : {A : Type 0} (make : Make) (disks : List ℕ) (call : A → Call) (it : Option A)
    → ((a : A) → call a ≢ calls.CreateVm make disks) → option_map call it ≢ Some (calls.CreateVm make disks)
none_on make disks call (Some a) none is = none a (grind (arith, is))
none_on make disks call None none is = absurd cc

lost_none : (want : Option GoalRow) (row : Row) (make : Make) (disks : List ℕ) (method : Method)
    → call_of (plain (lost_method method)) want row ≢ Some (calls.CreateVm make disks)
lost_none want row make disks methods.CreateDisk is =
    none_on make disks (λ (it : Doubt). calls.FindDisk it.n) row.doubt (λ a same. absurd cc) is
lost_none want row make disks methods.DeleteVm is =
    none_on make disks (λ (it : Vm). calls.HasVm it.vm) row.vm (λ a same. absurd cc) is
lost_none want row make disks method is =
    none_on make disks (λ (it : Vm). calls.DeleteVm it.vm) row.vm (λ a same. absurd cc) is

probe_none : (want : Option GoalRow) (row : Row) (make : Make) (disks : List ℕ) (method : Method)
    → call_of (plain (probe_method method)) want row ≢ Some (calls.CreateVm make disks)
probe_none want row make disks methods.CreateVm is =
    none_on make disks (λ (it : Doubt). calls.FindVm it.n) row.doubt (λ a same. absurd cc) is
probe_none want row make disks methods.DeleteVm is =
    none_on make disks (λ (it : Vm). calls.HasVm it.vm) row.vm (λ a same. absurd cc) is
probe_none want row make disks methods.CreateDisk is =
    none_on make disks (λ (it : Doubt). calls.FindDisk it.n) row.doubt (λ a same. absurd cc) is
probe_none want row make disks methods.AttachDisk is =
    none_on make disks (λ (it : Vm). calls.GetDisks it.vm) row.vm (λ a same. absurd cc) is
probe_none want row make disks methods.DetachDisk is =
    none_on make disks (λ (it : Vm). calls.GetDisks it.vm) row.vm (λ a same. absurd cc) is
probe_none want row make disks methods.MountDisk is =
    none_on make disks (λ (it : Vm). calls.ListDisk it.vm) row.vm (λ a same. absurd cc) is
probe_none want row make disks methods.UnmountDisk is =
    none_on make disks (λ (it : Vm). calls.ListDisk it.vm) row.vm (λ a same. absurd cc) is
probe_none want row make disks method is =
    none_on make disks (λ (it : Vm). calls.GetState it.vm) row.vm (λ a same. absurd cc) is

creates_cases : (want : Option GoalRow) (row : Row) → Cases (Creates want) want row
creates_cases want row = record {
  remove_drain = λ it has away runs drained make disks is. absurd cc;
  remove_stop = λ it has away runs drained make disks is. absurd cc;
  remove_unmount = λ it d has away rests first make disks is. absurd cc;
  remove_detach = λ it d has away rests none first make disks is. absurd cc;
  remove_delete = λ it has away rests none too make disks is. absurd cc;
  create = λ w wants none stays make disks is. record {
    row = w;
    wants = wants;
    of_make = grind (arith, is);
    stays = stays;
  };
  tend_drain = λ w it wants has stays runs stops drained make disks is. absurd cc;
  tend_stop = λ w it wants has stays runs stops drained make disks is. absurd cc;
  clear_unmount = λ w it d wants tended first make disks is. absurd cc;
  clear_detach = λ w it d wants tended none first make disks is. absurd cc;
  release_unmount = λ w it d wants cleared no_disk first make disks is. absurd cc;
  release_detach = λ w it d wants cleared no_disk none first make disks is. absurd cc;
  provide = λ w it wanted wants cleared disk none make disks is. absurd cc;
  place_attach = λ w it wanted old wants cleared disk there off make disks is. absurd cc;
  place_mount = λ w it wanted old wants cleared disk there on off make disks is. absurd cc;
  replace_create = λ w it wanted old wants replaced none make disks is. absurd cc;
  replace_attach = λ w it wanted old new wants replaced there off make disks is. absurd cc;
  replace_mount = λ w it wanted old new wants replaced there on off make disks is. absurd cc;
  replace_migrate = λ w it wanted old new wants replaced there on mounted make disks is. absurd cc;
  apply = λ w it wants cleared differs make disks is. absurd cc;
  start = λ w it wants cleared settled same running rests make disks is. absurd cc;
}

pub creates_wanted : (want : Option GoalRow) (row : Row) (make : Make) (disks : List ℕ)
    → next_call want row ≡ Some (calls.CreateVm make disks) → IsCreated want make
creates_wanted want row make disks is = by row.lost refl row.doubt refl is
  where
    by : (lost : Bool) → row.lost ≡ lost → (doubt : Option Doubt) → row.doubt ≡ doubt
        → option_and_then (λ step. call_of step want row)
        (if lost then Some (lost_step doubt) else known_step want row doubt) ≡ Some (calls.CreateVm make disks)
        → IsCreated want make
    by true lost (Some doubt) has called = absurd (lost_none want row make disks (method_of doubt.call) called)
    by true lost None has called =
        absurd (none_on make disks (λ (it : Vm). calls.DeleteVm it.vm) row.vm (λ a same. absurd cc) called)
    by false lost (Some doubt) has called = absurd (probe_none want row make disks (method_of doubt.call) called)
    by false lost None has called =
        by_cases (Creates want) want row (creates_cases want row) lost has
        (calls.CreateVm make disks) is make disks refl
