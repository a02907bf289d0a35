-- What is read is what was spelled.
use Rattle.std.proofs.Common.{◌≡◌, ℕ, Bool, true, List, ◌++◌, Some, refl}
use Rattle.bosh_base.specs.declared.call.Call.{Call}
use Rattle.bosh_base.specs.declared.call.Call.TheVariants.{CreateVm, DeleteVm, HasVm, FindVm, CreateDisk, DeleteDisk, HasDisk, FindDisk, AttachDisk, DetachDisk, GetDisks, Ping, GetState, Apply, Start, Drain, Stop, MountDisk, UnmountDisk, ListDisk, MigrateDisk, CompilePackage}
use Rattle.std.proofs.Common.{sym, ap, subst, ◌∙◌, append_assoc}
use Rattle.bosh_base.specs.Call.{method_of}
use Rattle.bosh_base.specs.declared.method.Method.{Method}
use Rattle.bosh_base.specs.declared.method.Method.TheVariants as methods
use Rattle.bosh_entry.specs.Method.{method, is_method, method_at}
use Rattle.bosh_entry.specs.Reading.{IsBytes, Reader}
use Rattle.bosh_entry.proofs.MethodLemmas.{method_law}
use Rattle.bosh_entry.specs.Call.{call, is_call, call_at, call_fields, call_of_at}
use Rattle.bosh_entry.proofs.CodingLemmas.{Takes, Takes-then, IsMaking, IsCoding, making_law, bind_some, ◌and◌}
use Rattle.bosh_entry.proofs.NumberLemmas.{number_law}
use Rattle.bosh_entry.proofs.PlainLemmas.{digest_law}
use Rattle.bosh_entry.proofs.ListLemmas.{list_law}
use Rattle.bosh_entry.proofs.DiskWantLemmas.{disk_want_law}
use Rattle.bosh_entry.proofs.MakeLemmas.{make_law}
use Rattle.bosh_entry.proofs.SpecLemmas.{spec_law}
use Rattle.bosh_entry.proofs.KeyLemmas.{key_work_law}
use Rattle.bosh_entry.proofs.MethodLemmas.{method_law}

-- what is read as the call of a method
record IsCallOf (asked : Method) (reading : Reader Call) : Type 0 where
  takes : (bytes : List ℕ) (x : Call × List ℕ) → IsBytes bytes → reading bytes ≡ Some x → Takes bytes (call_fields x.0) x.1 × (is_call x.0 ≡ true) × (method_of x.0 ≡ asked)

of_method : {P : Type 0} {s : P → List ℕ} {f : P → Bool} {make : P → Call} {r : Reader Call} {asked : Method} → IsMaking s f make r
    → ((p : P) → call_fields (make p) ≡ s p) → ((p : P) → is_call (make p) ≡ f p) → ((p : P) → method_of (make p) ≡ asked) → IsCallOf asked r
of_method {P} {s} {f} {make} {r} {asked} law spelled tested asks = record {
  takes = λ bytes x fits e.
      let one = law.takes bytes x fits e in
      subst (λ (c : Call). Takes bytes (call_fields c) x.1 × (is_call c ≡ true) × (method_of c ≡ asked)) one.1
      (subst (λ (t : List ℕ). Takes bytes t x.1) (sym (spelled one.0)) one.2, tested one.0 ∙ one.3, asks one.0);
}

call_of_takes : (asked : Method) → IsCallOf asked (call_of_at asked)
unfolding call_fields is_call call_of_at
call_of_takes methods.CreateVm = of_method (making_law CreateVm and make_law and list_law number_law) (λ p. refl) (λ p. refl) (λ p. refl)
call_of_takes methods.DeleteVm = of_method (making_law DeleteVm and number_law) (λ p. refl) (λ p. refl) (λ p. refl)
call_of_takes methods.HasVm = of_method (making_law HasVm and number_law) (λ p. refl) (λ p. refl) (λ p. refl)
call_of_takes methods.FindVm = of_method (making_law FindVm and number_law) (λ p. refl) (λ p. refl) (λ p. refl)
call_of_takes methods.CreateDisk = of_method (making_law CreateDisk and disk_want_law and number_law) (λ p. refl) (λ p. refl) (λ p. refl)
call_of_takes methods.DeleteDisk = of_method (making_law DeleteDisk and number_law) (λ p. refl) (λ p. refl) (λ p. refl)
call_of_takes methods.HasDisk = of_method (making_law HasDisk and number_law) (λ p. refl) (λ p. refl) (λ p. refl)
call_of_takes methods.FindDisk = of_method (making_law FindDisk and number_law) (λ p. refl) (λ p. refl) (λ p. refl)
call_of_takes methods.AttachDisk = of_method (making_law AttachDisk and number_law and number_law) (λ p. refl) (λ p. refl) (λ p. refl)
call_of_takes methods.DetachDisk = of_method (making_law DetachDisk and number_law and number_law) (λ p. refl) (λ p. refl) (λ p. refl)
call_of_takes methods.GetDisks = of_method (making_law GetDisks and number_law) (λ p. refl) (λ p. refl) (λ p. refl)
call_of_takes methods.Ping = of_method (making_law Ping and number_law) (λ p. refl) (λ p. refl) (λ p. refl)
call_of_takes methods.GetState = of_method (making_law GetState and number_law) (λ p. refl) (λ p. refl) (λ p. refl)
call_of_takes methods.Apply = of_method (making_law Apply and number_law and spec_law) (λ p. refl) (λ p. refl) (λ p. refl)
call_of_takes methods.Start = of_method (making_law Start and number_law) (λ p. refl) (λ p. refl) (λ p. refl)
call_of_takes methods.Drain = of_method (making_law Drain and number_law) (λ p. refl) (λ p. refl) (λ p. refl)
call_of_takes methods.Stop = of_method (making_law Stop and number_law) (λ p. refl) (λ p. refl) (λ p. refl)
call_of_takes methods.MountDisk = of_method (making_law MountDisk and number_law and number_law) (λ p. refl) (λ p. refl) (λ p. refl)
call_of_takes methods.UnmountDisk = of_method (making_law UnmountDisk and number_law and number_law) (λ p. refl) (λ p. refl) (λ p. refl)
call_of_takes methods.ListDisk = of_method (making_law ListDisk and number_law) (λ p. refl) (λ p. refl) (λ p. refl)
call_of_takes methods.MigrateDisk = of_method (making_law MigrateDisk and number_law and number_law and number_law) (λ p. refl) (λ p. refl) (λ p. refl)
call_of_takes methods.CompilePackage = of_method (making_law CompilePackage and number_law and key_work_law and list_law digest_law) (λ p. refl) (λ p. refl) (λ p. refl)

call_of_again : (c : Call) (rest : List ℕ) → is_call c ≡ true → call_of_at (method_of c) (call_fields c ++ rest) ≡ Some (c, rest)
unfolding call_fields is_call call_of_at
call_of_again (CreateVm m disks) rest h = (making_law CreateVm and make_law and list_law number_law).again ((tt, m), disks) rest h
call_of_again (DeleteVm vm) rest h = (making_law DeleteVm and number_law).again (tt, vm) rest h
call_of_again (HasVm vm) rest h = (making_law HasVm and number_law).again (tt, vm) rest h
call_of_again (FindVm agent) rest h = (making_law FindVm and number_law).again (tt, agent) rest h
call_of_again (CreateDisk want vm) rest h = (making_law CreateDisk and disk_want_law and number_law).again ((tt, want), vm) rest h
call_of_again (DeleteDisk disk) rest h = (making_law DeleteDisk and number_law).again (tt, disk) rest h
call_of_again (HasDisk disk) rest h = (making_law HasDisk and number_law).again (tt, disk) rest h
call_of_again (FindDisk tag) rest h = (making_law FindDisk and number_law).again (tt, tag) rest h
call_of_again (AttachDisk vm disk) rest h = (making_law AttachDisk and number_law and number_law).again ((tt, vm), disk) rest h
call_of_again (DetachDisk vm disk) rest h = (making_law DetachDisk and number_law and number_law).again ((tt, vm), disk) rest h
call_of_again (GetDisks vm) rest h = (making_law GetDisks and number_law).again (tt, vm) rest h
call_of_again (Ping vm) rest h = (making_law Ping and number_law).again (tt, vm) rest h
call_of_again (GetState vm) rest h = (making_law GetState and number_law).again (tt, vm) rest h
call_of_again (Apply vm s) rest h = (making_law Apply and number_law and spec_law).again ((tt, vm), s) rest h
call_of_again (Start vm) rest h = (making_law Start and number_law).again (tt, vm) rest h
call_of_again (Drain vm) rest h = (making_law Drain and number_law).again (tt, vm) rest h
call_of_again (Stop vm) rest h = (making_law Stop and number_law).again (tt, vm) rest h
call_of_again (MountDisk vm disk) rest h = (making_law MountDisk and number_law and number_law).again ((tt, vm), disk) rest h
call_of_again (UnmountDisk vm disk) rest h = (making_law UnmountDisk and number_law and number_law).again ((tt, vm), disk) rest h
call_of_again (ListDisk vm) rest h = (making_law ListDisk and number_law).again (tt, vm) rest h
call_of_again (MigrateDisk vm source target) rest h = (making_law MigrateDisk and number_law and number_law and number_law).again (((tt, vm), source), target) rest h
call_of_again (CompilePackage vm work deps) rest h = (making_law CompilePackage and number_law and key_work_law and list_law digest_law).again (((tt, vm), work), deps) rest h

pub call_law : IsCoding call is_call call_at
unfolding call call_at is_method
call_law = record {
  takes = λ bytes x fits e.
      let asked = bind_some (method_at bytes) (λ (m : Method × List ℕ). call_of_at m.0 m.1) x e in
      let one = method_law.takes bytes asked.0 fits asked.1 in
      let two = (call_of_takes asked.0.0).takes asked.0.1 x one.0.rest_fits asked.2 in
      let both = Takes-then bytes (method asked.0.0) asked.0.1 (call_fields x.0) x.1 one.0 two.0 in
      (subst (λ (m : Method). Takes bytes (method m ++ call_fields x.0) x.1) (sym two.2) both, two.1);
  again = λ c rest h.
      ap call_at (append_assoc (method (method_of c)) (call_fields c) rest)
      ∙ rw (method_law.again (method_of c) (call_fields c ++ rest) refl) (call_of_again c rest h);
}
