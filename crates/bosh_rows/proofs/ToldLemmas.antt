-- What one answer says of a row.
use Rattle.std.proofs.Common.{◌≡◌, ℕ, false, Option, None, arith}
use Rattle.bosh_base.specs.declared.answer.Answer.{Answer}
use Rattle.bosh_base.specs.declared.call.Call.{Call}
use Rattle.bosh_base.specs.declared.call.Call.TheVariants.{CreateVm, DeleteVm, HasVm, FindVm, CreateDisk, DeleteDisk, HasDisk, FindDisk, AttachDisk, DetachDisk, GetDisks, Ping, GetState, Apply, Start, Drain, Stop, MountDisk, UnmountDisk, ListDisk, MigrateDisk, CompilePackage}
use Rattle.bosh_base.specs.declared.row.Doubt.{Doubt}
use Rattle.bosh_base.specs.declared.row.Row.{Row}
use Rattle.bosh_rows.specs.After.{after, with_found}
use Rattle.bosh_rows.specs.Told.{says_absent, machine_told, spec_told, running_told, or_before}

-- a disk that is found changes nothing of the machine
pub record SameMachine (old new : Row) : Type 0 where
  pub vm : new.vm ≡ old.vm
  pub spec : new.spec ≡ old.spec
  pub running : new.running ≡ old.running

found_by : (tag : ℕ) (found : Option ℕ) (doubt : Option Doubt) (row : Row)
    → SameMachine row (with_found tag found doubt row)
found_by tag found doubt row = record { vm = grind (arith); spec = grind (arith); running = grind (arith) }

pub machine_after : (n : ℕ) (call : Call) (answer : Answer) (row : Row)
    → (after n call answer row).vm ≡ or_before (says_absent row call answer) None (machine_told n call answer) row.vm
machine_after n (CreateVm x0 x1) answer row = grind (arith)
machine_after n (DeleteVm x0) answer row = grind (arith)
machine_after n (HasVm x0) answer row = grind (arith)
machine_after n (FindVm x0) answer row = grind (arith)
machine_after n (CreateDisk x0 x1) answer row = grind (arith)
machine_after n (DeleteDisk x0) answer row = grind (arith)
machine_after n (HasDisk x0) answer row = grind (arith)
machine_after n (FindDisk x0) answer row = grind (arith)
machine_after n (AttachDisk x0 x1) answer row = grind (arith)
machine_after n (DetachDisk x0 x1) answer row = grind (arith)
machine_after n (GetDisks x0) answer row = grind (arith)
machine_after n (Ping x0) answer row = grind (arith)
machine_after n (GetState x0) answer row = grind (arith)
machine_after n (Apply x0 x1) answer row = grind (arith)
machine_after n (Start x0) answer row = grind (arith)
machine_after n (Drain x0) answer row = grind (arith)
machine_after n (Stop x0) answer row = grind (arith)
machine_after n (MountDisk x0 x1) answer row = grind (arith)
machine_after n (UnmountDisk x0 x1) answer row = grind (arith)
machine_after n (ListDisk x0) answer row = grind (arith)
machine_after n (MigrateDisk x0 x1 x2) answer row = grind (arith)
machine_after n (CompilePackage x0 x1 x2) answer row = grind (arith)

pub spec_after : (n : ℕ) (call : Call) (answer : Answer) (row : Row)
    → (after n call answer row).spec ≡ or_before (says_absent row call answer) None (spec_told call answer) row.spec
spec_after n (CreateVm x0 x1) answer row = grind (arith)
spec_after n (DeleteVm x0) answer row = grind (arith)
spec_after n (HasVm x0) answer row = grind (arith)
spec_after n (FindVm x0) answer row = grind (arith)
spec_after n (CreateDisk x0 x1) answer row = grind (arith)
spec_after n (DeleteDisk x0) answer row = grind (arith)
spec_after n (HasDisk x0) answer row = grind (arith)
spec_after n (FindDisk x0) answer row = grind (arith)
spec_after n (AttachDisk x0 x1) answer row = grind (arith)
spec_after n (DetachDisk x0 x1) answer row = grind (arith)
spec_after n (GetDisks x0) answer row = grind (arith)
spec_after n (Ping x0) answer row = grind (arith)
spec_after n (GetState x0) answer row = grind (arith)
spec_after n (Apply x0 x1) answer row = grind (arith)
spec_after n (Start x0) answer row = grind (arith)
spec_after n (Drain x0) answer row = grind (arith)
spec_after n (Stop x0) answer row = grind (arith)
spec_after n (MountDisk x0 x1) answer row = grind (arith)
spec_after n (UnmountDisk x0 x1) answer row = grind (arith)
spec_after n (ListDisk x0) answer row = grind (arith)
spec_after n (MigrateDisk x0 x1 x2) answer row = grind (arith)
spec_after n (CompilePackage x0 x1 x2) answer row = grind (arith)

pub running_after : (n : ℕ) (call : Call) (answer : Answer) (row : Row)
    → (after n call answer row).running
    ≡ or_before (says_absent row call answer) false (running_told call answer) row.running
running_after n (CreateVm x0 x1) answer row = grind (arith)
running_after n (DeleteVm x0) answer row = grind (arith)
running_after n (HasVm x0) answer row = grind (arith)
running_after n (FindVm x0) answer row = grind (arith)
running_after n (CreateDisk x0 x1) answer row = grind (arith)
running_after n (DeleteDisk x0) answer row = grind (arith)
running_after n (HasDisk x0) answer row = grind (arith)
running_after n (FindDisk x0) answer row = grind (arith)
running_after n (AttachDisk x0 x1) answer row = grind (arith)
running_after n (DetachDisk x0 x1) answer row = grind (arith)
running_after n (GetDisks x0) answer row = grind (arith)
running_after n (Ping x0) answer row = grind (arith)
running_after n (GetState x0) answer row = grind (arith)
running_after n (Apply x0 x1) answer row = grind (arith)
running_after n (Start x0) answer row = grind (arith)
running_after n (Drain x0) answer row = grind (arith)
running_after n (Stop x0) answer row = grind (arith)
running_after n (MountDisk x0 x1) answer row = grind (arith)
running_after n (UnmountDisk x0 x1) answer row = grind (arith)
running_after n (ListDisk x0) answer row = grind (arith)
running_after n (MigrateDisk x0 x1 x2) answer row = grind (arith)
running_after n (CompilePackage x0 x1 x2) answer row = grind (arith)
