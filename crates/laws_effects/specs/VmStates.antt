-- What one more entry changes in a machine (bosh.io, "CPI API v1" and "Agent API", in this project's profile).
use Rattle.std.specs.Prelude.{ℕ, ◌+◌, Bool, true, false, ◌==◌, if◌then◌else◌, Option, Some, None, List}
use Rattle.bosh_base.specs.Cloud.{is_drained, is_running, is_silent, is_vm_there, spec_of}
use Rattle.bosh_base.specs.declared.call.Call.{Call}
use Rattle.bosh_base.specs.declared.call.Call.TheVariants.{CreateVm, DeleteVm, Apply, Start, Drain, Stop}
use Rattle.bosh_base.specs.declared.entry.Entry.{Entry}
use Rattle.bosh_base.specs.declared.entry.Entry.TheVariants.{Effect, Lost}
use Rattle.bosh_base.specs.declared.spec.Spec.{Spec}

-- what is to be said of the machine of a number, but for its disks and how it was made
pub record VmState : Type 0 where
  pub there : Bool
  pub silent : Bool
  pub spec : Option Spec
  pub running : Bool
  pub drained : Bool

abbrev pub vm_state : List Entry → ℕ → VmState
vm_state entries v = record {
  there = is_vm_there entries v;
  silent = is_silent entries v;
  spec = spec_of entries v;
  running = is_running entries v;
  drained = is_drained entries v;
}

abbrev pub new_vm : VmState
new_vm = record { there = true; silent = false; spec = None; running = false; drained = false }

-- machine v after a call that had its effect, where so many were created before it
abbrev pub vm_after_call : ℕ → ℕ → Call → VmState → VmState
vm_after_call created v (CreateVm make disks) it = if created + 1 == v then new_vm else it
vm_after_call created v (DeleteVm vm) it = if vm == v then record it { there = false } else it
vm_after_call created v (Apply vm spec) it = if vm == v then record it { spec = Some spec } else it
vm_after_call created v (Start vm) it = if vm == v then record it { running = true; drained = false } else it
vm_after_call created v (Drain vm) it = if vm == v then record it { drained = true } else it
vm_after_call created v (Stop vm) it = if vm == v then record it { running = false } else it
vm_after_call created v call it = it

-- .. and after a loss, whole or of its agent
abbrev pub vm_after_loss : Bool → VmState → VmState
vm_after_loss true it = record it { there = false }
vm_after_loss false it = record it { silent = true }

abbrev pub vm_after : ℕ → ℕ → Entry → VmState → VmState
vm_after created v (Effect e) it = vm_after_call created v e.call it
vm_after created v (Lost loss) it = if loss.vm == v then vm_after_loss loss.whole it else it
vm_after created v entry it = it
