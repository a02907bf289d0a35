-- An agent's call neither makes nor removes anything, and gives no disk another holder.
use Rattle.std.proofs.Common.{◌≡◌, ℕ, ◌+◌, true, false, Some, None, List, refl, ap}
use Rattle.std.specs.Prelude.{◌==◌, ◌&&◌}
use Rattle.bosh_base.specs.Call.{method_of}
use Rattle.bosh_base.specs.Cloud.{when, vms_created, disks_created, attached, creates_vm, creates_disk, vm_stays, disk_stays}
use Rattle.bosh_base.specs.declared.call.Call.{Call}
use Rattle.bosh_base.specs.declared.call.Call.TheVariants.{CreateVm, DeleteVm, CreateDisk, DeleteDisk, AttachDisk, DetachDisk}
use Rattle.bosh_base.specs.declared.entry.Effect as effect
use Rattle.bosh_base.specs.declared.entry.Entry.{Entry}
use Rattle.bosh_base.specs.declared.entry.Entry.TheVariants.{Effect}
use Rattle.bosh_inventory.proofs.PresenceLemmas.{KeepsVms, KeepsDisks}
use Rattle.bosh_base.specs.Method.{is_agents}

abbrev pub IsAgents : effect.Effect → Type 0
IsAgents e = is_agents (method_of e.call) ≡ true

pub KeepsVms-agents : (xs : List Entry) (e : effect.Effect) → IsAgents e → KeepsVms xs (Effect e)
KeepsVms-agents xs e is = record {
  makes_none = none e.call is;
  created = λ v. ap (λ it. when (it && (vms_created xs + 1 == v)) (Some e)) (none e.call is);
  stays = λ v. stays v (vms_created xs) e.call is;
}
  where
    none : (call : Call) → is_agents (method_of call) ≡ true → creates_vm call ≡ false
    none (CreateVm make disks) is = absurd cc
    none call is = refl

    stays : (v c : ℕ) (call : Call) → is_agents (method_of call) ≡ true → vm_stays v c call ≡ None
    stays v c (CreateVm make disks) is = absurd cc
    stays v c (DeleteVm vm) is = absurd cc
    stays v c call is = refl

pub KeepsDisks-agents : (xs : List Entry) (e : effect.Effect) → IsAgents e → KeepsDisks xs (Effect e)
KeepsDisks-agents xs e is = record {
  makes_none = none e.call is;
  created = λ d. ap (λ it. when (it && (disks_created xs + 1 == d)) (Some e)) (none e.call is);
  stays = λ d. stays d (disks_created xs) e.call is;
}
  where
    none : (call : Call) → is_agents (method_of call) ≡ true → creates_disk call ≡ false
    none (CreateDisk want vm) is = absurd cc
    none call is = refl

    stays : (d c : ℕ) (call : Call) → is_agents (method_of call) ≡ true → disk_stays d c call ≡ None
    stays d c (CreateDisk want vm) is = absurd cc
    stays d c (DeleteDisk disk) is = absurd cc
    stays d c call is = refl

pub attached-agents : (d : ℕ) (call : Call) → is_agents (method_of call) ≡ true → attached d call ≡ None
attached-agents d (AttachDisk vm disk) is = absurd cc
attached-agents d (DetachDisk vm disk) is = absurd cc
attached-agents d call is = refl
