-- The tables after a machine is deleted, or lost.
use Rattle.std.proofs.Common.{◌≡◌, ℕ, true, Option, None, List, [], ◌∷◌, ◌++◌, refl, sym, ap, subst}
use Rattle.bosh_agent.specs.Slots.{with_slot}
use Rattle.bosh_base.specs.Cloud.{is_vm_there}
use Rattle.bosh_base.specs.declared.entry.Effect as effect
use Rattle.bosh_base.specs.declared.entry.Entry.{Entry}
use Rattle.bosh_base.specs.declared.entry.Entry.TheVariants.{Effect, Lost}
use Rattle.bosh_base.specs.declared.machine.Disk.{Disk}
use Rattle.bosh_base.specs.declared.machine.Machine.{Machine}
use Rattle.bosh_inventory.proofs.PresenceLemmas.{contents_of-grown}
use Rattle.bosh_inventory.specs.Rows.{AreTables}
use Rattle.bosh_base.specs.declared.call.Call.TheVariants.{DeleteVm}
use Rattle.bosh_inventory.proofs.RemovalLemmas.{Removes, AreTables-removed}

pub AreTables-deleted : (xs : List Entry) (e : effect.Effect) (vm : ℕ) (vms : List (Option Machine))
    (volumes : List (Option Disk)) (holders : List (Option ℕ)) →
    e.call ≡ DeleteVm vm → is_vm_there xs vm ≡ true → AreTables xs vms volumes holders → AreTables (xs ++ Effect e ∷ [])
    (with_slot vms vm None) volumes holders
AreTables-deleted xs e vm vms volumes holders is there tables =
    let x : effect.Effect = record e { call = DeleteVm vm } in
    let removes : Removes xs (Effect x) vm = record {
      makes_none = refl;
      created = λ v. refl;
      stays = λ v. refl;
      disks = record { makes_none = refl; created = λ k. refl; stays = λ k. refl };
      holders = λ d. refl;
      mounts = λ d. refl;
      untouched = λ v. record { spec = refl; running = refl; drained = refl; silent = refl };
      same = λ d. ap (λ f. f d) (contents_of-grown xs (Effect x));
    } in
    let P : Entry → Type 0 = λ entry. AreTables (xs ++ entry ∷ []) (with_slot vms vm None) volumes holders in
    subst P (ap (λ call. Effect (record e { call = call })) (sym is))
    (AreTables-removed xs (Effect x) vm vms volumes holders there removes tables)

-- .. and after the loss of a whole machine
pub AreTables-lost : (xs : List Entry) (vm : ℕ) (vms : List (Option Machine)) (volumes : List (Option Disk))
    (holders : List (Option ℕ)) →
    is_vm_there xs vm ≡ true → AreTables xs vms volumes holders → AreTables
    (xs ++ Lost (record { vm = vm; whole = true }) ∷ []) (with_slot vms vm None) volumes holders
AreTables-lost xs vm vms volumes holders there tables =
    let x : Entry = Lost (record { vm = vm; whole = true }) in
    let removes : Removes xs x vm = record {
      makes_none = refl;
      created = λ v. refl;
      stays = λ v. refl;
      disks = record { makes_none = refl; created = λ k. refl; stays = λ k. refl };
      holders = λ d. refl;
      mounts = λ d. refl;
      untouched = λ v. record { spec = refl; running = refl; drained = refl; silent = refl };
      same = λ d. ap (λ f. f d) (contents_of-grown xs x);
    } in
    AreTables-removed xs x vm vms volumes holders there removes tables
