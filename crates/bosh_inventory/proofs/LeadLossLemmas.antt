-- The change of a write, and that of a loss, lead from the tables before them to those after.
use Rattle.std.proofs.Common.{◌≡◌, ℕ, true, false, Option, Some, None, List, [], ◌∷◌, ◌++◌, refl, sym, ◌∙◌, subst}
use Rattle.std.specs.Prelude.{is_some}
use Rattle.std.specs.Option.{option_map}
use Rattle.bosh_agent.specs.Slots.{with_slot}
use Rattle.bosh_base.specs.Cloud.{is_vm_there, machine_of, is_disk_there}
use Rattle.bosh_base.specs.declared.entry.Write as write
use Rattle.bosh_base.specs.declared.entry.Entry.{Entry}
use Rattle.bosh_base.specs.declared.entry.Entry.TheVariants.{Write, Lost}
use Rattle.bosh_base.specs.declared.machine.Machine.{Machine}
use Rattle.bosh_inventory.proofs.LookupLemmas.{at-vms}
use Rattle.bosh_inventory.proofs.LossLemmas.{AreTables-silenced, AreTables-written}
use Rattle.bosh_inventory.proofs.DeletionLemmas.{AreTables-lost}
use Rattle.bosh_registers.specs.Changes.{silenced}
use Rattle.bosh_inventory.specs.Changes.{Leads}
use Rattle.bosh_inventory.specs.Rows.{AreTables}
use Rattle.bosh_registers.specs.declared.change.Change.TheVariants.{NoVm, Silent, Written}
use Rattle.bosh_inventory.proofs.LeadLemmas.{Pair, made_vm, made_disk, there_vm}

pair-written : (xs : List Entry) (w : write.Write) → is_disk_there xs w.disk ≡ true →
    Pair xs (Write w) (Written w.disk w.text)
pair-written xs w there t tables =
    (made_disk xs t tables w.disk there, AreTables-written xs w t.vms t.disks t.holders there tables)

pub Leads-written : (xs : List Entry) (w : write.Write) → is_disk_there xs w.disk ≡ true →
    Leads xs (Write w) (Written w.disk w.text)
Leads-written xs w there =
    record {
      fits = λ t tables. (pair-written xs w there t tables).0;
      keeps = λ t tables.
          (pair-written xs w there t tables).1;
    }

pair-lost : (xs : List Entry) (vm : ℕ) → is_vm_there xs vm ≡ true →
    Pair xs (Lost (record { vm = vm; whole = true })) (NoVm vm)
pair-lost xs vm there t tables =
    (made_vm xs t tables vm there, AreTables-lost xs vm t.vms t.disks t.holders there tables)

pub Leads-lost : (xs : List Entry) (vm : ℕ) → is_vm_there xs vm ≡ true →
    Leads xs (Lost (record { vm = vm; whole = true })) (NoVm vm)
Leads-lost xs vm there =
    record {
      fits = λ t tables. (pair-lost xs vm there t tables).0;
      keeps = λ t tables.
          (pair-lost xs vm there t tables).1;
    }

some_is : {A : Type 0} (o : Option A) → is_some o ≡ true → (a : A) × (o ≡ Some a)
some_is None is = absurd cc
some_is (Some a) is = (a, refl)

pair-silenced : (xs : List Entry) (vm : ℕ) → is_vm_there xs vm ≡ true →
    Pair xs (Lost (record { vm = vm; whole = false })) (Silent vm)
pair-silenced xs vm there t tables =
    let m : (a : Machine) × (machine_of xs vm ≡ Some a) =
    some_is (machine_of xs vm) (sym (tables.are_orderly.vms vm).made ∙ there) in
    let P : Option Machine → Type 0 =
    λ o. AreTables (xs ++ Lost (record { vm = vm; whole = false }) ∷ []) (with_slot t.vms vm (option_map silenced o))
    t.disks t.holders in (
      there_vm xs t tables vm m.0 m.1,
      subst P (sym (at-vms xs t.vms t.disks t.holders tables vm ∙ m.1))
          (AreTables-silenced xs vm m.0 t.vms t.disks t.holders m.1 tables),
    )

pub Leads-silenced : (xs : List Entry) (vm : ℕ) → is_vm_there xs vm ≡ true →
    Leads xs (Lost (record { vm = vm; whole = false })) (Silent vm)
Leads-silenced xs vm there =
    record {
      fits = λ t tables. (pair-silenced xs vm there t tables).0;
      keeps = λ t tables.
          (pair-silenced xs vm there t tables).1;
    }
