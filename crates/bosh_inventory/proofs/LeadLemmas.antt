-- Each change of a call to the cloud leads from the tables before it to those after it.
use Rattle.std.proofs.Common.{◌≡◌, ℕ, ◌≤◌, Bool, true, false, Option, Some, None, List, [], ◌∷◌, ◌++◌, refl, sym, ◌∙◌, ap, subst}
use Rattle.std.specs.Prelude.{◌&&◌, not, is_some, length}
use Rattle.std.specs.Option.{option_map}
use Rattle.bosh_agent.specs.Change.{IsMade}
use Rattle.bosh_agent.specs.Numbers.{with_number, without_number}
use Rattle.bosh_agent.specs.Slots.{with_slot}
use Rattle.bosh_base.specs.CallStep.{is_gone, is_movable, unless_gone}
use Rattle.bosh_base.specs.Cloud.{vms_created, is_vm_there, machine_of, disks_created, is_disk_there, holder_of}
use Rattle.bosh_base.specs.declared.answer.Answer.TheVariants as answers
use Rattle.bosh_base.specs.declared.call.Call.{Call}
use Rattle.bosh_base.specs.declared.call.Call.TheVariants.{DeleteVm, DeleteDisk, AttachDisk, DetachDisk}
use Rattle.bosh_base.specs.declared.entry.Effect as effect
use Rattle.bosh_base.specs.declared.entry.Entry.{Entry}
use Rattle.bosh_base.specs.declared.entry.Entry.TheVariants.{Effect}
use Rattle.bosh_base.specs.declared.machine.Machine.{Machine}
use Rattle.bosh_inventory.proofs.AgentLemmas.{and_left, and_right, IsMachine-found}
use Rattle.bosh_inventory.proofs.DiskRemovalLemmas.{AreTables-disk_deleted}
use Rattle.bosh_inventory.proofs.LookupLemmas.{at-vms, vms_made, disks_made}
use Rattle.bosh_inventory.proofs.AttachLemmas.{AreTables-attach, AreTables-detach, IsMovable-shown}
use Rattle.bosh_inventory.proofs.DeletionLemmas.{AreTables-deleted}
use Rattle.bosh_inventory.proofs.SlotLemmas.{length-slots}
use Rattle.bosh_registers.specs.Changes.{IsFitting, IsThere, holding, tables_after}
use Rattle.bosh_inventory.specs.Changes.{LeadsBy}
use Rattle.bosh_inventory.specs.Orderly.{last_holder}
use Rattle.bosh_inventory.specs.Rows.{AreTables}
use Rattle.bosh_registers.specs.declared.change.Change.{Change}
use Rattle.bosh_registers.specs.declared.change.Change.TheVariants.{NoVm, NoDisk, Moved}
use Rattle.bosh_registers.specs.declared.tables.Tables.{Tables}

-- what a change has to show
abbrev pub Pair : List Entry → Entry → Change → Type 0
Pair before entry change = (t : Tables) → AreTables before t.vms t.disks t.holders →
    IsFitting change t × AreTables (before ++ entry ∷ []) (tables_after t change).vms (tables_after t change).disks
    (tables_after t change).holders

abbrev pub PairBy : List Entry → Call → Change → Type 0
PairBy before call change = (e : effect.Effect) → e.call ≡ call → Pair before (Effect e) change

-- ---- what is there was made

pub made_vm : (xs : List Entry) (t : Tables) → AreTables xs t.vms t.disks t.holders → (vm : ℕ) → is_vm_there xs vm ≡ true →
    IsMade t.vms vm
made_vm xs t tables vm there =
    let numbered : (1 ≤ vm) × (vm ≤ vms_created xs) = (tables.are_orderly.vms vm).numbered there in
    (numbered.0, subst (λ (n : ℕ). vm ≤ n) (sym (vms_made xs t.vms t.disks t.holders tables)) numbered.1)

pub made_disk : (xs : List Entry) (t : Tables) → AreTables xs t.vms t.disks t.holders → (d : ℕ) →
    is_disk_there xs d ≡ true → IsMade t.disks d
made_disk xs t tables d there =
    let numbered : (1 ≤ d) × (d ≤ disks_created xs) = (tables.are_orderly.disks d).numbered there in
    (numbered.0, subst (λ (n : ℕ). d ≤ n) (sym (disks_made xs t.vms t.disks t.holders tables)) numbered.1)

made_holder : (xs : List Entry) (t : Tables) → AreTables xs t.vms t.disks t.holders → (d : ℕ) →
    is_disk_there xs d ≡ true → IsMade t.holders d
made_holder xs t tables d there =
    let numbered : (1 ≤ d) × (d ≤ disks_created xs) = (tables.are_orderly.disks d).numbered there in
    let count : length t.holders ≡ disks_created xs =
    ap length tables.all_holders ∙ length-slots (last_holder xs) (disks_created xs) in
    (numbered.0, subst (λ (n : ℕ). d ≤ n) (sym count) numbered.1)

pub there_vm : (xs : List Entry) (t : Tables) → AreTables xs t.vms t.disks t.holders → (vm : ℕ) (m : Machine) →
    machine_of xs vm ≡ Some m → IsThere t.vms vm
there_vm xs t tables vm m found = (
  made_vm xs t tables vm (IsMachine-found xs vm m found).there,
  ap is_some
      (at-vms xs t.vms t.disks t.holders tables vm ∙ found),
)

-- ---- the calls of the cloud

pair-deleted : (xs : List Entry) (vm : ℕ) → is_vm_there xs vm ≡ true → PairBy xs (DeleteVm vm) (NoVm vm)
pair-deleted xs vm there e is t tables =
    (made_vm xs t tables vm there, AreTables-deleted xs e vm t.vms t.disks t.holders is there tables)

pub Leads-deleted : (xs : List Entry) (vm : ℕ) → is_vm_there xs vm ≡ true → LeadsBy xs (DeleteVm vm) (NoVm vm)
Leads-deleted xs vm there e is =
    record {
      fits = λ t tables. (pair-deleted xs vm there e is t tables).0;
      keeps = λ t tables.
          (pair-deleted xs vm there e is t tables).1;
    }

none_is : {A : Type 0} (o : Option A) → not (is_some o) ≡ true → o ≡ None
none_is None is = refl
none_is (Some a) is = absurd cc

pair-disk_deleted : (xs : List Entry) (d : ℕ) → (is_disk_there xs d && not (is_some (holder_of xs d))) ≡ true →
    PairBy xs (DeleteDisk d) (NoDisk d)
pair-disk_deleted xs d may e is t tables =
    let there : is_disk_there xs d ≡ true = and_left (is_disk_there xs d) (not (is_some (holder_of xs d))) may in
    let free : holder_of xs d ≡ None =
    none_is (holder_of xs d) (and_right (is_disk_there xs d) (not (is_some (holder_of xs d))) may) in
    (made_disk xs t tables d there, AreTables-disk_deleted xs e d t.vms t.disks t.holders is there free tables)

pub Leads-disk_deleted : (xs : List Entry) (d : ℕ) → (is_disk_there xs d && not (is_some (holder_of xs d))) ≡ true →
    LeadsBy xs (DeleteDisk d) (NoDisk d)
Leads-disk_deleted xs d may e is =
    record {
      fits = λ t tables. (pair-disk_deleted xs d may e is t tables).0;
      keeps = λ t tables.
          (pair-disk_deleted xs d may e is t tables).1;
    }

pair-attach : (xs : List Entry) (vm d : ℕ) (m : Machine) → machine_of xs vm ≡ Some m → is_movable xs vm d ≡ true →
    PairBy xs (AttachDisk vm d) (Moved vm d (Some vm) (with_number d m.attached))
pair-attach xs vm d m found may e is t tables =
    let P : Option Machine → Type 0 =
    λ o. AreTables (xs ++ Effect e ∷ []) (with_slot t.vms vm (option_map (holding (with_number d m.attached)) o))
    t.disks (with_slot t.holders d (Some vm)) in (
      (there_vm xs t tables vm m found, made_holder xs t tables d (IsMovable-shown xs vm d may).there),
      subst P (sym (at-vms xs t.vms t.disks t.holders tables vm ∙ found))
          (AreTables-attach xs e vm d m t.vms t.disks t.holders is found may tables),
    )

pub Leads-attach : (xs : List Entry) (vm d : ℕ) (m : Machine) → machine_of xs vm ≡ Some m → is_movable xs vm d ≡ true →
    LeadsBy xs (AttachDisk vm d) (Moved vm d (Some vm) (with_number d m.attached))
Leads-attach xs vm d m found may e is =
    record {
      fits = λ t tables. (pair-attach xs vm d m found may e is t tables).0;
      keeps = λ t tables.
          (pair-attach xs vm d m found may e is t tables).1;
    }

pair-detach : (xs : List Entry) (vm d : ℕ) (m : Machine) → machine_of xs vm ≡ Some m → is_movable xs vm d ≡ true →
    PairBy xs (DetachDisk vm d) (Moved vm d None (without_number d m.attached))
pair-detach xs vm d m found may e is t tables =
    let P : Option Machine → Type 0 =
    λ o. AreTables (xs ++ Effect e ∷ []) (with_slot t.vms vm (option_map (holding (without_number d m.attached)) o))
    t.disks (with_slot t.holders d None) in (
      (there_vm xs t tables vm m found, made_holder xs t tables d (IsMovable-shown xs vm d may).there),
      subst P (sym (at-vms xs t.vms t.disks t.holders tables vm ∙ found))
          (AreTables-detach xs e vm d m t.vms t.disks t.holders is found may tables),
    )

pub Leads-detach : (xs : List Entry) (vm d : ℕ) (m : Machine) → machine_of xs vm ≡ Some m → is_movable xs vm d ≡ true →
    LeadsBy xs (DetachDisk vm d) (Moved vm d None (without_number d m.attached))
Leads-detach xs vm d m found may e is =
    record {
      fits = λ t tables. (pair-detach xs vm d m found may e is t tables).0;
      keeps = λ t tables.
          (pair-detach xs vm d m found may e is t tables).1;
    }

-- a call that is done is not gone
pub done_there : (b : Bool) → not (is_gone (unless_gone b answers.Done)) ≡ true → b ≡ true
done_there true is = refl
done_there false is = absurd cc
