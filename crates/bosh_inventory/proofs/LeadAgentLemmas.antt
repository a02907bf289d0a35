-- The change of a call to an agent leads from the tables before it to those after it.
use Rattle.std.proofs.Common.{◌≡◌, ℕ, Bool, true, false, Option, Some, List, [], ◌∷◌, ◌++◌, refl, sym, ◌∙◌, ap, subst, inl, inr}
use Rattle.std.specs.Prelude.{◌&&◌, ◌||◌, not, is_some}
use Rattle.std.specs.Option.{option_map}
use Rattle.std.proofs.lemmas.Bool.{or_cases}
use Rattle.bosh_agent.specs.Agent.{answer_by_call, can_act, disks_by_call, has_disks, machine_by_call, vm_of}
use Rattle.bosh_agent.specs.Change.{IsIn, machine_changed, disks_changed}
use Rattle.bosh_agent.specs.Compiled.{compiled_digest}
use Rattle.bosh_agent.specs.Numbers.{has}
use Rattle.bosh_agent.specs.Slots.{at, with_slot}
use Rattle.bosh_agent.specs.declared.change.Change as agent_change
use Rattle.bosh_base.specs.Call.{method_of}
use Rattle.bosh_base.specs.CallStep.{answer_of, is_gone, takes_effect, unless_gone}
use Rattle.bosh_base.specs.Cloud.{is_vm_there, machine_of, attached_to, is_disk_mounted}
use Rattle.bosh_base.specs.Method.{is_agents, is_changing}
use Rattle.bosh_base.specs.declared.call.Call.{Call}
use Rattle.bosh_base.specs.declared.call.Call.TheVariants.{Ping, GetState, Apply, Start, Drain, Stop, MountDisk, UnmountDisk, ListDisk, MigrateDisk, CompilePackage}
use Rattle.bosh_base.specs.declared.entry.Entry.{Entry}
use Rattle.bosh_base.specs.declared.entry.Entry.TheVariants.{Effect}
use Rattle.bosh_base.specs.declared.machine.Disk.{Disk}
use Rattle.bosh_base.specs.declared.machine.Machine.{Machine}
use Rattle.bosh_inventory.proofs.ActTableLemmas.{AreTables-agent}
use Rattle.bosh_inventory.proofs.AgentLemmas.{and_right, IsMachine, IsMachine-found, IsHeld, IsHeld-has}
use Rattle.bosh_inventory.proofs.AnswerLemmas.{agent_answer-is, gone-is}
use Rattle.bosh_inventory.proofs.LookupLemmas.{at-vms, at-disks}
use Rattle.bosh_inventory.proofs.NumberLemmas.{has-filter}
use Rattle.bosh_inventory.specs.Changes.{IsActing, LeadsBy}
use Rattle.bosh_inventory.specs.Orderly.{IsOrderlyCloud}
use Rattle.bosh_inventory.specs.Rows.{AreTables}
use Rattle.bosh_registers.specs.declared.change.Change.TheVariants.{Acted}
use Rattle.bosh_registers.specs.declared.tables.Tables.{Tables}
use Rattle.bosh_inventory.proofs.LeadLemmas.{PairBy, there_vm}

pair-acted : (xs : List Entry) (before : Tables) → AreTables xs before.vms before.disks before.holders →
    (call : Call) (acting : IsActing xs call) (change : agent_change.Change) →
    machine_changed acting.machine change ≡ machine_by_call acting.machine call → disks_changed before.disks change ≡ disks_by_call
    before.disks call → IsIn change before.disks → PairBy xs call (Acted acting.vm change)
pair-acted xs before seen call acting change machine disks fits e is t tables =
    let same : before.disks ≡ t.disks = seen.all_disks ∙ sym tables.all_disks in
    let found : at t.vms acting.vm ≡ Some acting.machine =
    at-vms xs t.vms t.disks t.holders tables acting.vm ∙ acting.found in
    let agents : is_agents (method_of e.call) ≡ true = ap (λ c. is_agents (method_of c)) is ∙ acting.agents in
    let names : vm_of e.call ≡ Some acting.vm = ap vm_of is ∙ acting.names in
    let has_them : has_disks acting.machine e.call ≡ true =
    ap (has_disks acting.machine) is
    ∙ and_right (not acting.machine.silent) (has_disks acting.machine call) acting.can in
    let after : AreTables (xs ++ Effect e ∷ []) (with_slot t.vms acting.vm (Some (machine_by_call acting.machine e.call)))
    (disks_by_call t.disks e.call) t.holders =
    AreTables-agent xs e acting.vm acting.machine t.vms t.disks t.holders acting.found agents names has_them tables in
    let new_vms : with_slot t.vms acting.vm (Some (machine_by_call acting.machine e.call)) ≡ with_slot t.vms acting.vm
    (option_map (λ m. machine_changed m change) (at t.vms acting.vm)) =
    ap (λ m. with_slot t.vms acting.vm (Some m)) (ap (machine_by_call acting.machine) is ∙ sym machine)
    ∙ ap (λ o. with_slot t.vms acting.vm (option_map (λ m. machine_changed m change) o)) (sym found) in
    let new_disks : disks_by_call t.disks e.call ≡ disks_changed t.disks change =
    ap (disks_by_call t.disks) is ∙ ap (λ v. disks_by_call v call) (sym same) ∙ sym disks
    ∙ ap (λ v. disks_changed v change) same in
    let P : List (Option Machine) → Type 0 =
    λ vms. AreTables (xs ++ Effect e ∷ []) vms (disks_by_call t.disks e.call) t.holders in
    let Q : List (Option Disk) → Type 0 =
    λ volumes. AreTables (xs ++ Effect e ∷ [])
    (with_slot t.vms acting.vm (option_map (λ m. machine_changed m change) (at t.vms acting.vm))) volumes
    t.holders in
    let R : List (Option Disk) → Type 0 = λ volumes. IsIn change volumes in (
      (there_vm xs t tables acting.vm acting.machine acting.found, subst R same fits),
      subst Q new_disks
          (subst P new_vms after),
    )

pub Leads-acted : (xs : List Entry) (before : Tables) → AreTables xs before.vms before.disks before.holders →
    (call : Call) (acting : IsActing xs call) (change : agent_change.Change) →
    machine_changed acting.machine change ≡ machine_by_call acting.machine call → disks_changed before.disks change ≡ disks_by_call
    before.disks call → IsIn change before.disks → LeadsBy xs call (Acted acting.vm change)
Leads-acted xs before seen call acting change machine disks fits e is =
    record {
      fits = λ t tables. (pair-acted xs before seen call acting change machine disks fits e is t tables).0;
      keeps = λ t tables. (pair-acted xs before seen call acting change machine disks fits e is t tables).1;
    }

-- the disks that a machine lists are there
listed : (xs : List Entry) (t : Tables) → AreTables xs t.vms t.disks t.holders → (vm : ℕ) (m : Machine) →
    machine_of xs vm ≡ Some m → (d : ℕ) → (has d m.attached || has d m.mounted) ≡ true → is_some (at t.disks d) ≡ true
listed xs t tables vm m found d lists =
    let machine : IsMachine xs vm m = IsMachine-found xs vm m found in
    let attached : has d (attached_to xs vm) ≡ true = elim (or_cases (has d m.attached) (has d m.mounted) lists) [
      | inl is ↦ ap (λ it. has d it.attached) machine.made ∙ is
      | inr is ↦ and_right (is_disk_mounted xs d) (has d (attached_to xs vm))
          (sym (has-filter (is_disk_mounted xs) d (attached_to xs vm)) ∙ ap (λ it. has d it.mounted) machine.made ∙ is)
    ] in
    let held : IsHeld xs vm d = IsHeld-has xs tables.are_orderly vm d attached in
    ap is_some (at-disks xs t.vms t.disks t.holders tables d ∙ held.is)

pub HasDisks-seen : (xs : List Entry) (t : Tables) → AreTables xs t.vms t.disks t.holders → (vm : ℕ) (m : Machine) →
    machine_of xs vm ≡ Some m → (d : ℕ) → (has d m.attached || has d m.mounted) ≡ true → is_some (at t.disks d) ≡ true
HasDisks-seen = listed

-- a call to an agent that has its effect
pub agents-named : (call : Call) (vm : ℕ) → vm_of call ≡ Some vm → is_agents (method_of call) ≡ true
agents-named (Ping v) vm names = refl
agents-named (GetState v) vm names = refl
agents-named (Apply v spec) vm names = refl
agents-named (Start v) vm names = refl
agents-named (Drain v) vm names = refl
agents-named (Stop v) vm names = refl
agents-named (MountDisk v d) vm names = refl
agents-named (UnmountDisk v d) vm names = refl
agents-named (ListDisk v) vm names = refl
agents-named (MigrateDisk v from to) vm names = refl
agents-named (CompilePackage v work deps) vm names = refl
agents-named call vm names = absurd cc

not_gone : (a b : Bool) → (a && not b) ≡ true → b ≡ false
not_gone true true is = absurd cc
not_gone true false is = refl
not_gone false b is = absurd cc

pub can-acted : (xs : List Entry) → IsOrderlyCloud xs → (call : Call) (vm : ℕ) (m : Machine) → machine_of xs vm ≡ Some m →
    vm_of call ≡ Some vm → takes_effect compiled_digest xs call ≡ true → can_act m call ≡ true
can-acted xs orderly call vm m found names effect =
    each (can_act m call) refl (ap is_gone (agent_answer-is compiled_digest xs orderly vm m found call names) ∙ not_gone
    (is_changing (method_of call)) (is_gone (answer_of compiled_digest xs call)) effect)
  where
    each : (b : Bool) → can_act m call ≡ b → is_gone (unless_gone (can_act m call) (answer_by_call compiled_digest m call)) ≡ false →
        can_act m call ≡ true
    each true is gone = is
    each false is gone =
        let other : is_gone (unless_gone (can_act m call) (answer_by_call compiled_digest m call)) ≡ true =
        ap (λ b. is_gone (unless_gone b (answer_by_call compiled_digest m call))) is in
        absurd cc

pub there-acted : (xs : List Entry) (call : Call) (vm : ℕ) → vm_of call ≡ Some vm →
    takes_effect compiled_digest xs call ≡ true → is_vm_there xs vm ≡ true
there-acted xs call vm names effect = each (is_vm_there xs vm) refl
  where
    each : (b : Bool) → is_vm_there xs vm ≡ b → is_vm_there xs vm ≡ true
    each true is = is
    each false is =
        let gone : is_gone (answer_of compiled_digest xs call) ≡ true = ap is_gone (gone-is compiled_digest xs vm is call names) in
        let not : is_gone (answer_of compiled_digest xs call) ≡ false =
        not_gone (is_changing (method_of call)) (is_gone (answer_of compiled_digest xs call)) effect in
        absurd cc
