-- What the tables say of answers.
use Rattle.std.proofs.Common.{◌≡◌, ℕ, Bool, true, false, Some, List, refl, sym, ◌∙◌, ap, subst, inl, inr}
use Rattle.std.specs.Prelude.{◌&&◌, not}
use Rattle.bosh_agent.specs.Agent.{agent_answer, vm_of}
use Rattle.bosh_agent.specs.Numbers.{has}
use Rattle.bosh_base.specs.CallStep.{answer_of, unless_gone, is_attached, is_mounted_on, has_agent}
use Rattle.bosh_base.specs.Cloud.{is_vm_there, is_silent, machine_made, machine_of, disks_created, is_disk_there, is_holder, is_disk_mounted, attached_to, mounted_on, numbers_to}
use Rattle.bosh_base.specs.declared.answer.Answer.{Answer}
use Rattle.bosh_base.specs.declared.answer.Answer.TheVariants as answers
use Rattle.bosh_base.specs.declared.call.Call.{Call}
use Rattle.bosh_base.specs.declared.call.Call.TheVariants.{Ping, GetState, Apply, Start, Drain, Stop, MountDisk, UnmountDisk, ListDisk, MigrateDisk, CompilePackage}
use Rattle.bosh_base.specs.declared.digest.Digest.{Digest}
use Rattle.bosh_base.specs.declared.entry.Effect as effect
use Rattle.bosh_base.specs.declared.entry.Entry.{Entry}
use Rattle.bosh_base.specs.declared.key.KeyWork.{KeyWork}
use Rattle.bosh_base.specs.declared.machine.Machine.{Machine}
use Rattle.bosh_base.specs.declared.make.Make.{Make}
use Rattle.std.proofs.lemmas.Bool.{cases_Bool}
use Rattle.bosh_inventory.proofs.ActLemmas.{some_same}
use Rattle.bosh_inventory.proofs.AgentLemmas.{IsMachine, IsMachine-found, IsHeld, IsHeld-holder, has-attached_to}
use Rattle.bosh_inventory.proofs.NumberLemmas.{has-filter, and_comm}
use Rattle.bosh_inventory.specs.Orderly.{IsOrderlyCloud}

-- ---- an agent's calls

and_no : (a b : Bool) → b ≡ false → (a && b) ≡ false
and_no true b is = is
and_no false b is = refl

attached-is : (xs : List Entry) → IsOrderlyCloud xs → (v d : ℕ) → has d (attached_to xs v) ≡ is_attached xs v d
attached-is xs orderly v d = elim (cases_Bool (is_holder xs v d)) [
  | inl has_it ↦
      let held : IsHeld xs v d = IsHeld-holder xs orderly v d has_it in
      has-attached_to xs v d held ∙ sym (λ i. held.there i && held.holder i)
  | inr none ↦
      has-filter (is_holder xs v) d (numbers_to (disks_created xs))
      ∙ ap (λ it. it && has d (numbers_to (disks_created xs))) none
      ∙ sym (and_no (is_disk_there xs d) (is_holder xs v d) none)
]

mounted-on_is : (xs : List Entry) → IsOrderlyCloud xs → (v d : ℕ) → has d (mounted_on xs v) ≡ is_mounted_on xs v d
mounted-on_is xs orderly v d =
    has-filter (is_disk_mounted xs) d (attached_to xs v)
    ∙ ap (λ it. is_disk_mounted xs d && it) (attached-is xs orderly v d)
    ∙ and_comm (is_disk_mounted xs d) (is_attached xs v d)

silent_is : (there silent : Bool) → there ≡ true → not silent ≡ (there && not silent)
silent_is there silent is = ap (λ it. it && not silent) (sym is)

and_yes : (a : Bool) → (a && true) ≡ a
and_yes true = refl
and_yes false = refl

-- over a machine that is there, the agent answers as the cloud does
made_answer : (built : KeyWork → List Digest → Digest) (xs : List Entry) → IsOrderlyCloud xs → (vm : ℕ) →
    is_vm_there xs vm ≡ true → (e : effect.Effect) (make : Make) → (call : Call) → vm_of call ≡ Some vm →
    agent_answer built (machine_made xs vm e make) call ≡ answer_of built xs call
made_answer built xs orderly vm there e make = each
  where
    up : not (is_silent xs vm) ≡ has_agent xs vm
    up = silent_is (is_vm_there xs vm) (is_silent xs vm) there

    at_vm : (call : ℕ → Call) →
        agent_answer built (machine_made xs vm e make) (call vm) ≡ answer_of built xs (call vm) → (v : ℕ) →
        Some v ≡ Some vm → agent_answer built (machine_made xs vm e make) (call v) ≡ answer_of built xs (call v)
    at_vm call is v names =
        let P : ℕ → Type 0 = λ u. agent_answer built (machine_made xs vm e make) (call u) ≡ answer_of built xs (call u)
        in subst P (sym (some_same v vm names)) is

    plain : (answer : Answer) →
        unless_gone (not (is_silent xs vm) && true) answer ≡ unless_gone (has_agent xs vm) answer
    plain answer = ap (λ it. unless_gone it answer) (and_yes (not (is_silent xs vm)) ∙ up)

    each : (call : Call) → vm_of call ≡ Some vm →
        agent_answer built (machine_made xs vm e make) call ≡ answer_of built xs call
    each (Ping v) names = at_vm (λ u. Ping u) (plain answers.Done) v names
    each (GetState v) names = at_vm (λ u. GetState u) (plain _) v names
    each (Apply v spec) names = at_vm (λ u. Apply u spec) (plain answers.Done) v names
    each (Start v) names = at_vm (λ u. Start u) (plain answers.Done) v names
    each (Drain v) names = at_vm (λ u. Drain u) (plain answers.Done) v names
    each (Stop v) names = at_vm (λ u. Stop u) (plain answers.Done) v names
    each (MountDisk v d) names =
        at_vm (λ u. MountDisk u d) (λ i. unless_gone (up i && attached-is xs orderly vm d i) answers.Done) v names
    each (UnmountDisk v d) names =
        at_vm (λ u. UnmountDisk u d) (λ i. unless_gone (up i && attached-is xs orderly vm d i) answers.Done) v names
    each (ListDisk v) names = at_vm (λ u. ListDisk u) (plain _) v names
    each (MigrateDisk v from to) names =
        at_vm (λ u. MigrateDisk u from to) (λ i. unless_gone
        (up i && (mounted-on_is xs orderly vm from i && mounted-on_is xs orderly vm to i)) answers.Done) v names
    each (CompilePackage v work deps) names = at_vm (λ u. CompilePackage u work deps) (plain _) v names
    each call names = absurd cc

pub agent_answer-is : (built : KeyWork → List Digest → Digest) (xs : List Entry) → IsOrderlyCloud xs →
    (vm : ℕ) (m : Machine) → machine_of xs vm ≡ Some m → (call : Call) → vm_of call ≡ Some vm →
    agent_answer built m call ≡ answer_of built xs call
agent_answer-is built xs orderly vm m found call names =
    let machine : IsMachine xs vm m = IsMachine-found xs vm m found in
    ap (λ it. agent_answer built it call) (sym machine.made)
    ∙ made_answer built xs orderly vm machine.there machine.creation machine.make call names

-- where the machine is not there, something is gone
pub gone-is : (built : KeyWork → List Digest → Digest) (xs : List Entry) (vm : ℕ) → is_vm_there xs vm ≡ false →
    (call : Call) → vm_of call ≡ Some vm → answer_of built xs call ≡ answers.Gone
gone-is built xs vm none = each
  where
    at_vm : (call : ℕ → Call) → answer_of built xs (call vm) ≡ answers.Gone → (v : ℕ) → Some v ≡ Some vm →
        answer_of built xs (call v) ≡ answers.Gone
    at_vm call is v names =
        let P : ℕ → Type 0 = λ u. answer_of built xs (call u) ≡ answers.Gone in subst P (sym (some_same v vm names)) is

    each : (call : Call) → vm_of call ≡ Some vm → answer_of built xs call ≡ answers.Gone
    each (Ping v) names = at_vm (λ u. Ping u) (rw none refl) v names
    each (GetState v) names = at_vm (λ u. GetState u) (rw none refl) v names
    each (Apply v spec) names = at_vm (λ u. Apply u spec) (rw none refl) v names
    each (Start v) names = at_vm (λ u. Start u) (rw none refl) v names
    each (Drain v) names = at_vm (λ u. Drain u) (rw none refl) v names
    each (Stop v) names = at_vm (λ u. Stop u) (rw none refl) v names
    each (MountDisk v d) names = at_vm (λ u. MountDisk u d) (rw none refl) v names
    each (UnmountDisk v d) names = at_vm (λ u. UnmountDisk u d) (rw none refl) v names
    each (ListDisk v) names = at_vm (λ u. ListDisk u) (rw none refl) v names
    each (MigrateDisk v from to) names = at_vm (λ u. MigrateDisk u from to) (rw none refl) v names
    each (CompilePackage v work deps) names = at_vm (λ u. CompilePackage u work deps) (rw none refl) v names
    each call names = absurd cc
