-- What each call to an agent makes of its machine.
use Rattle.std.proofs.Common.{◌≡◌, ℕ, Bool, true, false, Option, Some, None, List, refl, sym, ◌∙◌, ap}
use Rattle.std.specs.Prelude.{◌==◌, filter}
use Rattle.std.proofs.lemmas.Bool.{ne_eqb, eq-eqb}
use Rattle.bosh_agent.specs.Agent.{vm_of, has_disks, machine_by_call}
use Rattle.bosh_agent.specs.Numbers.{has, with_number, without_number}
use Rattle.bosh_base.specs.Call.{method_of}
use Rattle.bosh_base.specs.Cloud.{when, by_call, silence, is_silent, applied, spec_of, started, is_running, drained, is_drained, attached, mounts, is_disk_mounted, attached_to, mounted_on, machine_made}
use Rattle.bosh_base.specs.History.{chosen}
use Rattle.bosh_base.specs.declared.call.Call.{Call}
use Rattle.bosh_base.specs.declared.call.Call.TheVariants.{Apply, Start, Drain, Stop, MountDisk, UnmountDisk, AttachDisk}
use Rattle.bosh_base.specs.declared.entry.Effect as effect
use Rattle.bosh_base.specs.declared.entry.Entry.{Entry}
use Rattle.bosh_base.specs.declared.entry.Entry.TheVariants.{Effect}
use Rattle.bosh_base.specs.declared.machine.Machine.{Machine}
use Rattle.bosh_base.specs.declared.make.Make.{Make}
use Rattle.bosh_base.proofs.HistoryLemmas.{latest_last}
use Rattle.bosh_inventory.proofs.NumberLemmas.{filter-with_number, filter-without_number}
use Rattle.bosh_inventory.proofs.PresenceLemmas.{grown, mounted_on-kept, is_disk_mounted-grown}
use Rattle.bosh_inventory.specs.Orderly.{IsOrderlyCloud}
use Rattle.bosh_base.specs.Method.{is_agents}
use Rattle.bosh_base.specs.declared.owner.Owner.{Owner}
use Rattle.bosh_base.specs.declared.spec.Spec.{Spec}
use Rattle.bosh_inventory.proofs.AgentLemmas.{IsMachine, IsHeld, IsHeld-has, attached_to-acted, PartsAt-attached_to}
use Rattle.bosh_inventory.proofs.AgentCallLemmas.{IsAgents, KeepsVms-agents, KeepsDisks-agents, attached-agents}

-- machine v of this creation, with these parts
abbrev pub with_parts : ℕ → effect.Effect → Make → Option Spec → Bool → Bool → List ℕ → List ℕ → Bool → Machine
with_parts v e make spec running drained attached mounted silent = record {
  vm = v;
  agent = e.n;
  owner = e.owner;
  dep = e.dep;
  make = make;
  spec = spec;
  running = running;
  drained = drained;
  attached = attached;
  mounted = mounted;
  silent = silent;
}

-- the disks on machine vm after one more is mounted there, or one is not mounted any more
mounted_on-mount : (xs : List Entry) (e : effect.Effect) (vm d : ℕ) → e.call ≡ MountDisk vm d → IsAgents e →
    IsHeld xs vm d → mounted_on (grown xs (Effect e)) vm ≡ with_number d (mounted_on xs vm)
mounted_on-mount xs e vm d call is held =
    let after : (x : ℕ) → is_disk_mounted (grown xs (Effect e)) x ≡ chosen (mounts x (MountDisk vm d))
    (is_disk_mounted xs x) =
    λ x. is_disk_mounted-grown xs (Effect e) x ∙ ap (λ c. chosen (mounts x c) (is_disk_mounted xs x)) call in
    ap (filter (is_disk_mounted (grown xs (Effect e))))
    (attached_to-acted xs (Effect e) (KeepsVms-agents xs e is) (KeepsDisks-agents xs e is)
    (λ x. attached-agents x e.call is) vm)
    ∙ filter-with_number (is_disk_mounted xs) (is_disk_mounted (grown xs (Effect e))) d (attached_to xs vm)
    (PartsAt-attached_to xs vm d held)
    (after d ∙ ap (λ it. chosen (when it true) (is_disk_mounted xs d)) (eq-eqb d d refl))
    (λ x apart. after x ∙ ap (λ it. chosen (when it true) (is_disk_mounted xs x))
    (ne_eqb d x (λ same. apart (sym same))))

mounted_on-unmount : (xs : List Entry) (e : effect.Effect) (vm d : ℕ) → e.call ≡ UnmountDisk vm d → IsAgents e →
    mounted_on (grown xs (Effect e)) vm ≡ without_number d (mounted_on xs vm)
mounted_on-unmount xs e vm d call is =
    let after : (x : ℕ) → is_disk_mounted (grown xs (Effect e)) x ≡ chosen (mounts x (UnmountDisk vm d))
    (is_disk_mounted xs x) =
    λ x. is_disk_mounted-grown xs (Effect e) x ∙ ap (λ c. chosen (mounts x c) (is_disk_mounted xs x)) call in
    ap (filter (is_disk_mounted (grown xs (Effect e))))
    (attached_to-acted xs (Effect e) (KeepsVms-agents xs e is) (KeepsDisks-agents xs e is)
    (λ x. attached-agents x e.call is) vm)
    ∙ filter-without_number (is_disk_mounted xs) (is_disk_mounted (grown xs (Effect e))) d (attached_to xs vm)
    (after d ∙ ap (λ it. chosen (when it false) (is_disk_mounted xs d)) (eq-eqb d d refl))
    (λ x apart. after x ∙ ap (λ it. chosen (when it false) (is_disk_mounted xs x))
    (ne_eqb d x (λ same. apart (sym same))))

-- the disks of machine vm stay, and where no disk is mounted or unmounted the mounted ones do
disks_then : (xs : List Entry) (e : effect.Effect) → IsAgents e → (v : ℕ) →
    attached_to (grown xs (Effect e)) v ≡ attached_to xs v
disks_then xs e is v =
    attached_to-acted xs (Effect e) (KeepsVms-agents xs e is) (KeepsDisks-agents xs e is)
    (λ x. attached-agents x e.call is) v

mounts_then : (xs : List Entry) (e : effect.Effect) → IsAgents e → ((d : ℕ) → mounts d e.call ≡ None) → (v : ℕ) →
    mounted_on (grown xs (Effect e)) v ≡ mounted_on xs v
mounts_then xs e is none v =
    mounted_on-kept xs (grown xs (Effect e)) v (disks_then xs e is v)
    (λ d. is_disk_mounted-grown xs (Effect e) d ∙ ap (λ a. chosen a (is_disk_mounted xs d)) (none d))

-- whose disk a call mounts or unmounts
pub has_its_disk : (xs : List Entry) → IsOrderlyCloud xs → (vm : ℕ) (m : Machine) → IsMachine xs vm m → (d : ℕ) →
    has d m.attached ≡ true → IsHeld xs vm d
has_its_disk xs orderly vm m machine d is = IsHeld-has xs orderly vm d (ap (λ it. has d it.attached) machine.made ∙ is)

-- each part is as the call sets it, and else as it was
pub spec_then : (xs : List Entry) (x : Entry) (v : ℕ) →
    spec_of (grown xs x) v ≡ chosen (by_call (applied v) x) (spec_of xs v)
spec_then xs x v = latest_last (by_call (applied v)) None xs x

pub running_then : (xs : List Entry) (x : Entry) (v : ℕ) →
    is_running (grown xs x) v ≡ chosen (by_call (started v) x) (is_running xs v)
running_then xs x v = latest_last (by_call (started v)) false xs x

pub drained_then : (xs : List Entry) (x : Entry) (v : ℕ) →
    is_drained (grown xs x) v ≡ chosen (by_call (drained v) x) (is_drained xs v)
drained_then xs x v = latest_last (by_call (drained v)) false xs x

pub silent_then : (xs : List Entry) (x : Entry) (v : ℕ) →
    is_silent (grown xs x) v ≡ chosen (silence v x) (is_silent xs v)
silent_then xs x v = latest_last (silence v) false xs x

-- a test that holds
pub sure : {A : Type 0} (a b : ℕ) → a ≡ b → (new old : A) → chosen (when (a == b) new) old ≡ new
sure a b same new old = ap (λ it. chosen (when it new) old) (eq-eqb a b same)

pub some_same : (a b : ℕ) → Some a ≡ Some b → a ≡ b
some_same a b is = cc

-- the effect of a call
abbrev pub of_call : ℕ → Owner → List ℕ → Call → effect.Effect
of_call n owner dep call = record { n = n; owner = owner; dep = dep; call = call }

-- machine vm after a call to its agent, where its disks are known
pub machine_made-acted : (xs : List Entry) → IsOrderlyCloud xs →
    (n : ℕ) (owner : Owner) (dep : List ℕ) (vm : ℕ) (m : Machine) → IsMachine xs vm m →
    (call : Call) → is_agents (method_of call) ≡ true → vm_of call ≡ Some vm → has_disks m call ≡ true →
    (e : effect.Effect) (make : Make) → machine_made (grown xs (Effect (of_call n owner dep call))) vm e make ≡ machine_by_call
    (machine_made xs vm e make) call
machine_made-acted xs orderly n owner dep vm m machine (Apply v spec) is names has_them e make =
    let x : effect.Effect = of_call n owner dep (Apply v spec) in
    let the_spec : spec_of (grown xs (Effect x)) vm ≡ Some spec =
    spec_then xs (Effect x) vm ∙ sure v vm (some_same v vm names) (Some spec) (spec_of xs vm) in
    λ i. with_parts vm e make (the_spec i) (running_then xs (Effect x) vm i) (drained_then xs (Effect x) vm i)
    (disks_then xs x is vm i) (mounts_then xs x is (λ d. refl) vm i) (silent_then xs (Effect x) vm i)
machine_made-acted xs orderly n owner dep vm m machine (Start v) is names has_them e make =
    let x : effect.Effect = of_call n owner dep (Start v) in
    let runs : is_running (grown xs (Effect x)) vm ≡ true =
    running_then xs (Effect x) vm ∙ sure v vm (some_same v vm names) true (is_running xs vm) in
    let drains : is_drained (grown xs (Effect x)) vm ≡ false =
    drained_then xs (Effect x) vm ∙ sure v vm (some_same v vm names) false (is_drained xs vm) in
    λ i. with_parts vm e make (spec_then xs (Effect x) vm i) (runs i) (drains i) (disks_then xs x is vm i)
    (mounts_then xs x is (λ d. refl) vm i) (silent_then xs (Effect x) vm i)
machine_made-acted xs orderly n owner dep vm m machine (Drain v) is names has_them e make =
    let x : effect.Effect = of_call n owner dep (Drain v) in
    let drains : is_drained (grown xs (Effect x)) vm ≡ true =
    drained_then xs (Effect x) vm ∙ sure v vm (some_same v vm names) true (is_drained xs vm) in
    λ i. with_parts vm e make (spec_then xs (Effect x) vm i) (running_then xs (Effect x) vm i) (drains i)
    (disks_then xs x is vm i) (mounts_then xs x is (λ d. refl) vm i) (silent_then xs (Effect x) vm i)
machine_made-acted xs orderly n owner dep vm m machine (Stop v) is names has_them e make =
    let x : effect.Effect = of_call n owner dep (Stop v) in
    let runs : is_running (grown xs (Effect x)) vm ≡ false =
    running_then xs (Effect x) vm ∙ sure v vm (some_same v vm names) false (is_running xs vm) in
    λ i. with_parts vm e make (spec_then xs (Effect x) vm i) (runs i) (drained_then xs (Effect x) vm i)
    (disks_then xs x is vm i) (mounts_then xs x is (λ d. refl) vm i) (silent_then xs (Effect x) vm i)
machine_made-acted xs orderly n owner dep vm m machine (MountDisk v d) is names has_them e make =
    let x : effect.Effect = of_call n owner dep (MountDisk v d) in
    let mounted : mounted_on (grown xs (Effect x)) vm ≡ with_number d (mounted_on xs vm) =
    mounted_on-mount xs x vm d (ap (λ u. MountDisk u d) (some_same v vm names)) is
    (has_its_disk xs orderly vm m machine d has_them) in
    λ i. with_parts vm e make (spec_then xs (Effect x) vm i) (running_then xs (Effect x) vm i)
    (drained_then xs (Effect x) vm i) (disks_then xs x is vm i) (mounted i) (silent_then xs (Effect x) vm i)
machine_made-acted xs orderly n owner dep vm m machine (UnmountDisk v d) is names has_them e make =
    let x : effect.Effect = of_call n owner dep (UnmountDisk v d) in
    let mounted : mounted_on (grown xs (Effect x)) vm ≡ without_number d (mounted_on xs vm) =
    mounted_on-unmount xs x vm d (ap (λ u. UnmountDisk u d) (some_same v vm names)) is in
    λ i. with_parts vm e make (spec_then xs (Effect x) vm i) (running_then xs (Effect x) vm i)
    (drained_then xs (Effect x) vm i) (disks_then xs x is vm i) (mounted i) (silent_then xs (Effect x) vm i)
machine_made-acted xs orderly n owner dep vm m machine (AttachDisk v d) is names has_them e make = absurd cc
machine_made-acted xs orderly n owner dep vm m machine call is names has_them e make =
    let x : effect.Effect = of_call n owner dep call in
    λ i. with_parts vm e make (spec_then xs (Effect x) vm i) (running_then xs (Effect x) vm i)
    (drained_then xs (Effect x) vm i) (disks_then xs x is vm i) (mounts_then xs x is (λ d. refl) vm i)
    (silent_then xs (Effect x) vm i)
