-- The tables after a call that an agent did.
use Rattle.std.proofs.Common.{◌≡◌, ℕ, ◌<◌, Bool, true, false, Option, Some, None, List, [], ◌∷◌, ◌++◌, refl, sym, ◌∙◌, ap, arith, inl, inr}
use Rattle.std.specs.Prelude.{◌≢◌, ◌==◌, ◌&&◌, if◌then◌else◌}
use Rattle.std.specs.Option.{option_map}
use Rattle.std.proofs.lemmas.Bool.{ne_eqb, eq-eqb, cases_eq}
use Rattle.bosh_agent.specs.Agent.{vm_of, has_disks, machine_by_call, contents_in, with_contents, disks_by_call}
use Rattle.bosh_agent.specs.Numbers.{has}
use Rattle.bosh_agent.specs.Slots.{with_slot}
use Rattle.bosh_base.specs.Call.{method_of}
use Rattle.bosh_base.specs.Cloud.{when, by_call, disks_created, holder_of, mounts, is_disk_mounted, contents_of, is_holder, attached_to, mounted_on, machine_of, disk_of}
use Rattle.bosh_base.specs.History.{chosen}
use Rattle.bosh_base.specs.declared.call.Call.{Call}
use Rattle.bosh_base.specs.declared.call.Call.TheVariants.{MountDisk, UnmountDisk, MigrateDisk, AttachDisk}
use Rattle.bosh_base.specs.declared.entry.Effect as effect
use Rattle.bosh_base.specs.declared.entry.Entry.{Entry}
use Rattle.bosh_base.specs.declared.entry.Entry.TheVariants.{Effect}
use Rattle.bosh_base.specs.declared.machine.Disk.{Disk}
use Rattle.bosh_base.specs.declared.machine.Machine.{Machine}
use Rattle.bosh_inventory.proofs.ContentsLemmas.{Fills, disk_of-contents, slots-filled, slots-kept}
use Rattle.bosh_inventory.proofs.NumberLemmas.{has-filter}
use Rattle.bosh_inventory.proofs.OrderlyLemmas.{Untouches-other}
use Rattle.bosh_inventory.proofs.PresenceLemmas.{grown, machine_of-changed, contents_of-grown, is_disk_mounted-grown}
use Rattle.bosh_inventory.proofs.SlotLemmas.{at-slots}
use Rattle.bosh_inventory.specs.Orderly.{IsOrderlyCloud}
use Rattle.bosh_inventory.specs.Rows.{slots, AreTables}
use Rattle.bosh_base.specs.Method.{is_agents}
use Rattle.bosh_base.specs.declared.owner.Owner.{Owner}
use Rattle.bosh_inventory.proofs.AgentLemmas.{and_left, and_right, IsMachine, IsMachine-found, IsHeld, IsHeld-has, held_apart, ActsOn, AreTables-acted}
use Rattle.bosh_inventory.proofs.ActLemmas.{has_its_disk, some_same, of_call, machine_made-acted}
use Rattle.bosh_inventory.proofs.AgentCallLemmas.{IsAgents, KeepsVms-agents, KeepsDisks-agents, attached-agents}

-- ---- the others

-- of a disk that another machine does not have, nothing shows there
not_shown : (xs : List Entry) (x : Entry) (v vm d k : ℕ) → v ≢ vm → IsHeld xs vm d → (b : Bool) →
    by_call (mounts k) x ≡ when (d == k) b →
    (is_holder xs v k && is_disk_mounted (grown xs x) k) ≡ (is_holder xs v k && is_disk_mounted xs k)
not_shown xs x v vm d k apart held b is = elim (cases_eq d k) [
  | inl same ↦
      let none : is_holder xs v k ≡ false =
      ap (is_holder xs v) (sym same) ∙ held_apart vm v (holder_of xs d) (λ it. apart (sym it)) held.holder in
      rw none refl
  | inr other ↦ ap (λ it. is_holder xs v k && it)
      (is_disk_mounted-grown xs x k ∙ ap (λ a. chosen a (is_disk_mounted xs k))
      (is ∙ ap (λ it. when it b) (ne_eqb d k other)))
]

mounts-others : (xs : List Entry) → IsOrderlyCloud xs → (n : ℕ) (owner : Owner) (dep : List ℕ) (vm : ℕ) (m : Machine) →
    IsMachine xs vm m →
    (call : Call) → is_agents (method_of call) ≡ true → vm_of call ≡ Some vm → has_disks m call ≡ true → (v : ℕ) → v ≢
    vm → (x : ℕ) →
    (is_holder xs v x && is_disk_mounted (grown xs (Effect (of_call n owner dep call))) x) ≡ (is_holder xs v
    x && is_disk_mounted xs x)
mounts-others xs orderly n owner dep vm m machine (MountDisk w d) is names has_them v apart x =
    not_shown xs (Effect (of_call n owner dep (MountDisk w d))) v vm d x apart
    (has_its_disk xs orderly vm m machine d has_them) true refl
mounts-others xs orderly n owner dep vm m machine (UnmountDisk w d) is names has_them v apart x =
    not_shown xs (Effect (of_call n owner dep (UnmountDisk w d))) v vm d x apart
    (has_its_disk xs orderly vm m machine d has_them) false refl
mounts-others xs orderly n owner dep vm m machine (AttachDisk w d) is names has_them v apart x = absurd cc
mounts-others xs orderly n owner dep vm m machine call is names has_them v apart x =
    ap (λ it. is_holder xs v x && it) (is_disk_mounted-grown xs (Effect (of_call n owner dep call)) x)

-- ---- the disks

-- a mounted disk is attached
is_mounted_held : (xs : List Entry) → IsOrderlyCloud xs → (vm : ℕ) (m : Machine) → IsMachine xs vm m → (d : ℕ) →
    has d m.mounted ≡ true → IsHeld xs vm d
is_mounted_held xs orderly vm m machine d is =
    let mounted : has d (mounted_on xs vm) ≡ true = ap (λ it. has d it.mounted) machine.made ∙ is in
    IsHeld-has xs orderly vm d (and_right (is_disk_mounted xs d) (has d (attached_to xs vm))
    (sym (has-filter (is_disk_mounted xs) d (attached_to xs vm)) ∙ mounted))

-- the contents of a disk, where it is there
abbrev contents_or_none : Option Disk → List ℕ
contents_or_none (Some disk) = disk.contents
contents_or_none None = []

pub contents_in-slots : (xs : List Entry) (v d : ℕ) → IsHeld xs v d →
    contents_in (slots (disk_of xs) (disks_created xs)) d ≡ contents_of xs d
contents_in-slots xs v d held =
    ap contents_or_none (at-slots (disk_of xs) (disks_created xs) d held.low held.high ∙ held.is)
    ∙ disk_of-contents xs d held.disk held.is

migrated : (xs : List Entry) (x : Entry) (from to : ℕ) →
    contents_of (grown xs x) ≡ (λ d. if d == to then contents_of xs from else contents_of xs d) →
    Fills xs x to (contents_of xs from)
migrated xs x from to is = record {
  filled = ap (λ f. f to) is ∙ ap (λ it. if it then contents_of xs from else contents_of xs to) (eq-eqb to to refl);
  others =
      λ d apart. ap (λ f. f d) is ∙ ap (λ it. if it then contents_of xs from else contents_of xs d) (ne_eqb d to apart);
}

-- a disk that is not made yet stays empty
empty-acted : (xs : List Entry) → IsOrderlyCloud xs → (n : ℕ) (owner : Owner) (dep : List ℕ) (vm : ℕ) (m : Machine) →
    IsMachine xs vm m →
    (call : Call) → is_agents (method_of call) ≡ true → has_disks m call ≡ true → (d : ℕ) → disks_created xs <
    d → contents_of (grown xs (Effect (of_call n owner dep call))) d ≡ contents_of xs d
empty-acted xs orderly n owner dep vm m machine (MigrateDisk w from to) is has_them d past =
    let held : IsHeld xs vm to =
    is_mounted_held xs orderly vm m machine to (and_right (has from m.mounted) (has to m.mounted) has_them) in
    (migrated xs (Effect (of_call n owner dep (MigrateDisk w from to))) from to
    (contents_of-grown xs (Effect (of_call n owner dep (MigrateDisk w from to))))).others d (λ same. omega
    (arith, past, same, held.high))
empty-acted xs orderly n owner dep vm m machine call is has_them d past =
    ap (λ f. f d) (contents_of-grown xs (Effect (of_call n owner dep call)))

rows-acted : (xs : List Entry) → IsOrderlyCloud xs → (n : ℕ) (owner : Owner) (dep : List ℕ) (vm : ℕ) (m : Machine) →
    IsMachine xs vm m →
    (call : Call) → is_agents (method_of call) ≡ true → has_disks m call ≡ true →
    disks_by_call (slots (disk_of xs) (disks_created xs)) call ≡ slots
    (disk_of (grown xs (Effect (of_call n owner dep call))))
    (disks_created (grown xs (Effect (of_call n owner dep call))))
rows-acted xs orderly n owner dep vm m machine (MigrateDisk w from to) is has_them =
    let x : effect.Effect = of_call n owner dep (MigrateDisk w from to) in
    let held_from : IsHeld xs vm from =
    is_mounted_held xs orderly vm m machine from (and_left (has from m.mounted) (has to m.mounted) has_them) in
    let held : IsHeld xs vm to =
    is_mounted_held xs orderly vm m machine to (and_right (has from m.mounted) (has to m.mounted) has_them) in
    ap (with_contents (slots (disk_of xs) (disks_created xs)) to) (contents_in-slots xs vm from held_from)
    ∙ slots-filled xs (Effect x) (KeepsDisks-agents xs x is) to (contents_of xs from)
    (migrated xs (Effect x) from to (contents_of-grown xs (Effect x))) held.low held.high
rows-acted xs orderly n owner dep vm m machine call is has_them =
    let x : effect.Effect = of_call n owner dep call in
    slots-kept xs (Effect x) (KeepsDisks-agents xs x is) (λ d. ap (λ f. f d) (contents_of-grown xs (Effect x)))

-- ---- the tables after a call that an agent did
pub AreTables-agent : (xs : List Entry) (e : effect.Effect) (vm : ℕ) (m : Machine) (vms : List (Option Machine))
    (volumes : List (Option Disk)) (holders : List (Option ℕ)) →
    machine_of xs vm ≡ Some m → IsAgents e → vm_of e.call ≡ Some vm → has_disks m e.call ≡ true → AreTables xs vms
    volumes holders →
    AreTables (xs ++ Effect e ∷ []) (with_slot vms vm (Some (machine_by_call m e.call))) (disks_by_call volumes e.call) holders
AreTables-agent xs e vm m vms volumes holders there is names has_them tables =
    let orderly : IsOrderlyCloud xs = tables.are_orderly in
    let machine : IsMachine xs vm m = IsMachine-found xs vm m there in
    let acts : ActsOn xs (Effect e) vm (machine_by_call m e.call) (disks_by_call volumes e.call) = record {
      vms = KeepsVms-agents xs e is;
      disks = KeepsDisks-agents xs e is;
      holders = λ d. attached-agents d e.call is;
      untouched = λ v apart. Untouches-other e v (λ same. apart (some_same v vm (sym same ∙ names)));
      mounted = λ v apart d. mounts-others xs orderly e.n e.owner e.dep vm m machine e.call is names has_them v apart d;
      machine =
          machine_of-changed xs (Effect e) (KeepsVms-agents xs e is) vm (λ it. machine_by_call it e.call)
          (machine_made-acted xs orderly e.n e.owner e.dep vm m machine e.call is names has_them)
          ∙ ap (option_map (λ it. machine_by_call it e.call)) there;
      empty = λ d past. empty-acted xs orderly e.n e.owner e.dep vm m machine e.call is has_them d past;
      rows =
          ap (λ t. disks_by_call t e.call) tables.all_disks
          ∙ rows-acted xs orderly e.n e.owner e.dep vm m machine e.call is has_them;
    } in
    AreTables-acted xs (Effect e) vm (machine_by_call m e.call) vms volumes (disks_by_call volumes e.call) holders machine.there
    acts tables
