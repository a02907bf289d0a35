-- All facts at a moment: those on what is known, and those that speak of what the cloud has. Each permitted move keeps
-- those on what is known; of the others it is proved of some that one call keeps them.
use Rattle.std.specs.Prelude.{◌≡◌, ℕ, true, Option, Some, None, List, [], ◌∷◌, ◌++◌}
use Rattle.std.specs.List.{filter_map}
use Rattle.bosh_base.specs.Cloud.{numbers_to, disks_created, disk_creation, vms_created, vm_creation}
use Rattle.bosh_base.specs.declared.entry.Effect.{Effect}
use Rattle.bosh_base.specs.declared.inst.Inst.{Inst}
use Rattle.bosh_base.specs.declared.owner.Owner.{Owner}
use Rattle.bosh_base.specs.declared.owner.Owner.TheVariants.{Instance}
use Rattle.laws_facts.specs.Addresses.{addresses_broken}
use Rattle.laws_facts.specs.CallFacts.{PerformedFacts, call_broken_at, named}
use Rattle.laws_facts.specs.Cloud.{cloud_broken}
use Rattle.laws_row_facts.specs.Cloud.{CloudFacts}
use Rattle.laws_facts.specs.CompileMachines.{slot_broken, slot_work_broken}
use Rattle.laws_slots.specs.Slots.{SlotFacts}
use Rattle.laws_facts.specs.Disks.{DiskFacts, disk_broken}
use Rattle.laws_facts.specs.Goals.{goal_broken_at}
use Rattle.laws_facts.specs.KnownFacts.{KnownFacts}
use Rattle.laws_facts.specs.Lists.{lists_broken}
use Rattle.laws_facts.specs.Makers.{makers_broken}
use Rattle.laws_facts.specs.Numbers.{EffectFacts, numbers_broken}
use Rattle.laws_facts.specs.Owners.{works}
use Rattle.laws_facts.specs.Rows.{row_broken}
use Rattle.laws_row_facts.specs.Rows.{RowFacts}
use Rattle.laws_facts.specs.TaskFacts.{OutcomeFacts, task_broken}
use Rattle.laws_facts.specs.Words.{broken_of}
use Rattle.bosh_history.specs.Goals.{instances_of}
use Rattle.bosh_history.specs.Known.{Known, SlotName}
use Rattle.bosh_history.specs.Moments.{Moment, OpenCall}

-- all facts at a moment
pub record Holds (m : Moment) : Type 0 where
  -- what entries and open calls tell
  pub known : KnownFacts m
  -- what was done to the cloud
  pub cloud : CloudFacts m.effects
  -- .. and under which numbers
  pub effects : EffectFacts m
  -- each row and the cloud
  pub rows : (i : Inst) → RowFacts m.effects (m.known.row i)
  -- each compile machine and the cloud
  pub slots : (t s : ℕ) → SlotFacts m.effects (named t s) (m.known.slot t s)
  -- each disk
  pub disks : (d : ℕ) → DiskFacts m.effects m.known d
  -- each open call and the cloud
  pub performed : (n : ℕ) (call : OpenCall) → m.calls n ≡ Some call → PerformedFacts m call
  -- each task that works and the cloud
  pub outcomes : (t : ℕ) → works m t ≡ true → OutcomeFacts m t

-- ---- the tests of all facts, of each subject that a moment tells of

-- the instance that something was made for
abbrev pub instance_made_for : Option Effect → Option Inst
instance_made_for (Some e) = of_owner e.owner
  where
    of_owner : Owner → Option Inst
    of_owner (Instance i) = Some i
    of_owner owner = None
instance_made_for None = None

-- the instances that tasks, goals and the cloud tell of
abbrev pub instances_told : Moment → List Inst
instances_told m =
    m.known.instances
    ++ instances_in m.known m.known.deployments
    ++ filter_map (λ v. instance_made_for (vm_creation m.effects v)) (numbers_to (vms_created m.effects))
    ++ filter_map (λ d. instance_made_for (disk_creation m.effects d)) (numbers_to (disks_created m.effects))
  where
    instances_in : Known → List (List ℕ) → List Inst
    instances_in k [] = []
    instances_in k (dep ∷ deps) = instances_of (k.goal dep) ++ instances_in k deps

-- the compile machines that are recorded, and the first slots of each task
abbrev pub slots_told : Moment → List SlotName
slots_told m = m.known.machines ++ of_tasks (numbers_to m.known.tasks)
  where
    of_tasks : List ℕ → List SlotName
    of_tasks [] = []
    of_tasks (t ∷ tasks) = named t 0 ∷ named t 1 ∷ of_tasks tasks

-- the deployments that tasks are of
abbrev pub deployments_told : Moment → List (List ℕ)
deployments_told m = filter_map (λ t. (m.known.task t).dep) (numbers_to m.known.tasks)

-- the tags of the facts that do not hold
abbrev pub broken : Moment → List (List ℕ)
broken m =
    lists_broken m (instances_told m) (numbers_to (disks_created m.effects)) (deployments_told m)
    ++ numbers_broken m
    ++ cloud_broken m.effects
    ++ makers_broken m
    ++ broken_of (λ i. row_broken m.effects (m.known.row i)) (instances_told m)
    ++ broken_of (λ name. slot_broken m.effects name (m.known.slot name.task name.slot)) (slots_told m)
    ++ broken_of (slot_work_broken m) (slots_told m)
    ++ broken_of (disk_broken m.effects m.known) (m.known.orphans ++ numbers_to (disks_created m.effects))
    ++ broken_of (call_broken_at m) (numbers_to m.known.last_call)
    ++ broken_of (task_broken m) (numbers_to m.known.tasks)
    ++ broken_of (goal_broken_at m.known) m.known.deployments
    ++ addresses_broken m
