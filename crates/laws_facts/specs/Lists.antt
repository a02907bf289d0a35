-- Facts on the lists of what is recorded: each has just the subjects of which its function knows something, in order.
use Rattle.std.specs.Prelude.{◌≡◌, ℕ, Bool, true, false, eqb, nat_le, not, ◌&&◌, ◌||◌, ◌==◌, is_some, List, ◌∷◌, ◌++◌, codes}
use Rattle.std.specs.List.{list_all, list_any}
use Rattle.std.specs.Ordering.{nat_cmp}
use Rattle.std.specs.Str.{bytes_eq}
use Rattle.bosh_base.specs.Cloud.{numbers_to}
use Rattle.bosh_base.specs.Inst.{inst_cmp}
use Rattle.bosh_base.specs.declared.key.Key.{Key}
use Rattle.bosh_base.specs.declared.snapshot.BuiltKey.{BuiltKey}
use Rattle.bosh_compile.specs.Readiness.{same_key}
use Rattle.bosh_history.specs.Slots.{is_compiled}
use Rattle.bosh_base.specs.declared.inst.Inst.{Inst}
use Rattle.bosh_base.specs.declared.row.Row.{Row}
use Rattle.laws_facts.specs.CallFacts.{named}
use Rattle.laws_facts.specs.Cloud.{lost_vms}
use Rattle.laws_facts.specs.Words.{unless}
use Rattle.laws_row_facts.specs.Words.{implies, where_any, are_ascending}
use Rattle.bosh_history.specs.Known.{Known}
use Rattle.bosh_history.specs.Moments.{Moment}
use Rattle.bosh_history.specs.Orders.{same_slot, slot_cmp}
use Rattle.bosh_history.specs.Words.{is_among}
use Rattle.bosh_rows.specs.SoundSnapshot.{are_distinct}
use Rattle.bosh_rows.specs.After.{bare}
use Rattle.bosh_rows.specs.Same.{same_inst}
use Rattle.bosh_rows.specs.Standing.{is_empty, same_truth}
use Rattle.bosh_rows.specs.Tied.{is_named_lost}

-- it is listed where something is recorded
abbrev pub is_machine_listed : Known → ℕ → ℕ → Bool
is_machine_listed k t s = same_truth (is_among same_slot (named t s) k.machines) (is_some (k.slot t s))

-- .. of an orphaned disk, which is known by its number
abbrev pub is_orphan_listed : Known → ℕ → Bool
is_orphan_listed k d =
    same_truth (is_among eqb d k.orphans) (is_some (k.orphan d)) && where_any (λ it. it.disk == d) (k.orphan d)

-- .. of a deployment
abbrev pub is_deployment_listed : Known → List ℕ → Bool
is_deployment_listed k dep = same_truth (is_among bytes_eq dep k.deployments) (is_some (k.goal dep))

-- the key was built
abbrev pub is_built_for : Key → BuiltKey → Bool
is_built_for key built = same_key built.key key

-- a key is listed as built just where it has a digest
abbrev pub is_key_listed : Known → Key → Bool
is_key_listed k key = same_truth (list_any (is_built_for key) k.built) (is_compiled k key)

-- a machine was lost before a task heard of it, unless the task has heard of it
abbrev pub is_loss_noted : Moment → ℕ → ℕ → Bool
is_loss_noted m t v = implies (is_named_lost m.effects v) (m.heard t v || m.early t v)

-- the facts on lists
pub record ListFacts (m : Moment) : Type 0 where
  -- the instances stand in order, each with its own row, and others have a bare one
  pub instances_in_order : are_ascending inst_cmp m.known.instances ≡ true
  pub own_row : (i : Inst) → (m.known.row i).inst ≡ i
  pub bare : (i : Inst) → is_among same_inst i m.known.instances ≡ false → m.known.row i ≡ bare i
  -- the compile machines stand in order, those of which something is known
  pub machines_in_order : are_ascending slot_cmp m.known.machines ≡ true
  pub machine_listed : (t s : ℕ) → is_machine_listed m.known t s ≡ true
  -- the orphaned disks stand in order, those of which something is known
  pub orphans_in_order : are_ascending nat_cmp m.known.orphans ≡ true
  pub orphan_listed : (d : ℕ) → is_orphan_listed m.known d ≡ true
  -- the deployments stand once each, those that have a goal
  pub deployments_apart : are_distinct bytes_eq m.known.deployments ≡ true
  pub deployment_listed : (dep : List ℕ) → is_deployment_listed m.known dep ≡ true
  -- the keys that are listed are those that have a digest
  pub key_listed : (key : Key) → is_key_listed m.known key ≡ true
  -- the last stop was after no more tasks than there are, and each loss is noted
  pub stopped_past : nat_le m.stopped m.known.tasks ≡ true
  pub loss_noted : (t v : ℕ) → is_loss_noted m t v ≡ true

-- ---- the tests

-- nothing is recorded in the row
abbrev pub is_bare : Row → Bool
is_bare row =
    not (is_some row.make)
    && (not (is_some row.vm)
    && (not (is_some row.spec)
    && (not row.running
    && (not row.drained && (is_empty row.disks && (not (is_some row.doubt) && not row.lost))))))

-- the row is of the instance, and bare where that is not listed
abbrev pub has_own_row : Known → Inst → Bool
has_own_row k i = same_inst (k.row i).inst i && implies (not (is_among same_inst i k.instances)) (is_bare (k.row i))

-- the subjects that may be recorded where they are not listed: what is told beside the lists
abbrev pub lists_broken : Moment → List Inst → List ℕ → List (List ℕ) → List (List ℕ)
lists_broken m instances disks deps =
    unless (codes "instances listed") (are_ascending inst_cmp m.known.instances)
    ++ unless (codes "instances listed") (list_all (has_own_row m.known) (m.known.instances ++ instances))
    ++ unless (codes "machines listed") (are_ascending slot_cmp m.known.machines)
    ++ unless (codes "machines listed") (list_all (λ name. is_machine_listed m.known name.task name.slot) m.known.machines)
    ++ unless (codes "machines listed")
    (list_all (λ t. list_all (λ s. is_machine_listed m.known t s) (0 ∷ numbers_to 2)) (numbers_to m.known.tasks))
    ++ unless (codes "orphans listed") (are_ascending nat_cmp m.known.orphans)
    ++ unless (codes "orphans listed") (list_all (is_orphan_listed m.known) (m.known.orphans ++ disks))
    ++ unless (codes "deployments listed") (are_distinct bytes_eq m.known.deployments)
    ++ unless (codes "deployments listed") (list_all (is_deployment_listed m.known) (m.known.deployments ++ deps))
    ++ unless (codes "keys listed") (list_all (λ built. is_key_listed m.known built.key) m.known.built)
    ++ unless (codes "losses noted") (nat_le m.stopped m.known.tasks)
    ++ unless (codes "losses noted")
    (list_all (λ v. list_all (λ t. is_loss_noted m t v) (numbers_to m.known.tasks)) (lost_vms m.effects))
