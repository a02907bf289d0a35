-- What the opening of a task needs of what was told before it.
use Rattle.std.specs.Prelude.{◌≡◌, ◌+◌, ℕ, List, None, Some, eqb, false, is_some, true}
use Rattle.std.specs.Str.{bytes_eq}
use Rattle.bosh_base.specs.declared.entry.TaskOpen.{TaskOpen}
use Rattle.bosh_base.specs.declared.goal.Goal.{Goal}
use Rattle.bosh_base.specs.declared.goal.GoalRow.{GoalRow}
use Rattle.bosh_base.specs.declared.inst.Inst.{Inst}
use Rattle.bosh_history.specs.Goals.{instances_of}
use Rattle.bosh_history.specs.Tasks.{task_opened, to_ping}
use Rattle.bosh_history.specs.Words.{is_among}
use Rattle.bosh_rows.specs.Same.{same_inst}
use Rattle.bosh_rows.specs.SoundSnapshot.{are_distinct}
use Rattle.bosh_rows.specs.Standing.{same_truth}
use Rattle.laws_facts.proofs.GoalLemmas.{OpensOf}
use Rattle.laws_stands.specs.Told.{Told, is_going}
use Rattle.laws_stands_fits.specs.Own.{ListsOwn}
use Rattle.laws_stands_opened.proofs.WantLemmas.{insts}

-- a goal wants instances of its deployment alone
abbrev pub WantsOwn : List ℕ → List GoalRow → Type 0
WantsOwn dep rows = (i : Inst) → bytes_eq dep i.dep ≡ false → is_among same_inst i (insts rows) ≡ false

-- a task opens with a number that is not taken, and with a lock that no open task has; what it lists is of its deployment,
-- each once, and is there
pub record AllowsOpen (told : Told) (o : TaskOpen) : Type 0 where
  -- its number is the next
  pub number : o.task ≡ told.known.tasks + 1
  -- it has a goal of its deployment, or is of none
  pub opens : OpensOf o
  -- no open task is of its deployment, or of none as it is
  pub alone : (t : ℕ) → is_going told.known t ≡ true → (told.known.task t).dep ≡ o.dep → ⊥
  -- what it lists is of its deployment, or it is of none
  pub own : ListsOwn (task_opened told.known o)
  -- no instance is asked twice
  pub pings_apart : are_distinct same_inst (to_ping told.known o) ≡ true
  -- none goes twice
  pub obsolete_apart : are_distinct same_inst o.obsolete ≡ true
  -- none changes twice
  pub changed_apart : are_distinct same_inst o.changed ≡ true
  -- no disk is deleted twice
  pub disks_apart : are_distinct eqb o.disks ≡ true
  -- those that it asks are recorded
  pub asked_there : (i : Inst) → is_among same_inst i (to_ping told.known o) ≡ true →
      is_among same_inst i told.known.instances ≡ true
  -- those that go are recorded
  pub leaving_there : (i : Inst) → is_among same_inst i o.obsolete ≡ true →
      is_among same_inst i told.known.instances ≡ true
  -- those that change are of its goal
  pub changing_there : (i : Inst) → is_among same_inst i o.changed ≡ true →
      is_among same_inst i (instances_of o.goal) ≡ true
  -- its goal wants instances of its deployment alone
  pub wants_own : (goal : Goal) → o.goal ≡ Some goal → WantsOwn goal.dep goal.rows
  -- .. each once
  pub wants_apart : (goal : Goal) → o.goal ≡ Some goal → are_distinct same_inst (insts goal.rows) ≡ true
  -- so did the current goal of each deployment
  pub current_own : (dep : List ℕ) (goal : Goal) → told.known.goal dep ≡ Some goal → WantsOwn dep goal.rows
  -- no deployment is listed twice
  pub deployments_apart : are_distinct bytes_eq told.known.deployments ≡ true
  -- a deployment is listed where it has a goal
  pub deployment_listed : (dep : List ℕ) →
      same_truth (is_among bytes_eq dep told.known.deployments) (is_some (told.known.goal dep)) ≡ true
  -- it has no compile machine yet
  pub no_slot : (s : ℕ) → told.known.slot o.task s ≡ None
