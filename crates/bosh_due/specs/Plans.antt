-- The goal that a task is to open with, over what is known, or the first cause for which it does not open (this
-- project's profile). The refusals come in this order: what is named is not there; an open task has its lock; there is
-- no goal; a link would be withdrawn that others use; there would be too many deployments.
use Rattle.std.specs.Prelude.{◌≡◌, ◌==◌, ◌&&◌, ℕ, Bool, true, false, eqb, List, find, is_none, map, Option, Some, None, Result, Ok, Err}
use Rattle.std.specs.Prelude.{if◌then◌else◌}
use Rattle.std.specs.List.{list_any}
use Rattle.std.specs.Option.{option_eq}
use Rattle.std.specs.Str.{bytes_eq}
use Rattle.bosh_answers.specs.Step.{◌>>=◌}
use Rattle.bosh_asks.specs.Changed.{is_in}
use Rattle.bosh_asks.specs.Faults.{answered, of_goal, unsound}
use Rattle.bosh_asks.specs.Goals.{AreSound, nothing, recorded_config}
use Rattle.bosh_asks.specs.Recorded.{first_consumer, is_full}
use Rattle.bosh_asks.specs.declared.ask.Deploy.{Deploy}
use Rattle.bosh_asks.specs.declared.fault.BookFault.{BookFault}
use Rattle.bosh_asks.specs.declared.fault.BookFault.TheVariants as book
use Rattle.bosh_base.specs.Cloud.{numbers_to}
use Rattle.bosh_base.specs.declared.goal.Goal.{Goal}
use Rattle.bosh_base.specs.declared.inst.Inst.{Inst}
use Rattle.bosh_base.specs.declared.link.Joint.{Joint}
use Rattle.bosh_base.specs.declared.snapshot.DepRow.{DepRow}
use Rattle.bosh_goal.specs.Anew.{anew}
use Rattle.bosh_goal.specs.Goal.{IsGoal}
use Rattle.bosh_goal.specs.declared.change.Change.{Change}
use Rattle.bosh_history.specs.Held.{is_open, view}
use Rattle.bosh_history.specs.Known.{Known}
use Rattle.bosh_history.specs.Snapshots.{dep_row}
use Rattle.bosh_history.specs.Words.{is_among}
use Rattle.bosh_manifest_names.specs.declared.fault.GoalFault.{GoalFault}

-- a goal, or none where disks alone are deleted
abbrev pub Plan : Type 0
Plan = Result (Option Goal) BookFault

-- ---- what may stand against it

-- the first open task that has the lock of a deployment, or that of the tasks that delete disks
abbrev pub lock_holder : Known → Option (List ℕ) → Option ℕ
lock_holder k dep = find (λ t. is_open k t && option_eq bytes_eq (k.task t).dep dep) (numbers_to k.tasks)

-- there is no such task
abbrev pub unlocked : Option ℕ → Result Bool BookFault
unlocked (Some task) = Err (book.Locked task)
unlocked None = Ok true

-- no open task has the lock
abbrev pub free : Known → Option (List ℕ) → Result Bool BookFault
free k dep = unlocked (lock_holder k dep)

-- a deployment that has no goal is not recorded
abbrev pub current : List ℕ → Option Goal → Result Goal BookFault
current dep (Some goal) = Ok goal
current dep None = Err (book.NoDeployment dep)

-- the current goal of a deployment that is recorded
abbrev pub goal_of : Known → List ℕ → Result Goal BookFault
goal_of k dep = current dep (k.goal dep)

-- the goal, where it has the instance
abbrev pub having_instance : Inst → Goal → Result Goal BookFault
having_instance inst goal = if is_in goal inst then Ok goal else Err (book.NoInstance inst)

-- what is recorded of the deployments, in their order
abbrev pub dep_rows : Known → List (List ℕ × Option DepRow)
dep_rows k = map (λ dep. (dep, dep_row k dep)) k.deployments

-- the first consumer, of another deployment, of a link that the goal withdraws
abbrev pub first_consumer_of : Known → Goal → Option Joint
first_consumer_of k goal = first_consumer goal (dep_rows k)

-- there is no such consumer
abbrev pub unconsumed : Option Joint → Result Bool BookFault
unconsumed (Some by) = Err (book.Consumed by)
unconsumed None = Ok true

-- the deployment is not recorded, and as many are as there may be
abbrev pub lacks_room : Known → List ℕ → Bool
lacks_room k dep = is_none (k.goal dep) && is_full (dep_rows k)

-- a row has the disk
abbrev pub is_in_a_row : Known → ℕ → Bool
is_in_a_row k disk = list_any (λ i. list_any (λ it. it.disk == disk) (k.row i).disks) k.instances

-- the disk belongs to no instance
abbrev pub orphaned : Known → ℕ → Result Bool BookFault
orphaned k disk =
    if is_among eqb disk k.orphans then Ok true
    else if is_in_a_row k disk then Err (book.NotOrphaned disk) else Err (book.NoDisk disk)

-- ---- goals

-- the current goal of its deployment with an instance changed
abbrev pub alteration_plan : Known → Inst → Change → Plan
alteration_plan k inst change = do
  whole ← goal_of k inst.dep
  goal ← having_instance inst whole
  unheld ← free k (Some inst.dep)
  made ← answered (anew inst change (recorded_config k.config) (view k inst.dep) goal)
  Ok (Some made)

-- nothing is wanted of a deployment that is deleted
abbrev pub deletion_plan : Known → List ℕ → Plan
deletion_plan k dep = do
  whole ← goal_of k dep
  unheld ← free k (Some dep)
  unused ← unconsumed (first_consumer_of k (nothing dep))
  Ok (Some (nothing dep))

-- an orphaned disk is deleted, or all of them
abbrev pub disk_deletion_plan : Known → ℕ → Plan
disk_deletion_plan k disk = do
  there ← orphaned k disk
  unheld ← free k None
  Ok None

-- all orphaned disks are deleted
abbrev pub clean_up_plan : Known → Plan
clean_up_plan k = do
  unheld ← free k None
  Ok None

-- ---- deploys

-- the goal of the manifest over what is recorded, or why there is none
pub record AnswersGoal (k : Known) (it : Deploy) (answer : Result Goal GoalFault) : Type 0 where
  pub is_free : lock_holder k (Some it.manifest.name) ≡ None
  pub sound : AreSound k.releases
  pub goal :
      IsGoal it.manifest (recorded_config k.config) k.releases k.stemcells (view k it.manifest.name) it.recreate answer

-- what comes of the goal of a manifest, the first that applies
pub data PlansDeploy (k : Known) (it : Deploy) (plan : Plan) : Type 0 where
  locked :
      (task : ℕ) → lock_holder k (Some it.manifest.name) ≡ Some task → plan ≡ Err (book.Locked task) →
      PlansDeploy k it plan
  differs :
      lock_holder k (Some it.manifest.name) ≡ None → ¬ AreSound k.releases → plan ≡ Err (unsound k.releases) →
      PlansDeploy k it plan
  no_goal : (fault : GoalFault) → AnswersGoal k it (Err fault) → plan ≡ Err (of_goal fault) → PlansDeploy k it plan
  consumed :
      (goal : Goal) (by : Joint) → AnswersGoal k it (Ok goal) → first_consumer_of k goal ≡ Some by →
      plan ≡ Err (book.Consumed by) → PlansDeploy k it plan
  too_many :
      (goal : Goal) → AnswersGoal k it (Ok goal) → first_consumer_of k goal ≡ None →
      lacks_room k it.manifest.name ≡ true → plan ≡ Err book.Limit → PlansDeploy k it plan
  planned :
      (goal : Goal) → AnswersGoal k it (Ok goal) → first_consumer_of k goal ≡ None →
      lacks_room k it.manifest.name ≡ false → plan ≡ Ok (Some goal) → PlansDeploy k it plan
