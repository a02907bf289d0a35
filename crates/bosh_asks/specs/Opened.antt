-- How a task opens.
use Rattle.std.specs.Prelude.{◌≡◌, ℕ, List, [], ◌∷◌, Option, Some, None, Ok}
use Rattle.bosh_base.specs.declared.entry.TaskOpen.{TaskOpen}
use Rattle.bosh_base.specs.declared.goal.Goal.{Goal}
use Rattle.bosh_base.specs.declared.inst.Inst.{Inst}
use Rattle.bosh_base.specs.declared.state.State.TheVariants.{Running}
use Rattle.bosh_records.specs.declared.orphans.LooseDisk.{LooseDisk}
use Rattle.bosh_goal.specs.declared.change.Change.{Change}
use Rattle.bosh_goal.specs.declared.change.Change.TheVariants as changes
use Rattle.bosh_asks.specs.Asked.{dep_of, halting, kind_of, source_of}
use Rattle.bosh_asks.specs.Changed.{AreChanged, AreObsolete}
use Rattle.bosh_asks.specs.Goals.{Gives, Renews, nothing}
use Rattle.bosh_asks.specs.Recorded.{loose}
use Rattle.bosh_asks.specs.declared.ask.Ask.{Ask}
use Rattle.bosh_asks.specs.declared.ask.Ask.TheVariants as asks
use Rattle.bosh_asks.specs.declared.ask.Deploy.{Deploy}
use Rattle.bosh_asks.specs.declared.plan.Plan.{Plan}

-- the deployment becomes what the manifest says: with its goal those instances are changed that do not stand, or all
-- where each machine is asked first, and the recorded ones that it does not want are deleted
pub record Deploys (it : Deploy) (plan : Plan) : Type 0 where
  pub goal : Goal
  pub is : plan.goal ≡ Some goal
  pub given : Gives it (Ok goal)
  pub of_dep : goal.dep ≡ it.manifest.name
  pub changed : AreChanged it.fix goal.rows plan.changed
  pub obsolete : AreObsolete goal plan.obsolete
  pub no_disks : plan.disks ≡ []

-- one instance is changed, and no other
pub record Alters (inst : Inst) (change : Change) (plan : Plan) : Type 0 where
  pub goal : Goal
  pub is : plan.goal ≡ Some goal
  pub given : Renews inst change (Ok goal)
  pub changed : plan.changed ≡ inst ∷ []
  pub none_obsolete : plan.obsolete ≡ []
  pub no_disks : plan.disks ≡ []

-- a deployment is deleted: nothing is wanted of it
pub record Deletes (dep : List ℕ) (plan : Plan) : Type 0 where
  pub goal : plan.goal ≡ Some (nothing dep)
  pub none_changed : plan.changed ≡ []
  pub obsolete : AreObsolete (nothing dep) plan.obsolete
  pub no_disks : plan.disks ≡ []

-- disks are deleted, and nothing else is done
abbrev pub disks_alone : List ℕ → Plan
disks_alone disks = record { goal = None; changed = []; obsolete = []; disks = disks }

-- those that are orphaned
abbrev pub CleansUp : Plan → Type 0
CleansUp plan = (orphans : List (ℕ × Option LooseDisk)) × (plan ≡ disks_alone (loose orphans))

-- what is asked is done
abbrev pub Does : Ask → Plan → Type 0
Does (asks.Deploy it) plan = Deploys it plan
Does (asks.Recreate inst) plan = Alters inst changes.Fresh plan
Does (asks.Start inst) plan = Alters inst (changes.To Running) plan
Does (asks.Halt inst hard) plan = Alters inst (halting hard) plan
Does (asks.DeleteDeployment dep) plan = Deletes dep plan
Does (asks.DeleteDisk disk) plan = plan ≡ disks_alone (disk ∷ [])
Does asks.CleanUp plan = CleansUp plan
Does (asks.Resolve inst) plan = Alters inst changes.Same plan

abbrev pub plan_of : TaskOpen → Plan
plan_of it = record { goal = it.goal; changed = it.changed; obsolete = it.obsolete; disks = it.disks }

-- the task that opens does what is asked, and tells so
pub record Opens (ask : Ask) (it : TaskOpen) : Type 0 where
  pub kind : it.kind ≡ kind_of ask
  pub dep : it.dep ≡ dep_of ask
  pub source : it.source ≡ source_of ask
  pub does : Does ask (plan_of it)
