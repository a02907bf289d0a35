-- What a task is to do, by the records that are given.
use Rattle.std.specs.Prelude.{◌≡◌, ℕ, true, false, List, Some, None, Result, Ok}
use Rattle.bosh_base.specs.declared.goal.Goal.{Goal}
use Rattle.bosh_base.specs.declared.inst.Inst.{Inst}
use Rattle.bosh_base.specs.declared.state.State.TheVariants.{Running}
use Rattle.bosh_records.specs.Readers.{goal_of}
use Rattle.bosh_views.specs.View.{view_of}
use Rattle.bosh_records.specs.declared.records.Records.{Records}
use Rattle.bosh_goal.specs.Anew.{anew}
use Rattle.bosh_goal.specs.Goal.{IsGoal}
use Rattle.bosh_goal.specs.declared.change.Change.{Change}
use Rattle.bosh_goal.specs.declared.change.Change.TheVariants as changes
use Rattle.bosh_manifest_names.specs.Answer.{IsAnswer}
use Rattle.bosh_manifest_names.specs.declared.fault.GoalFault.{GoalFault}
use Rattle.bosh_asks.specs.Asked.{halting}
use Rattle.bosh_asks.specs.Changed.{changed_of, obsolete_of}
use Rattle.bosh_asks.specs.Goals.{AreSound, nothing, recorded_config}
use Rattle.bosh_asks.specs.Known.{is_orphaned, is_recorded, is_wanted, lacks_room, rows_at}
use Rattle.bosh_asks.specs.Recorded.{first_consumer, loose}
use Rattle.bosh_asks.specs.declared.ask.Ask.{Ask}
use Rattle.bosh_asks.specs.declared.ask.Ask.TheVariants as asks
use Rattle.bosh_asks.specs.declared.ask.Deploy.{Deploy}
use Rattle.bosh_asks.specs.declared.plan.Plan.{Plan}

-- ---- goals

-- the manifest's goal over the records, or why there is none
pub record GivesOver (records : Records) (it : Deploy) (answer : Result Goal GoalFault) : Type 0 where
  pub sound : AreSound records.releases.items
  pub goal :
      IsGoal it.manifest (recorded_config records.config) records.releases.items records.stemcells.items
      (view_of records it.manifest.name) it.recreate answer

-- the current goal of its deployment with the instance changed, or why there is none
pub record RenewsOver (records : Records) (inst : Inst) (change : Change) (answer : Result Goal GoalFault) : Type 0 where
  pub current : Goal
  pub recorded : goal_of records inst.dep ≡ Some current
  pub goal :
      IsAnswer answer (anew inst change (recorded_config records.config) (view_of records inst.dep) current)

-- it is this goal
abbrev pub Is : Goal → Result Goal GoalFault → Type 0
Is goal answer = answer ≡ Ok goal

-- tasks that delete disks have no goal
abbrev pub HasNone : Result Goal GoalFault → Type 0
HasNone answer = ⊥

-- the goal that an ask has, or why there is none
abbrev pub GoalOver : Records → Ask → Result Goal GoalFault → Type 0
GoalOver records (asks.Deploy it) answer = GivesOver records it answer
GoalOver records (asks.Recreate inst) answer = RenewsOver records inst changes.Fresh answer
GoalOver records (asks.Start inst) answer = RenewsOver records inst (changes.To Running) answer
GoalOver records (asks.Halt inst hard) answer = RenewsOver records inst (halting hard) answer
GoalOver records (asks.DeleteDeployment dep) answer = Is (nothing dep) answer
GoalOver records (asks.DeleteDisk disk) answer = HasNone answer
GoalOver records asks.CleanUp answer = HasNone answer
GoalOver records (asks.Resolve inst) answer = RenewsOver records inst changes.Same answer

-- ---- what is named

-- what is named is there: the instance is wanted, the deployment is recorded, the disk is orphaned
abbrev pub IsNamed : Records → Ask → Type 0
IsNamed records (asks.Deploy it) = Unit {0}
IsNamed records (asks.Recreate inst) = is_wanted records inst ≡ true
IsNamed records (asks.Start inst) = is_wanted records inst ≡ true
IsNamed records (asks.Halt inst hard) = is_wanted records inst ≡ true
IsNamed records (asks.DeleteDeployment dep) = is_recorded records dep ≡ true
IsNamed records (asks.DeleteDisk disk) = is_orphaned records disk ≡ true
IsNamed records asks.CleanUp = Unit {0}
IsNamed records (asks.Resolve inst) = is_wanted records inst ≡ true

-- ---- what is done

-- a deploy: with its goal no other deployment's link is withdrawn and there is room for it; those instances change that
-- do not stand by what is recorded of each, or all, and the recorded ones that it does not want go
pub record DeploysOver (records : Records) (it : Deploy) (plan : Plan) : Type 0 where
  pub goal : Goal
  pub is : plan.goal ≡ Some goal
  pub given : GivesOver records it (Ok goal)
  pub kept : first_consumer goal records.deployments.places.entries ≡ None
  pub room : lacks_room records it.manifest.name ≡ false
  pub changed : plan.changed ≡ changed_of it.fix goal.rows (rows_at records goal.rows)
  pub obsolete : plan.obsolete ≡ obsolete_of goal records.instances.by_inst.entries

-- a task of one instance
pub record AltersOver (records : Records) (inst : Inst) (change : Change) (plan : Plan) : Type 0 where
  pub goal : Goal
  pub is : plan.goal ≡ Some goal
  pub given : RenewsOver records inst change (Ok goal)

-- a deployment is deleted: no other deployment uses a link of it, and all its recorded instances go
pub record DeletesOver (records : Records) (dep : List ℕ) (plan : Plan) : Type 0 where
  pub kept : first_consumer (nothing dep) records.deployments.places.entries ≡ None
  pub obsolete : plan.obsolete ≡ obsolete_of (nothing dep) records.instances.by_inst.entries

-- all orphaned disks are deleted, by number
abbrev pub CleansUpOver : Records → Plan → Type 0
CleansUpOver records plan = plan.disks ≡ loose records.orphans.places.entries

-- what each ask does; which disk one has deleted, the ask says alone
abbrev pub DoesOver : Records → Ask → Plan → Type 0
DoesOver records (asks.Deploy it) plan = DeploysOver records it plan
DoesOver records (asks.Recreate inst) plan = AltersOver records inst changes.Fresh plan
DoesOver records (asks.Start inst) plan = AltersOver records inst (changes.To Running) plan
DoesOver records (asks.Halt inst hard) plan = AltersOver records inst (halting hard) plan
DoesOver records (asks.DeleteDeployment dep) plan = DeletesOver records dep plan
DoesOver records (asks.DeleteDisk disk) plan = Unit {0}
DoesOver records asks.CleanUp plan = CleansUpOver records plan
DoesOver records (asks.Resolve inst) plan = AltersOver records inst changes.Same plan
