-- The goals that tasks open with.
use Rattle.std.specs.Prelude.{◌≡◌, ℕ, Bool, true, false, List, [], Option, Some, None, Result, Ok, Err, All}
use Rattle.std.specs.Option.{option_and_then}
use Rattle.bosh_alike.specs.Alike.{AreAlike}
use Rattle.bosh_base.specs.declared.goal.Goal.{Goal}
use Rattle.bosh_base.specs.declared.inst.Inst.{Inst}
use Rattle.bosh_base.specs.declared.release.Release.{Release}
use Rattle.bosh_base.specs.declared.stemcell.Stemcell.{Stemcell}
use Rattle.bosh_base.specs.declared.view.View.{View}
use Rattle.bosh_cloudcfg.specs.Check.{config_of_tree}
use Rattle.bosh_cloudcfg.specs.declared.config.Config.{Config}
use Rattle.bosh_cloudcfg.specs.declared.fault.ConfigFault.{ConfigFault}
use Rattle.bosh_cloudcfg.specs.declared.fault.ConfigFault.TheVariants.{Memory}
use Rattle.bosh_goal.specs.Anew.{anew}
use Rattle.bosh_goal.specs.Goal.{IsGoal}
use Rattle.bosh_goal.specs.declared.change.Change.{Change}
use Rattle.bosh_release.specs.Sound.{IsSound}
use Rattle.bosh_manifest_names.specs.Answer.{IsAnswer}
use Rattle.bosh_manifest_names.specs.declared.fault.GoalFault.{GoalFault}
use Rattle.bosh_yaml.specs.Reading.{reading}
use Rattle.bosh_yaml.specs.Tree.{Tree}
use Rattle.bosh_yaml.specs.declared.fault.ReadFault.{ReadFault}
use Rattle.bosh_asks.specs.Changed.{is_in}
use Rattle.bosh_asks.specs.declared.ask.Deploy.{Deploy}

-- ---- the cloud config

abbrev pub if_checked : {A : Type 0} → Result A ConfigFault → Option A
if_checked (Ok value) = Some value
if_checked (Err fault) = None

abbrev pub if_read : Result Tree ReadFault → Option Config
if_read (Ok tree) = if_checked (config_of_tree tree)
if_read (Err fault) = None

abbrev pub is_memory : Result Config ConfigFault → Bool
is_memory (Err Memory) = true
is_memory answer = false

-- the cloud config that bytes spell, where they spell one
abbrev pub config_in : List ℕ → Option Config
config_in file = if_read (reading file)

-- .. where there is a file
abbrev pub recorded_config : Option (List ℕ) → Option Config
recorded_config file = option_and_then config_in file

-- ---- goals

-- releases that a goal may be made from
abbrev pub AreSound : List Release → Type 0
AreSound releases = All IsSound releases × AreAlike releases

-- what is recorded that a goal is made from
pub record Sources : Type 0 where
  pub releases : List Release
  pub stemcells : List Stemcell
  pub file : Option (List ℕ)
  pub view : View

-- the manifest's goal over what is recorded, or why there is none
pub record Gives (it : Deploy) (answer : Result Goal GoalFault) : Type 0 where
  pub from : Sources
  pub sound : AreSound from.releases
  pub goal :
      IsGoal it.manifest (recorded_config from.file) from.releases from.stemcells from.view it.recreate answer

-- a current goal, which wants the instance, with that one changed, or why there is none
pub record Renews (inst : Inst) (change : Change) (answer : Result Goal GoalFault) : Type 0 where
  pub current : Goal
  pub file : Option (List ℕ)
  pub view : View
  pub wanted : is_in current inst ≡ true
  pub goal : IsAnswer answer (anew inst change (recorded_config file) view current)

-- a goal without instances
abbrev pub nothing : List ℕ → Goal
nothing dep = record { dep = dep; rows = []; groups = []; ties = []; keys = []; slots = []; offers = [] }
