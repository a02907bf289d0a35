-- Why a task does not open.
use Rattle.std.specs.Prelude.{◌≡◌, ℕ, List, Option, Some, Err}
use Rattle.bosh_base.specs.declared.goal.Goal.{Goal}
use Rattle.bosh_base.specs.declared.inst.Inst.{Inst}
use Rattle.bosh_base.specs.declared.link.Joint.{Joint}
use Rattle.bosh_base.specs.declared.release.Release.{Release}
use Rattle.bosh_base.specs.declared.snapshot.DepRow.{DepRow}
use Rattle.bosh_base.specs.declared.state.State.TheVariants.{Running}
use Rattle.bosh_records.specs.declared.records.Since.{Since}
use Rattle.bosh_goal.specs.declared.change.Change.{Change}
use Rattle.bosh_goal.specs.declared.change.Change.TheVariants as changes
use Rattle.bosh_asks.specs.Asked.{halting}
use Rattle.bosh_asks.specs.Goals.{AreSound, Gives, Renews}
use Rattle.bosh_asks.specs.Recorded.{first_consumer}
use Rattle.bosh_asks.specs.declared.ask.Ask.{Ask}
use Rattle.bosh_asks.specs.declared.ask.Ask.TheVariants as asks
use Rattle.bosh_asks.specs.declared.ask.Deploy.{Deploy}
use Rattle.bosh_asks.specs.declared.fault.BookFault.{BookFault}
use Rattle.bosh_asks.specs.declared.fault.BookFault.TheVariants.{Locked, Differs, NoDeployment, NoInstance, NoDisk}
use Rattle.bosh_asks.specs.declared.fault.BookFault.TheVariants.{NotOrphaned, Consumed, Limit, Memory}
use Rattle.bosh_asks.specs.declared.fault.BookFault.TheVariants as faults

-- some releases are no good
abbrev pub SomeUnsound : Type 0
SomeUnsound = (releases : List Release) × (¬ AreSound releases)

-- another deployment uses a link that a goal of the deployment withdraws: this is the first consumer
pub record IsConsumed (dep : List ℕ) (by : Joint) : Type 0 where
  pub goal : Goal
  pub rows : List (Since × Option DepRow)
  pub of_dep : goal.dep ≡ dep
  pub first : first_consumer goal rows ≡ Some by

-- a goal is not taken up
abbrev pub RefusesGoal : Goal → BookFault → Type 0
RefusesGoal goal (Consumed by) = IsConsumed goal.dep by
RefusesGoal goal Limit = Unit {0}
RefusesGoal goal Memory = Unit {0}
RefusesGoal goal fault = ⊥

abbrev pub RefusesDeploy : Deploy → BookFault → Type 0
RefusesDeploy it (Locked task) = Unit {0}
RefusesDeploy it (Differs name) = SomeUnsound
RefusesDeploy it (faults.Goal fault) = Gives it (Err fault)
RefusesDeploy it (Consumed by) = IsConsumed it.manifest.name by
RefusesDeploy it Limit = Unit {0}
RefusesDeploy it Memory = Unit {0}
RefusesDeploy it fault = ⊥

abbrev pub RefusesChange : Inst → Change → BookFault → Type 0
RefusesChange inst change (Locked task) = Unit {0}
RefusesChange inst change (NoDeployment name) = name ≡ inst.dep
RefusesChange inst change (NoInstance other) = other ≡ inst
RefusesChange inst change (faults.Goal fault) = Renews inst change (Err fault)
RefusesChange inst change Memory = Unit {0}
RefusesChange inst change fault = ⊥

abbrev pub RefusesDeletion : List ℕ → BookFault → Type 0
RefusesDeletion dep (Locked task) = Unit {0}
RefusesDeletion dep (NoDeployment name) = name ≡ dep
RefusesDeletion dep (Consumed by) = IsConsumed dep by
RefusesDeletion dep Memory = Unit {0}
RefusesDeletion dep fault = ⊥

abbrev pub RefusesDisk : ℕ → BookFault → Type 0
RefusesDisk disk (Locked task) = Unit {0}
RefusesDisk disk (NoDisk other) = other ≡ disk
RefusesDisk disk (NotOrphaned other) = other ≡ disk
RefusesDisk disk Memory = Unit {0}
RefusesDisk disk fault = ⊥

abbrev pub RefusesCleanUp : BookFault → Type 0
RefusesCleanUp (Locked task) = Unit {0}
RefusesCleanUp Memory = Unit {0}
RefusesCleanUp fault = ⊥

-- the refusals that what is asked may meet
abbrev pub MayRefuse : Ask → BookFault → Type 0
MayRefuse (asks.Deploy it) fault = RefusesDeploy it fault
MayRefuse (asks.Recreate inst) fault = RefusesChange inst changes.Fresh fault
MayRefuse (asks.Start inst) fault = RefusesChange inst (changes.To Running) fault
MayRefuse (asks.Halt inst hard) fault = RefusesChange inst (halting hard) fault
MayRefuse (asks.DeleteDeployment dep) fault = RefusesDeletion dep fault
MayRefuse (asks.DeleteDisk disk) fault = RefusesDisk disk fault
MayRefuse asks.CleanUp fault = RefusesCleanUp fault
MayRefuse (asks.Resolve inst) fault = RefusesChange inst changes.Same fault
