-- Why a task does not open, by the records that are given.
use Rattle.std.specs.Prelude.{◌≡◌, ℕ, true, false, List, Option, Some, None, Result, Ok, Err}
use Rattle.std.specs.Option.{option_map_or}
use Rattle.bosh_base.specs.declared.goal.Goal.{Goal}
use Rattle.bosh_base.specs.declared.link.Joint.{Joint}
use Rattle.bosh_records.specs.declared.records.Records.{Records}
use Rattle.bosh_manifest_names.specs.declared.fault.GoalFault.{GoalFault}
use Rattle.bosh_asks.specs.Faults.{of_goal, unsound}
use Rattle.bosh_asks.specs.Goals.{AreSound}
use Rattle.bosh_asks.specs.Known.{is_orphaned, is_owned, is_recorded, is_wanted, lacks_room, lock_holder}
use Rattle.bosh_asks.specs.Recorded.{first_consumer}
use Rattle.bosh_asks.specs.declared.fault.BookFault.{BookFault}
use Rattle.bosh_asks.specs.declared.fault.BookFault.TheVariants.{Locked, Differs, NoDeployment, NoInstance, NoDisk}
use Rattle.bosh_asks.specs.declared.fault.BookFault.TheVariants.{NotOrphaned, Consumed, Limit}
use Rattle.bosh_asks.specs.declared.fault.BookFault.TheVariants as faults

-- the first consumer, over the recorded deployments, of a link that the goal withdraws
pub record IsConsumer (records : Records) (Goals : Result Goal GoalFault → Type 0) (by : Joint) : Type 0 where
  pub goal : Goal
  pub given : Goals (Ok goal)
  pub first : first_consumer goal records.deployments.places.entries ≡ Some by

-- the goal withdraws no link that others use, and there would be too many deployments with it
pub record ExceedsLimit (records : Records) (dep : Option (List ℕ)) (Goals : Result Goal GoalFault → Type 0) : Type 0
  where
    pub goal : Goal
    pub given : Goals (Ok goal)
    pub unused : first_consumer goal records.deployments.places.entries ≡ None
    pub full : option_map_or (lacks_room records) dep false ≡ true

-- no open task has the lock, and the recorded releases, of which the last is named, are no good
pub record AreUnsound (records : Records) (dep : Option (List ℕ)) (name : List ℕ) : Type 0 where
  pub free : lock_holder records dep ≡ None
  pub bad : ¬ AreSound records.releases.items
  pub told : unsound records.releases.items ≡ Differs name

-- there is no goal, for another cause than want of memory
pub record HasNoGoal (Goals : Result Goal GoalFault → Type 0) (fault : GoalFault) : Type 0 where
  pub why : Goals (Err fault)
  pub told : of_goal fault ≡ faults.Goal fault

-- each refusal of what is asked of a deployment, or of disks, is the first in their order that the records give a cause
-- for: what is named is not there; an open task has the lock; the releases are no good; there is no goal; a link is
-- withdrawn; there would be too many deployments. That it is there, and what goals there are, or why none, the ask says.
-- Want of memory may come at any time
abbrev pub IsCause : Records → Type 0 → Option (List ℕ) → (Result Goal GoalFault → Type 0) → BookFault → Type 0
IsCause records Named dep Goals (Locked task) = Named × (lock_holder records dep ≡ Some task)
IsCause records Named dep Goals (Differs name) = AreUnsound records dep name
IsCause records Named dep Goals (NoDeployment name) = is_recorded records name ≡ false
IsCause records Named dep Goals (NoInstance inst) =
    (is_recorded records inst.dep ≡ true) × (is_wanted records inst ≡ false)
IsCause records Named dep Goals (NoDisk disk) = (is_orphaned records disk ≡ false) × (is_owned records disk ≡ false)
IsCause records Named dep Goals (NotOrphaned disk) =
    (is_orphaned records disk ≡ false) × (is_owned records disk ≡ true)
IsCause records Named dep Goals (faults.Goal fault) =
    Named × (lock_holder records dep ≡ None) × HasNoGoal Goals fault
IsCause records Named dep Goals (Consumed by) =
    Named × (lock_holder records dep ≡ None) × IsConsumer records Goals by
IsCause records Named dep Goals Limit = (lock_holder records dep ≡ None) × ExceedsLimit records dep Goals
IsCause records Named dep Goals fault = Unit {0}
