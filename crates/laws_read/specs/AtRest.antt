-- What is told where nothing is under way.
use Rattle.std.specs.Prelude.{◌≡◌, ◌≤◌, ℕ, Some}
use Rattle.bosh_base.specs.declared.entry.Begin.{Begin}
use Rattle.bosh_history.specs.Known.{Known}
use Rattle.bosh_records.specs.Recorded.{recorded}
use Rattle.bosh_records.specs.declared.records.Records.{Records}
use Rattle.laws_stands.specs.Told.{Told}
use Rattle.laws_stands_fits.specs.Whole.{StandsWhole}
use Rattle.laws_stands_snapshots.specs.Built.{BuiltStand}

-- whatever a snapshot told, and whatever calls stand open by it, is of tasks that were opened
pub record IsToldAtRest (told : Told) : Type 0 where
  pub snapped : told.snapped ≤ told.known.tasks
  pub opened : (n : ℕ) (b : Begin) → told.calls n ≡ Some b → b.task ≤ told.known.tasks

-- this is told, and the records stand for it and fit it
pub record StandsAtRest (known : Known) (records : Records) : Type 0 where
  pub told : Told
  pub known_is : told.known ≡ known
  pub whole : StandsWhole told records
  pub at_rest : IsToldAtRest told
  -- .. and what is recorded of compiled keys stands for what is listed of them
  pub built : BuiltStand told.known.built (recorded records)
