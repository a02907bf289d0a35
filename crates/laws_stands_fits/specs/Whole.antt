-- All that is kept of what is recorded, from entry to entry.
use Rattle.bosh_records.specs.Recorded.{recorded}
use Rattle.bosh_records.specs.declared.records.Records.{Records}
use Rattle.laws_stands.specs.Stands.{Stands}
use Rattle.laws_stands.specs.Told.{Told}
use Rattle.laws_stands_fits.specs.Fits.{Fits}
use Rattle.laws_stands_fits.specs.Own.{TellsOwn}

-- it stands for what is told and fits it, and what is told of tasks that have not ended is of their deployments
pub record StandsWhole (told : Told) (records : Records) : Type 0 where
  pub stands : Stands told records
  pub fits : Fits told (recorded records)
  pub own : TellsOwn told
