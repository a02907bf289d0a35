-- What came so far: the uploads, and how many tasks and calls.
use Rattle.std.specs.Prelude.{ℕ, List, Option}
use Rattle.bosh_base.specs.declared.release.Release.{Release}
use Rattle.bosh_base.specs.declared.stemcell.Stemcell.{Stemcell}
use Rattle.bosh_records.specs.declared.records.Records.{Records}

pub record Arrivals : Type 0 where
  pub releases : List Release
  pub stemcells : List Stemcell
  pub config : Option (List ℕ)
  pub opened : ℕ
  pub last_call : ℕ

abbrev pub arrivals : Records → Arrivals
arrivals records = record {
  releases = records.releases.items;
  stemcells = records.stemcells.items;
  config = records.config;
  opened = records.opened;
  last_call = records.last_call;
}
