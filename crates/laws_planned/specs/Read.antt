-- What a plan reads of the records, as what is known.
use Rattle.std.specs.Prelude.{◌≡◌, ℕ, List}
use Rattle.bosh_asks.specs.Known as asks
use Rattle.bosh_asks.specs.Recorded.{first_consumer}
use Rattle.bosh_base.specs.declared.goal.Goal.{Goal}
use Rattle.bosh_due.specs.Plans.{first_consumer_of, is_in_a_row, lacks_room}
use Rattle.bosh_history.specs.Held.{view}
use Rattle.bosh_history.specs.Known.{Known}
use Rattle.bosh_records.specs.declared.records.Records.{Records}
use Rattle.bosh_views.specs.View.{view_of}
use Rattle.laws_views.specs.Read.{AreReadAsKnown}

pub record ArePlannedOver (k : Known) (records : Records) : Type 0 where
  pub read : AreReadAsKnown k records
  -- what came
  pub releases : records.releases.items ≡ k.releases
  pub stemcells : records.stemcells.items ≡ k.stemcells
  pub config : records.config ≡ k.config
  -- what a goal depends on
  pub views : (dep : List ℕ) → view_of records dep ≡ view k dep
  -- who uses a link that a goal withdraws
  pub consumers : (goal : Goal) → first_consumer goal records.deployments.places.entries ≡ first_consumer_of k goal
  -- whether there may be one more deployment
  pub room : (dep : List ℕ) → asks.lacks_room records dep ≡ lacks_room k dep
  -- whether an instance has a disk
  pub owned : (disk : ℕ) → asks.is_owned records disk ≡ is_in_a_row k disk
