-- When an instance of a group may begin its update (bosh.io, "Deployment manifest", "update": canaries and max_in_flight).
use Rattle.std.specs.Prelude.{◌≡◌, ◌≢◌, ℕ, ◌<◌, ◌⊎◌, Some, All, count_by, slice_get, take}
use Rattle.bosh_roll.specs.declared.group_roll.GroupRoll.{GroupRoll}
use Rattle.bosh_roll.specs.declared.upd.Upd.TheVariants.{Todo, Finished, Failed}
use Rattle.bosh_roll.specs.Upd.{is_busy}

-- the instance at place k waits, none failed, one more in flight is within the limit, and it is a
-- canary or every canary is finished; a canary counts against the limit too (this project's profile)
pub record MayBegin (roll : GroupRoll) (k : ℕ) : Type 0 where
  pub waits : slice_get roll.states k ≡ Some Todo
  pub none_failed : All (λ state. state ≢ Failed) roll.states
  pub below_limit : count_by is_busy roll.states < roll.limit
  pub canaries_first : (k < roll.canaries) ⊎ All (λ state. state ≡ Finished) (take roll.canaries roll.states)
