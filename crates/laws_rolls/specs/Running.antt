-- The rolling update of a group as it runs, beside the one that is shown.
use Rattle.std.specs.Prelude.{◌≡◌, ◌&&◌, ℕ, Bool, List, false, map, slice_index_or}
use Rattle.bosh_history.specs.Goals.{canaries_of, changed_in, is_waiting, limit_of}
use Rattle.bosh_history.specs.Known.{Task}
use Rattle.bosh_progress.specs.Rolling.{is_allowed}
use Rattle.bosh_progress.specs.declared.rolling.Rolling.{Rolling}
use Rattle.bosh_roll.specs.Upd.{is_busy}
use Rattle.bosh_roll.specs.declared.group_roll.GroupRoll.{GroupRoll}
use Rattle.laws_stands.specs.GroupsStand.{plan_named}

-- the one that runs has the same canaries and the same limit, and its marks are those of the instances
pub record IsRunning (roll : GroupRoll) (it : Rolling) : Type 0 where
  pub canaries_are : it.canaries ≡ roll.canaries
  pub limit_is : it.limit ≡ roll.limit
  pub waiting_are : it.waiting ≡ map is_waiting roll.states
  pub busy_are : it.busy ≡ map is_busy roll.states

-- the instance at a place waits, and its update is allowed
abbrev pub is_next : Rolling → ℕ → Bool
is_next it place = slice_index_or it.waiting place false && is_allowed it place

-- the update of a group of a task, with how far each of its changed instances has come
abbrev pub roll_of : Task → List ℕ → GroupRoll
roll_of t group = record {
  canaries = canaries_of t (plan_named t.goal group);
  limit = limit_of t (plan_named t.goal group);
  states = map t.upd (changed_in t group);
}
