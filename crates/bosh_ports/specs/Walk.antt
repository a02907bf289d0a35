-- A walk over the folders below one: how many are still to be read, and how many it has met, those included.
use Rattle.std.specs.Prelude.{◌≡◌, ℕ, ◌+◌, ◌≤◌}

pub record WalkState : Type 0 where
  pub pending : ℕ
  pub met : ℕ

-- some folders were met, if any, and each of them is still to be read; all in all they are no more than the paths that a
-- shelf lists
pub record GoesOn (was now : WalkState) : Type 0 where
  pub met : was.met ≤ now.met
  pub most : now.met ≤ 4096
  pub pending : now.pending + was.met ≡ was.pending + now.met
