-- What contracts see of the simulated cloud.
use Rattle.std.specs.Prelude.{ℕ, Bool, List, Option}
use Rattle.bosh_base.specs.declared.entry.Entry.{Entry}
use Rattle.bosh_fates.specs.declared.fate.Doom.{Doom}

-- its store, what was done to it in order, the fates in the order in which they were set, how many fired, whether its
-- store failed since it was read, and the body that it failed at last
pub record CloudView (L : Type 0) : Type 0 where
  pub store : L
  pub effects : List Entry
  pub dooms : List Doom
  pub fired : ℕ
  pub is_stale : Bool
  pub pending : Option (List ℕ)
