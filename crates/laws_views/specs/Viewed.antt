-- What a view of the records needs, beside the facts of a moment, to say what is known.
use Rattle.std.specs.Prelude.{◌≡◌, ◌≤◌, ℕ, List, [], None, length}
use Rattle.bosh_history.specs.Items.{slots_of}
use Rattle.bosh_history.specs.Known.{Known}

pub record CanBeViewed (k : Known) : Type 0 where
  -- no deployment has the empty name, which a task of none would be of
  pub named : k.goal [] ≡ None
  -- each slot of a current goal has a number of 32 bits
  pub numbered : (dep : List ℕ) → length (slots_of (k.goal dep)) ≤ 4294967296
