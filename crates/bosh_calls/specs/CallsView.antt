-- What contracts see of the open calls.
use Rattle.std.specs.Prelude.{ℕ, List}
use Rattle.bosh_calls.specs.declared.calls.OpenCall.{OpenCall}

-- the calls that are open, in the order in which they began, and how many more need no memory
pub record CallsView : Type 0 where
  pub unsettled : List OpenCall
  pub free : ℕ
