-- What contracts see of a journal.
use Rattle.std.specs.Prelude.{Bool, List, Option}
use Rattle.bosh_base.specs.declared.entry.Entry.{Entry}

-- what a store was given and did not answer: an entry at the end, or one that stands alone, in the place of all
pub record Pending : Type 0 where
  pub entry : Entry
  pub is_alone : Bool

-- its store, its entries in order, whether it is to be reloaded before anything is appended, and what its store failed at
-- last
pub record JournalView (K : Type 0) : Type 0 where
  pub store : K
  pub entries : List Entry
  pub is_broken : Bool
  pub pending : Option Pending
