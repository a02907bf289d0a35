-- What follows from the rule of a lock, whatever its state between two steps.
use Rattle.std.specs.Prelude.{◌≡◌, ◌⊎◌, ℕ, ◌^◌, true, List, Option}
use mathlib.Core.Option.{some}
use lib.ListN.{get_elem?}
use Rattle.atomic_table.specs.Table.{State}
use Rattle.bosh_lock.specs.Extends.{Extends}
use Rattle.bosh_lock.specs.Grows.{Grows, shares}
use Rattle.bosh_lock.specs.declared.rule.View.{View}

module _ {S I : Type 0} (items_of : S → List I) where
  -- the shares of all passes and turns are 2^32, with those that were dropped
  abbrev pub IsWhole : Type 0
  IsWhole = (s : State (Option S) (View I)) → Grows items_of s → shares s.views ≡ 2 ^ 32

  -- at most one has the slot
  abbrev pub HasOneHolder : Type 0
  HasOneHolder = (s : State (Option S) (View I)) → Grows items_of s → (i j : ℕ) (v w : View I)
      → get_elem? s.views i ≡ some v → get_elem? s.views j ≡ some w → v.holds ≡ true → w.holds ≡ true → i ≡ j

  -- of what any two have seen, one extends the other
  abbrev pub HasOneList : Type 0
  HasOneList = (s : State (Option S) (View I)) → Grows items_of s → (i j : ℕ) (v w : View I)
      → get_elem? s.views i ≡ some v → get_elem? s.views j ≡ some w → Extends v.seen w.seen ⊎ Extends w.seen v.seen
