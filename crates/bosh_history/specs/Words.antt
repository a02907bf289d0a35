-- Lists and functions in which one thing changes, and tests of lists.
use Prim.Native.Nat.{zero, suc}
use Rattle.std.specs.Prelude.{ℕ, Bool, false, Option, Some, None, List, [], ◌∷◌, ◌++◌, if◌then◌else◌}
use Rattle.std.specs.List.{list_any}
use Rattle.std.specs.declared.cmp.Ordering.{Ordering}
use Rattle.std.specs.declared.cmp.Ordering.TheVariants.{Less, Equal, Greater}

-- a function with one value changed
abbrev pub at : {K X : Type 0} → (K → K → Bool) → K → X → (K → X) → K → X
at same k x f other = if same k other then x else f other

-- the item is one of the list
abbrev pub is_among : {A : Type 0} → (A → A → Bool) → A → List A → Bool
is_among same a items = list_any (same a) items

-- the items but one
abbrev pub without : {A : Type 0} → (A → A → Bool) → A → List A → List A
without same a [] = []
without same a (b ∷ items) = if same a b then without same a items else b ∷ without same a items

abbrev pub by_order : {A : Type 0} → Ordering → A → A → A → A
by_order Less less equal greater = less
by_order Equal less equal greater = equal
by_order Greater less equal greater = greater

-- The item at its place in a list in order; one that is equal to it goes.
abbrev pub inserted : {A : Type 0} → (A → A → Ordering) → A → List A → List A
inserted cmp a [] = a ∷ []
inserted cmp a (b ∷ items) = by_order (cmp a b) (a ∷ b ∷ items) (a ∷ items) (b ∷ inserted cmp a items)

-- the items, each at its place in a list in order
abbrev pub all_inserted : {A : Type 0} → (A → A → Ordering) → List A → List A → List A
all_inserted cmp [] items = items
all_inserted cmp (a ∷ more) items = all_inserted cmp more (inserted cmp a items)

-- the numbers below n, from 0 on
abbrev pub numbers_below : ℕ → List ℕ
numbers_below zero = []
numbers_below (suc n) = numbers_below n ++ n ∷ []

-- there is a value, and it meets the test
abbrev pub holds : {A : Type 0} → (A → Bool) → Option A → Bool
holds test (Some a) = test a
holds test None = false
