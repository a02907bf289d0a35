-- Words that the facts are said with.
use Rattle.std.specs.Prelude.{Bool, true, false, ◌&&◌, Option, Some, None, List, [], ◌∷◌}
use Rattle.std.specs.declared.cmp.Ordering.{Ordering}
use Rattle.std.specs.declared.cmp.Ordering.TheVariants.{Less}
use Rattle.bosh_base.specs.contracts.call.CallPartialEq.TheImpl as call
use Rattle.bosh_base.specs.declared.call.Call.{Call}

-- where the first holds, the second does
abbrev pub implies : Bool → Bool → Bool
implies true b = b
implies false b = true

-- where there is a value, it meets the test
abbrev pub where_any : {A : Type 0} → (A → Bool) → Option A → Bool
where_any test (Some a) = test a
where_any test None = true

-- there is a value, and it meets the test
abbrev pub is_some_with : {A : Type 0} → (A → Bool) → Option A → Bool
is_some_with test (Some a) = test a
is_some_with test None = false

-- the test of equal calls
abbrev pub same_call : Call → Call → Bool
same_call = call.ghosts.eq

-- the first of the two comes before the other
abbrev pub is_before : Ordering → Bool
is_before Less = true
is_before ordering = false

-- the item comes before the first of the list
abbrev pub is_below : {A : Type 0} → (A → A → Ordering) → A → List A → Bool
is_below cmp a [] = true
is_below cmp a (b ∷ items) = is_before (cmp a b)

-- each item comes after the one before it, so none stands twice
abbrev pub are_ascending : {A : Type 0} → (A → A → Ordering) → List A → Bool
are_ascending cmp [] = true
are_ascending cmp (a ∷ items) = is_below cmp a items && are_ascending cmp items
