-- Things that are numbered from 1 on as they are made: a list with a slot for each number, which is empty where the
-- thing is gone.
use Prim.Native.Nat.{zero, suc}
use Rattle.std.specs.Prelude.{ℕ, ◌-◌, List, Option, None, slice_get, slice_set}
use Rattle.std.specs.Option.{option_flatten}

-- the thing of a number, where it is there
abbrev pub at : {T : Type 0} → List (Option T) → ℕ → Option T
at slots zero = None
at slots (suc k) = option_flatten (slice_get slots k)

-- the slots where that of a number holds this
abbrev pub with_slot : {T : Type 0} → List (Option T) → ℕ → Option T → List (Option T)
with_slot slots number thing = slice_set slots (number - 1) thing
