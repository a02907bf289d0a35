-- The one call that a device in memory fails: the number of calls up to it and with it, or none.
use Rattle.std.specs.Prelude.{◌≡◌, ℕ, ◌-◌, ◌==◌, Bool, false, Option, Some, None, nat_le, if◌then◌else◌}

-- the next call is the one that fails
abbrev pub IsNext : Option ℕ → Type 0
IsNext failing = failing ≡ Some 1

-- whether it is
abbrev pub is_next : Option ℕ → Bool
is_next None = false
is_next (Some calls) = calls == 1

-- after one call more: the failing one is one call nearer, or over
abbrev pub calls_after : Option ℕ → Option ℕ
calls_after None = None
calls_after (Some calls) = if nat_le calls 1 then None else Some (calls - 1)
