-- The order of numbers of tasks and calls.
use Rattle.std.specs.Prelude.{ℕ, Bool, ◌+◌, ◌==◌}

-- a number is the next after another
abbrev pub is_next : ℕ → ℕ → Bool
is_next number last = number == last + 1
