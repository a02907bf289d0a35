-- The fact on migrations, of all its subjects.
use Rattle.std.specs.Prelude.{◌≡◌, ℕ, true, Some}
use Rattle.bosh_history.specs.Moments.{Moment, OpenCall}
use Rattle.laws_facts.specs.OpenCalls.{has_migrated}

-- a migration that was done, and is not answered yet, left both disks with the same contents
abbrev pub HaveMigrated : Moment → Type 0
HaveMigrated m = (n : ℕ) (call : OpenCall) → m.calls n ≡ Some call → has_migrated m call ≡ true
