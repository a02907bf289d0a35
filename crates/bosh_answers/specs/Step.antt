-- One step after another, up to the first fault.
use Rattle.std.specs.Prelude.{Result, Ok, Err}

-- the next step, where there is no fault so far
infixl 10 ◌>>=◌
abbrev pub ◌>>=◌ : {A B E : Type 0} → Result A E → (A → Result B E) → Result B E
(Ok value) >>= next = next value
(Err fault) >>= next = Err fault
