-- Reading values from JSON values.
--
-- A file of these specs has three words for each type, here of the name `thing`: `thing_data`, the JSON value that stands for a
-- value of the type; `is_thing`, whether a value is one that its type can hold; `thing_from`, the value that a JSON value stands for.
use Rattle.std.specs.Prelude.{◌≡◌, Bool, Option, Some, None, Result, Ok, Err, if◌then◌else◌}
use Rattle.serde_json.specs.Data.{Data}
use Rattle.cpi_wire.specs.declared.fault.WireFault.{WireFault}
use Rattle.cpi_wire.specs.declared.fault.WireFault.TheVariants.{NotAValue, Memory}

infixl 10 ◌>>=◌
abbrev pub ◌>>=◌ : {A B : Type 0} → Option A → (A → Option B) → Option B
None >>= f = None
(Some a) >>= f = f a

-- the value that a JSON value stands for, where it stands for one
abbrev pub Reader : Type 0 → Type 0
Reader A = Data → Option A

-- what a function answers is what was read, unless memory ran out
abbrev pub Gives : {A : Type 0} → Result A WireFault → Option A → Type 0
Gives (Ok a) read = read ≡ Some a
Gives (Err NotAValue) read = read ≡ None
Gives (Err Memory) read = Unit {0}

-- a value that meets a test
abbrev pub only : {A : Type 0} → (A → Bool) → Option A → Option A
only test None = None
only test (Some a) = if test a then Some a else None
