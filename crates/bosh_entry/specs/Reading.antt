-- Reading values from the front of a list of bytes, one after the other.
--
-- A file of these specs has three words for each type, here of the name `thing`: `thing`, the bytes that a value is spelled by;
-- `is_thing`, whether a value has a spelling, as a number that its type can hold has; `thing_at`, the value that the next bytes
-- spell. A word for the type in the plural lists the readers of its variants, in the order of their places.
use Rattle.std.specs.Prelude.{◌≡◌, ℕ, suc, Bool, List, [], ◌∷◌, Option, Some, None, Result, Ok, Err, ◌==◌, ◌<◌, get_or, if◌then◌else◌}
use Rattle.bosh_entry.specs.declared.fault.EntryFault.{EntryFault}
use Rattle.bosh_entry.specs.declared.fault.EntryFault.TheVariants.{NotAnEntry, Memory}

-- each is a byte
abbrev pub IsBytes : List ℕ → Type 0
IsBytes bytes = (i : ℕ) → get_or bytes i 0 < 256

infixl 10 ◌>>=◌
abbrev pub ◌>>=◌ : {A B : Type 0} → Option A → (A → Option B) → Option B
None >>= f = None
(Some a) >>= f = f a

-- the value at the front of bytes, with the bytes after it
abbrev pub Reader : Type 0 → Type 0
Reader A = List ℕ → Option (A × List ℕ)

-- What a function read, and the bytes that it left, are what a reader gives, unless memory ran out.
abbrev pub Gives : {A : Type 0} → Result A EntryFault → List ℕ → Option (A × List ℕ) → Type 0
Gives (Ok a) rest read = read ≡ Some (a, rest)
Gives (Err NotAnEntry) rest read = read ≡ None
Gives (Err Memory) rest read = Unit {0}

-- the first byte
abbrev pub byte_at : Reader ℕ
byte_at [] = None
byte_at (b ∷ rest) = Some (b, rest)

-- a value that is made of the fields that are read after it
abbrev pub making : {A : Type 0} → A → Reader A
making make bytes = Some (make, bytes)

-- what is made, with its next field
infixl 70 ◌with◌
abbrev pub ◌with◌ : {A B : Type 0} → Reader (A → B) → Reader A → Reader B
◌with◌ reader next bytes = do
  make ← reader bytes
  field ← next make.1
  Some (make.0 field.0, field.1)

-- a value that meets a test
abbrev pub only_at : {A : Type 0} → (A → Bool) → Reader A → Reader A
only_at test reader bytes = do
  a ← reader bytes
  if test a.0 then Some a else None

-- the variant at a place, where the first has the place `from`
abbrev pub variant_at : {A : Type 0} → ℕ → List (Reader A) → ℕ → Reader A
variant_at from [] place bytes = None
variant_at from (reader ∷ readers) place bytes = if place == from then reader bytes else variant_at (suc from) readers place bytes

-- the place of a variant, and the variant
abbrev pub one_of_at : {A : Type 0} → List (Reader A) → Reader A
one_of_at readers bytes = do
  place ← byte_at bytes
  variant_at 0 readers place.0 place.1
