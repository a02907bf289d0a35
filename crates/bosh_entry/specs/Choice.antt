-- How truth values and options are spelled (this project's profile): 0 or 1, and after the 1 of an option its value.
use Rattle.std.specs.Prelude.{ℕ, Bool, true, false, List, [], ◌∷◌, Option, Some, None}
use Rattle.bosh_entry.specs.Reading.{Reader, making, ◌with◌, one_of_at}

-- a truth value
abbrev pub flag : Bool → List ℕ
flag false = 0 ∷ []
flag true = 1 ∷ []

abbrev pub is_flag : Bool → Bool
is_flag b = true

abbrev pub flags : List (Reader Bool)
flags = making false ∷ making true ∷ []

unfoldable pub flag_at : Reader Bool
flag_at = one_of_at flags

-- a value, or none
abbrev pub option : {A : Type 0} → (A → List ℕ) → Option A → List ℕ
option spelling None = 0 ∷ []
option spelling (Some a) = 1 ∷ spelling a

abbrev pub is_option : {A : Type 0} → (A → Bool) → Option A → Bool
is_option test None = true
is_option test (Some a) = test a

abbrev pub options : {A : Type 0} → Reader A → List (Reader (Option A))
options reader = making None ∷ making Some with reader ∷ []

unfoldable pub option_at : {A : Type 0} → Reader A → Reader (Option A)
option_at reader = one_of_at (options reader)
