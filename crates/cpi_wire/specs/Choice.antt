-- Truth values and options in JSON (this project's profile): an option is null, or its value.
use Rattle.std.specs.Prelude.{Bool, true, Option, Some, None, option_map}
use Rattle.serde_json.specs.Data.{Data, null, boolean, number, string, array, object}
use Rattle.serde_json.specs.Find.{as_bool}
use Rattle.cpi_wire.specs.Reading.{Reader}

-- a truth value
abbrev pub flag_data : Bool → Data
flag_data b = boolean b

abbrev pub is_flag : Bool → Bool
is_flag b = true

abbrev pub flag_from : Reader Bool
flag_from d = as_bool d

-- a value, or none
abbrev pub option_data : {A : Type 0} → (A → Data) → Option A → Data
option_data image None = null
option_data image (Some a) = image a

abbrev pub is_option : {A : Type 0} → (A → Bool) → Option A → Bool
is_option test None = true
is_option test (Some a) = test a

abbrev pub option_from : {A : Type 0} → Reader A → Reader (Option A)
option_from reader null = Some None
option_from reader (boolean b) = option_map Some (reader (boolean b))
option_from reader (number n) = option_map Some (reader (number n))
option_from reader (string s) = option_map Some (reader (string s))
option_from reader (array ds) = option_map Some (reader (array ds))
option_from reader (object ms) = option_map Some (reader (object ms))
