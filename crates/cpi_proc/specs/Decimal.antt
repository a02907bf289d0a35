-- Numbers in texts: decimals with no sign and no leading zero (this project's profile).
use Rattle.std.specs.Prelude.{ℕ, ◌&&◌, List, Option, Some, None, decimal, if◌then◌else◌}
use Rattle.std.specs.Str.{bytes_eq}
use Rattle.std.specs.Str.Parse.{digits_value}
use Rattle.cpi_wire.specs.Number.{is_number, is_small}
use Rattle.cpi_wire.specs.Reading.{only}

-- the number of 64 bits that a text spells in decimal, with no sign and no leading zero
unfoldable pub number_in : List ℕ → Option ℕ
number_in text = let n = digits_value 10 text in if is_number n && bytes_eq (decimal n) text then Some n else None

-- the same of 32 bits
abbrev pub small_in : List ℕ → Option ℕ
small_in text = only is_small (number_in text)
