-- The JSON value of a text (RFC 8259, as `serde_json` reads it: of a key that stands twice the last value counts).
use Rattle.std.specs.Prelude.{◌≡◌, ℕ, List, Option, Some, None, Result, Ok, Err, if◌then◌else◌}
use Rattle.std.specs.Str.{is_utf8}
use Rattle.serde_json.specs.Data.{Data}
use Rattle.serde_json.specs.Read.{read}
use Rattle.serde_json.specs.View.{view}
use Rattle.serde_json.specs.declared.value.Value.{Value}
use Rattle.cpi_wire.specs.declared.fault.WireFault.{WireFault}
use Rattle.cpi_wire.specs.declared.fault.WireFault.TheVariants.{NotAValue, Memory}

-- the value of a text that is UTF-8, nests at most 127 arrays and objects, and is JSON
unfoldable pub json_of : List ℕ → Option Data
json_of text = if is_utf8 text then read text else None

-- a value that a function answers is that of the text, unless memory ran out
abbrev pub GivesValue : Result Value WireFault → Option Data → Type 0
GivesValue (Ok value) read = read ≡ Some (view value)
GivesValue (Err NotAValue) read = read ≡ None
GivesValue (Err Memory) read = Unit {0}
