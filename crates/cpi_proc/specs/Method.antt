-- Methods by their names (bosh.io, "CPI API v1" and "Agent API").
use Rattle.std.specs.Prelude.{ℕ, List, [], ◌∷◌, Option, Some, None, option_and_then, if◌then◌else◌}
use Rattle.std.specs.Str.{bytes_eq}
use Rattle.bosh_base.specs.Method.{name_of}
use Rattle.bosh_base.specs.declared.method.Method.{Method}
use Rattle.serde_json.specs.Data.{Data, string}
use Rattle.serde_json.specs.Find.{as_str}
use Rattle.cpi_wire.specs.Reading.{Reader}
use Rattle.bosh_base.specs.declared.method.TheConstants.{METHODS}

-- a method, by its name
abbrev pub method_data : Method → Data
method_data m = string (name_of m)

-- the first of these methods that has this name
abbrev pub named_of : List Method → List ℕ → Option Method
named_of [] name = None
named_of (m ∷ ms) name = if bytes_eq (name_of m) name then Some m else named_of ms name

-- the method of this name
unfoldable pub named : List ℕ → Option Method
named name = named_of METHODS name

abbrev pub method_from : Reader Method
method_from d = option_and_then named (as_str d)
