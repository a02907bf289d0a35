-- Values that ask for nothing, under keys that would ask for what is not offered (this project's profile).
use Rattle.std.specs.Prelude.{ℕ, Bool, true, false, List, [], Option, Some, None, Result, Ok, Err, if◌then◌else◌}
use Rattle.bosh_yaml.specs.Tree.{Tree, text, list, map, no_trees, no_fields}
use Rattle.bosh_fields.specs.Field.{value_at}
use Rattle.bosh_fields.specs.declared.fault.FieldFault.{FieldFault}
use Rattle.bosh_fields.specs.declared.fault.FieldFault.TheVariants.{Unsupported}

-- nothing stands there, or an empty text, list or mapping
abbrev pub is_empty : Option Tree → Bool
is_empty None = true
is_empty (Some (text [])) = true
is_empty (Some (list no_trees)) = true
is_empty (Some (map no_fields)) = true
is_empty (Some t) = false

-- a value that asks for nothing, or else the key is not supported
abbrev pub unless_asked : List ℕ → Bool → Result Bool FieldFault
unless_asked key asks_nothing = if asks_nothing then Ok true else Err (Unsupported key)

-- what is not offered may be asked for by an empty value alone
abbrev pub nothing_at : List ℕ → Tree → Result Bool FieldFault
nothing_at key t = unless_asked key (is_empty (value_at key t))
