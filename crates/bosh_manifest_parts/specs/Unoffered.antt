-- Values that are not offered, or are the one that is (this project's profile).
use Rattle.std.specs.Prelude.{ℕ, Bool, true, false, List, Option, Some, None, Result}
use Rattle.std.specs.Str.{bytes_eq}
use Rattle.bosh_yaml.specs.Tree.{Tree, text}
use Rattle.bosh_fields.specs.Empty.{unless_asked}
use Rattle.bosh_fields.specs.Field.{value_at}
use Rattle.bosh_fields.specs.declared.fault.FieldFault.{FieldFault}

abbrev pub is_none : Option Tree → Bool
is_none None = true
is_none (Some t) = false

-- what is not offered may not be asked for at all
abbrev pub absent : List ℕ → Tree → Result Bool FieldFault
absent key t = unless_asked key (is_none (value_at key t))

-- a text, as this one
abbrev pub is_text : List ℕ → Option Tree → Bool
is_text word (Some (text s)) = bytes_eq s word
is_text word other = false
