-- Values at the keys of a mapping. What is no mapping has no key, and a key whose value is null counts as absent.
use Rattle.std.specs.Prelude.{ℕ, List, Option, Some, None, Result, Ok, Err}
use Rattle.bosh_yaml.specs.Keys.{value_of_key}
use Rattle.bosh_yaml.specs.Tree.{Tree, null}
use Rattle.bosh_fields.specs.Answer.{◌>>=◌}
use Rattle.bosh_fields.specs.Kind.{Kind}
use Rattle.bosh_fields.specs.declared.fault.FieldFault.{FieldFault}
use Rattle.bosh_fields.specs.declared.fault.FieldFault.TheVariants.{Missing}

-- null counts as absent
abbrev pub unless_null : Option Tree → Option Tree
unless_null None = None
unless_null (Some null) = None
unless_null (Some t) = Some t

-- the value at a key
abbrev pub value_at : List ℕ → Tree → Option Tree
value_at key holder = unless_null (value_of_key key holder)

abbrev pub required_value : {A : Type 0} → Kind A → List ℕ → Option Tree → Result A FieldFault
required_value kind key None = Err (Missing key)
required_value kind key (Some t) = kind key t

-- the value of a kind at a key that has to be there
abbrev pub required : {A : Type 0} → Kind A → List ℕ → Tree → Result A FieldFault
required kind key holder = required_value kind key (value_at key holder)

abbrev pub optional_value : {A : Type 0} → Kind A → List ℕ → Option Tree → Result (Option A) FieldFault
optional_value kind key None = Ok None
optional_value kind key (Some t) = do
  value ← kind key t
  Ok (Some value)

-- the value of a kind at a key that may be absent
abbrev pub optional : {A : Type 0} → Kind A → List ℕ → Tree → Result (Option A) FieldFault
optional kind key holder = optional_value kind key (value_at key holder)
