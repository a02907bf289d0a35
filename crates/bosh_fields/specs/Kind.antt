-- What a value is read as under its key: one of a kind, or the fault that names the key.
use Rattle.std.specs.Prelude.{ℕ, ℤ, Bool, List, Result, Ok, Err, if◌then◌else◌}
use Rattle.bosh_base.specs.Name.{is_name}
use Rattle.bosh_yaml.specs.Tree.{Tree, Trees, boolean, integer, text, list, map}
use Rattle.bosh_fields.specs.Answer.{◌>>=◌}
use Rattle.bosh_fields.specs.declared.fault.FieldFault.{FieldFault}
use Rattle.bosh_fields.specs.declared.fault.FieldFault.TheVariants.{WrongKind}

-- what a tree is read as under a key
abbrev pub Kind : Type 0 → Type 0
Kind A = List ℕ → Tree → Result A FieldFault

abbrev pub a_text : Kind (List ℕ)
a_text key (text s) = Ok s
a_text key _ = Err (WrongKind key)

-- a text that is a name
abbrev pub a_name : Kind (List ℕ)
a_name key t = do
  s ← a_text key t
  if is_name s then Ok s else Err (WrongKind key)

abbrev pub a_flag : Kind Bool
a_flag key (boolean b) = Ok b
a_flag key _ = Err (WrongKind key)

abbrev pub an_integer : Kind ℤ
an_integer key (integer n) = Ok n
an_integer key _ = Err (WrongKind key)

-- the items of a list
abbrev pub items : Kind Trees
items key (list ts) = Ok ts
items key _ = Err (WrongKind key)

-- a mapping, which is read further
abbrev pub a_mapping : Kind Tree
a_mapping key (map fs) = Ok (map fs)
a_mapping key _ = Err (WrongKind key)
