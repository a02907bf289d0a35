-- A node whose placeholders are replaced by values, or the first placeholder that cannot be (this project's profile of the documentation's "Variable Interpolation").
use Rattle.std.specs.Prelude.{ℕ, Bool, true, false, List, [], ◌∷◌, ◌++◌, Option, Some, None, Result, Ok, codes, if◌then◌else◌}
use Rattle.std.specs.Fmt.{signed_decimal}
use Rattle.std.specs.Option.{ok_or, option_or}
use Rattle.std.specs.Str.{bytes_eq}
use Rattle.bosh_yaml.specs.Tree.{Tree, Trees, Fields, null, boolean, integer, text, list, map, no_trees, tree, no_fields, field}
use Rattle.bosh_yaml.specs.View.{tree_of}
use Rattle.bosh_vars.specs.declared.fault.VarsFault.{VarsFault}
use Rattle.bosh_vars.specs.declared.fault.VarsFault.TheVariants.{Unset, NotText}
use Rattle.bosh_vars.specs.declared.var.Var.{Var}
use Rattle.bosh_vars.specs.Placeholder.{Part, plain, placeholder, parts}
use Rattle.bosh_vars.specs.Result.{◌>>=◌}

-- which value stands for a name
abbrev pub Values : Type 0
Values = List ℕ → Option Tree

abbrev pub value_if : Bool → Tree → Option Tree
value_if b value = if b then Some value else None

-- of several variables of one name, the last counts
abbrev pub values_of : List Var → Values
values_of [] name = None
values_of (v ∷ vs) name = option_or (values_of vs name) (value_if (bytes_eq v.name name) (tree_of v.value))

-- the value for a placeholder
abbrev pub value_for : Values → List ℕ → Result Tree VarsFault
value_for values name = ok_or (values name) (Unset name)

-- a value inside a longer text: text as it is, integers in decimal, truth values in words, null as nothing, and no list or mapping
abbrev pub inner_text : Tree → Option (List ℕ)
inner_text null = Some []
inner_text (boolean true) = Some (codes "true")
inner_text (boolean false) = Some (codes "false")
inner_text (integer n) = Some (signed_decimal n)
inner_text (text s) = Some s
inner_text (list ts) = None
inner_text (map fs) = None

-- the text for a placeholder inside a longer text
abbrev pub text_for : List ℕ → Tree → Result (List ℕ) VarsFault
text_for name value = ok_or (inner_text value) (NotText name)

abbrev pub part_text : Values → Part → Result (List ℕ) VarsFault
part_text values (plain b) = Ok (b ∷ [])
part_text values (placeholder name) = value_for values name >>= text_for name

-- the texts of parts, one after another
abbrev pub joined_text : Values → List Part → Result (List ℕ) VarsFault
joined_text values [] = Ok []
joined_text values (part ∷ rest) = do
  front ← part_text values part
  more ← joined_text values rest
  Ok (front ++ more)

-- the name of the placeholder that a text is, if it is one alone
abbrev pub only_name : List Part → Option (List ℕ)
only_name [] = None
only_name (plain b ∷ ps) = None
only_name (placeholder name ∷ []) = Some name
only_name (placeholder name ∷ p ∷ ps) = None

abbrev pub filled_from : Values → Option (List ℕ) → List Part → Result Tree VarsFault
filled_from values (Some name) ps = value_for values name
filled_from values None ps = joined_text values ps >>= λ s. Ok (text s)

-- a text that is one placeholder becomes the value; in any other text each placeholder becomes its value's text
abbrev pub filled_text : Values → List Part → Result Tree VarsFault
filled_text values ps = filled_from values (only_name ps) ps

-- a node with each of its texts replaced, from its front on; keys stay as they are
abbrev mutual
  pub filled : Values → Tree → Result Tree VarsFault
  filled values null = Ok null
  filled values (boolean b) = Ok (boolean b)
  filled values (integer n) = Ok (integer n)
  filled values (text s) = filled_text values (parts s)
  filled values (list ts) = filled_items values ts >>= λ us. Ok (list us)
  filled values (map fs) = filled_fields values fs >>= λ gs. Ok (map gs)

  pub filled_items : Values → Trees → Result Trees VarsFault
  filled_items values no_trees = Ok no_trees
  filled_items values (tree t ts) = filled values t >>= λ u. filled_items values ts >>= λ us. Ok (tree u us)

  pub filled_fields : Values → Fields → Result Fields VarsFault
  filled_fields values no_fields = Ok no_fields
  filled_fields values (field key t fs) = filled values t >>= λ u. filled_fields values fs >>= λ gs. Ok (field key u gs)
