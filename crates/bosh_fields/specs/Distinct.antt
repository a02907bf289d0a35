-- Lists in which no name stands twice (this project's profile).
use Rattle.std.specs.Prelude.{ℕ, List, [], ◌∷◌, Result, Ok, Err, if◌then◌else◌}
use Rattle.bosh_base.specs.Plan.{is_listed}
use Rattle.bosh_yaml.specs.Tree.{Tree, Trees, no_trees, tree}
use Rattle.bosh_fields.specs.Answer.{◌>>=◌}
use Rattle.bosh_fields.specs.Field.{required}
use Rattle.bosh_fields.specs.Kind.{Kind, a_mapping, a_name}
use Rattle.bosh_fields.specs.List.{items_up_to}
use Rattle.bosh_fields.specs.declared.fault.FieldFault.{FieldFault}
use Rattle.bosh_fields.specs.declared.fault.FieldFault.TheVariants.{Repeated}

-- a name that is none of those before it
abbrev pub new_name : List (List ℕ) → List ℕ → Result (List ℕ) FieldFault
new_name before name = if is_listed name before then Err (Repeated name) else Ok name

-- the name of an item, which no item before it has
abbrev pub fresh_name : (Tree → Result (List ℕ) FieldFault) → List (List ℕ) → Tree → Result (List ℕ) FieldFault
fresh_name naming before t = do
  name ← naming t
  new_name before name

-- an item: its name, and then what else it has
abbrev pub next_item :
    {A : Type 0} → (Tree → Result (List ℕ) FieldFault) → (List ℕ → Tree → Result A FieldFault)
    → List (List ℕ) → Tree → Result A FieldFault
next_item naming item before t = do
  name ← fresh_name naming before t
  item name t

-- items in their order, each with a name that no item before it has
abbrev pub distinct :
    {A : Type 0} → (Tree → Result (List ℕ) FieldFault) → (List ℕ → Tree → Result A FieldFault)
    → List (List ℕ) → Trees → Result (List A) FieldFault
distinct naming item before no_trees = Ok []
distinct naming item before (tree t ts) = do
  name ← fresh_name naming before t
  first ← item name t
  others ← distinct naming item (name ∷ before) ts
  Ok (first ∷ others)

-- a list of such items that has no more than the most
abbrev pub a_distinct_list :
    {A : Type 0} → Kind (List ℕ) → (List ℕ → Tree → Result A FieldFault) → ℕ → Kind (List A)
a_distinct_list naming item most key t = do
  ts ← items_up_to most key t
  distinct (naming key) item [] ts

-- the name at a key of an item, which is a mapping
abbrev pub name_in : List ℕ → Kind (List ℕ)
name_in name_key key t = do
  item ← a_mapping key t
  required a_name name_key item
