-- Lists of values of one kind, which are read in their order.
use Rattle.std.specs.Prelude.{ℕ, suc, ◌-◌, ◌^◌, List, [], ◌∷◌, Result, Ok, Err, nat_le, if◌then◌else◌}
use Rattle.bosh_yaml.specs.Tree.{Tree, Trees, no_trees, tree}
use Rattle.bosh_fields.specs.Answer.{◌>>=◌}
use Rattle.bosh_fields.specs.Kind.{Kind, items}
use Rattle.bosh_fields.specs.declared.fault.FieldFault.{FieldFault}
use Rattle.bosh_fields.specs.declared.fault.FieldFault.TheVariants.{Limit}

-- what each item is read as, or the fault of the first that has one
abbrev pub each : {A : Type 0} → (Tree → Result A FieldFault) → Trees → Result (List A) FieldFault
each read no_trees = Ok []
each read (tree t ts) = do
  first ← read t
  others ← each read ts
  Ok (first ∷ others)

-- a list whose items are of one kind under its key
abbrev pub a_list : {A : Type 0} → Kind A → Kind (List A)
a_list kind key t = do
  ts ← items key t
  each (kind key) ts

-- the number of items
abbrev pub count : Trees → ℕ
count no_trees = 0
count (tree t ts) = suc (count ts)

-- the most items of a list that may have any number of them
abbrev pub no_limit : ℕ
no_limit = 2 ^ 64 - 1

-- the items of a list that has no more than the most
abbrev pub items_up_to : ℕ → Kind Trees
items_up_to most key t = do
  ts ← items key t
  if nat_le (count ts) most then Ok ts else Err (Limit key)

-- such a list that has no more items than the most
abbrev pub a_list_up_to : {A : Type 0} → ℕ → Kind A → Kind (List A)
a_list_up_to most kind key t = do
  ts ← items_up_to most key t
  each (kind key) ts
