-- Lists of a manifest (this project's profile).
use Rattle.std.specs.Prelude.{ℕ, List, [], ◌∷◌, Result, Ok, Err, codes}
use Rattle.bosh_yaml.specs.Tree.{Tree, Trees}
use Rattle.bosh_fields.specs.Answer.{◌>>=◌}
use Rattle.bosh_fields.specs.Distinct.{distinct, name_in}
use Rattle.bosh_fields.specs.Kind.{Kind}
use Rattle.bosh_fields.specs.List.{items_up_to}
use Rattle.bosh_fields.specs.declared.fault.FieldFault.{FieldFault}
use Rattle.bosh_fields.specs.declared.fault.FieldFault.TheVariants.{Missing}

-- mappings under a key, each with a name that none before it has
unfoldable pub each_named :
    {A : Type 0} → (List ℕ → Tree → Result A FieldFault) → List ℕ → Trees → Result (List A) FieldFault
each_named item key ts = distinct (name_in (codes "name") key) item [] ts

-- a list of such mappings that has no more than the most
abbrev pub a_named_list : {A : Type 0} → (List ℕ → Tree → Result A FieldFault) → ℕ → Kind (List A)
a_named_list item most key t = do
  ts ← items_up_to most key t
  each_named item key ts

-- a list that has to have an item counts as absent where it has none
abbrev pub some_items : {A : Type 0} → List ℕ → List A → Result (List A) FieldFault
some_items key [] = Err (Missing key)
some_items key (item ∷ items) = Ok (item ∷ items)
