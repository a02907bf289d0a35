-- Lists in JSON (this project's profile): arrays of their items.
use Rattle.std.specs.Prelude.{Bool, List, [], ◌∷◌, Option, Some, option_and_then}
use Rattle.std.specs.List.{list_all}
use Rattle.serde_json.specs.Data.{Data, array, Items, no_items, item}
use Rattle.serde_json.specs.Find.{as_array}
use Rattle.cpi_wire.specs.Reading.{◌>>=◌, Reader}

abbrev pub items_data : {A : Type 0} → (A → Data) → List A → Items
items_data image [] = no_items
items_data image (a ∷ rest) = item (image a) (items_data image rest)

-- a list
abbrev pub list_data : {A : Type 0} → (A → Data) → List A → Data
list_data image items = array (items_data image items)

abbrev pub is_list : {A : Type 0} → (A → Bool) → List A → Bool
is_list test items = list_all test items

-- each of the items
abbrev pub each_from : {A : Type 0} → Reader A → Items → Option (List A)
each_from reader no_items = Some []
each_from reader (item d ds) = reader d >>= λ first. each_from reader ds >>= λ others. Some (first ∷ others)

abbrev pub list_from : {A : Type 0} → Reader A → Reader (List A)
list_from reader d = option_and_then (each_from reader) (as_array d)
