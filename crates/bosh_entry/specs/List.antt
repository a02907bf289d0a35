-- How lists and texts are spelled (this project's profile): the count, and the items.
use Rattle.std.specs.Prelude.{ℕ, zero, suc, Bool, ◌&&◌, List, [], ◌∷◌, ◌++◌, length, Some}
use Rattle.std.specs.List.{flat_map, list_all}
use Rattle.bosh_entry.specs.Reading.{◌>>=◌, Reader, byte_at}
use Rattle.bosh_entry.specs.Number.{byte, is_byte, number, is_number, number_at}

-- the count, and the items
abbrev pub list : {A : Type 0} → (A → List ℕ) → List A → List ℕ
list spelling items = number (length items) ++ flat_map spelling items

abbrev pub is_list : {A : Type 0} → (A → Bool) → List A → Bool
is_list test items = is_number (length items) && list_all test items

-- so many items
unfoldable pub items_at : {A : Type 0} → Reader A → ℕ → Reader (List A)
items_at reader zero bytes = Some ([], bytes)
items_at reader (suc n) bytes = do
  first ← reader bytes
  others ← items_at reader n first.1
  Some (first.0 ∷ others.0, others.1)

-- a count, and so many items
unfoldable pub list_at : {A : Type 0} → Reader A → Reader (List A)
list_at reader bytes = number_at bytes >>= λ count. items_at reader count.0 count.1

-- the number of bytes, and the bytes
abbrev pub text : List ℕ → List ℕ
text = list byte

abbrev pub is_text : List ℕ → Bool
is_text = is_list is_byte

abbrev pub text_at : Reader (List ℕ)
text_at = list_at byte_at
