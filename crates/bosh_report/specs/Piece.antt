-- Lists and missing values in the texts of replies (this project's profile).
use Rattle.std.specs.Prelude.{ℕ, List, [], ◌∷◌, Option, Some, None, codes}
use Rattle.std.specs.List.{join_by}

-- `-` stands for a value that is missing
abbrev pub or_dash : {T : Type 0} → (T → List ℕ) → Option T → List ℕ
or_dash text None = codes "-"
or_dash text (Some x) = text x

-- commas stand between the items of a list, and `-` for a list with none
abbrev pub list_text : {T : Type 0} → (T → List ℕ) → List T → List ℕ
list_text text [] = codes "-"
list_text text (x ∷ xs) = join_by text (codes ",") (x ∷ xs)
