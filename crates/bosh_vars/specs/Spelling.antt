-- How the parts of a text are written.
use Rattle.std.specs.Prelude.{◌≡◌, ℕ, List, [], ◌∷◌, ◌++◌, codes, Bool, true, false}
use Rattle.std.specs.List.{list_all}
use Rattle.bosh_vars.specs.Placeholder.{Part, plain, placeholder, is_name_letter}

-- one letter of a name at least, and nothing else
abbrev pub is_name : List ℕ → Bool
is_name [] = false
is_name (b ∷ bs) = list_all is_name_letter (b ∷ bs)

abbrev pub IsName : List ℕ → Type 0
IsName name = is_name name ≡ true

-- a text begins with the placeholder of a name, and so it goes on
abbrev pub BeginsWith : List ℕ → List ℕ → List ℕ → Type 0
BeginsWith text name after = IsName name × (text ≡ codes "((" ++ (name ++ (codes "))" ++ after)))

-- parts as text, one after another
abbrev pub text_of_parts : List Part → List ℕ
text_of_parts [] = []
text_of_parts (plain b ∷ ps) = b ∷ text_of_parts ps
text_of_parts (placeholder name ∷ ps) = codes "((" ++ (name ++ (codes "))" ++ text_of_parts ps))

-- each placeholder has a name, and a byte stands as plain only where what is written from it on begins with no placeholder
abbrev pub AreRight : List Part → Type 0
AreRight [] = Unit {0}
AreRight (plain b ∷ ps) = ((name after : List ℕ) → ¬ BeginsWith (b ∷ text_of_parts ps) name after) × AreRight ps
AreRight (placeholder name ∷ ps) = IsName name × AreRight ps
