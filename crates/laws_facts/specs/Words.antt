-- Which facts are broken, by their names.
use Rattle.std.specs.Prelude.{ℕ, Bool, true, false, ◌++◌, ◌∷◌, List, []}

-- the name of a fact, where its test fails
abbrev pub unless : List ℕ → Bool → List (List ℕ)
unless name true = []
unless name false = name ∷ []

-- the names of what is broken of each subject
abbrev pub broken_of : {A : Type 0} → (A → List (List ℕ)) → List A → List (List ℕ)
broken_of test [] = []
broken_of test (a ∷ items) = test a ++ broken_of test items
