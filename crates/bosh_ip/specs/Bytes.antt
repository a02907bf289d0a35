-- Parts of a text.
use Rattle.std.specs.Prelude.{ℕ, ◌≢◌, List, [], ◌∷◌, ◌==◌, if◌then◌else◌, All}

-- no byte of the text is this one
abbrev pub Lacks : ℕ → List ℕ → Type 0
Lacks byte text = All (λ b. b ≢ byte) text

-- the text from the first byte on that is not this one
abbrev pub without_leading : ℕ → List ℕ → List ℕ
without_leading byte [] = []
without_leading byte (b ∷ text) = if b == byte then without_leading byte text else b ∷ text
