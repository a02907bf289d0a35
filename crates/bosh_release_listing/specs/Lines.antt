-- Texts of lines.
use Rattle.std.specs.Prelude.{ℕ, Bool, not, ◌==◌, List, [], ◌∷◌, ◌++◌}
use Rattle.std.specs.List.{AllPass, flat_map}
use Rattle.hex.specs.Hex.{encode_lower}
use Rattle.bosh_base.specs.declared.digest.Digest.{Digest}

-- a text ended by LF
abbrev pub line : List ℕ → List ℕ
line text = text ++ 10 ∷ []

-- lines, one after another
abbrev pub text_of : List (List ℕ) → List ℕ
text_of lines = flat_map line lines

-- a text without LF
abbrev pub is_no_lf : ℕ → Bool
is_no_lf b = not (b == 10)

abbrev pub IsOneLine : List ℕ → Type 0
IsOneLine text = AllPass is_no_lf text

-- a digest in hex
abbrev pub hex_of : Digest → List ℕ
hex_of digest = encode_lower digest.0
