-- The placeholders of a text, as `((name))` (this project's profile of the documentation's "Variable Interpolation").
use Rattle.std.specs.Prelude.{ℕ, zero, suc, ◌+◌, Bool, ◌&&◌, ◌||◌, ◌==◌, List, [], ◌∷◌, Option, Some, None, length, take, drop, if◌then◌else◌}
use Rattle.std.specs.Char.{is_ascii_alphanumeric}

-- an ASCII letter, a digit, `_`, `-`, `.` or `/`
abbrev pub is_name_letter : ℕ → Bool
is_name_letter b = is_ascii_alphanumeric b || (b == 95 || (b == 45 || (b == 46 || b == 47)))

-- how many bytes at the front a name may have
abbrev pub name_len : List ℕ → ℕ
name_len [] = 0
name_len (b ∷ bs) = if is_name_letter b then suc (name_len bs) else 0

-- the name, where it is not empty and `))` follows it
abbrev pub closed_name : List ℕ → List ℕ → Option (List ℕ)
closed_name (b ∷ name) (c ∷ d ∷ rest) = if c == 41 && d == 41 then Some (b ∷ name) else None
closed_name name rest = None

-- the name of the placeholder that a text begins with: `((`, the name, and `))`
abbrev pub name_at : List ℕ → Option (List ℕ)
name_at (a ∷ b ∷ bs) = if a == 40 && b == 40 then closed_name (take (name_len bs) bs) (drop (name_len bs) bs) else None
name_at bs = None

-- a part of a text
pub data Part : Type 0 where
  plain : ℕ → Part
  placeholder : List ℕ → Part

-- the part that begins with a byte: the placeholder there, if there is one, else the byte
abbrev pub part_of : Option (List ℕ) → ℕ → Part
part_of (Some name) b = placeholder name
part_of None b = plain b

-- how many bytes of a part follow its first
abbrev pub more_of : Option (List ℕ) → ℕ
more_of (Some name) = length name + 3
more_of None = 0

-- the parts of a text past so many bytes
abbrev pub parts_past : ℕ → List ℕ → List Part
parts_past n [] = []
parts_past (suc n) (b ∷ bs) = parts_past n bs
parts_past zero (b ∷ bs) = part_of (name_at (b ∷ bs)) b ∷ parts_past (more_of (name_at (b ∷ bs))) bs

-- the parts of a text, from its front on: placeholders, and the bytes between them
abbrev pub parts : List ℕ → List Part
parts bytes = parts_past 0 bytes
