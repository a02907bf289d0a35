-- Quoted scalars, from behind the opening quote (YAML 1.2, "Single-Quoted Style" and "Double-Quoted Style", in this project's profile).
use Rattle.std.specs.Prelude.{ℕ, ◌+◌, ◌-◌, ◌*◌, ◌&&◌, List, [], ◌∷◌, ◌++◌, Option, Some, None, ◌==◌, nat_le, if◌then◌else◌}
use Rattle.std.specs.Char.{encode_utf8}

-- a text and the bytes after its closing quote
abbrev pub Quoted : Type 0
Quoted = Option (List ℕ × List ℕ)

abbrev pub after_text : List ℕ → Quoted → Quoted
after_text front None = None
after_text front (Some q) = Some (front ++ q.0, q.1)

-- `''` stands for one quote
abbrev pub single_quoted : List ℕ → Quoted
single_quoted [] = None
single_quoted (b ∷ []) = if b == 39 then Some ([], []) else None
single_quoted (b ∷ c ∷ bs) =
    if b == 39 then (if c == 39 then after_text (39 ∷ []) (single_quoted bs) else Some ([], c ∷ bs))
    else after_text (b ∷ []) (single_quoted (c ∷ bs))

-- the character that an escape of one letter stands for: `\\`, `\"`, `\/`, `\n`, `\r`, `\t` and `\0`
abbrev pub escaped_character : ℕ → Option ℕ
escaped_character b =
    if b == 92 then Some 92 else if b == 34 then Some 34 else if b == 47 then Some 47
    else if b == 110 then Some 10 else if b == 114 then Some 13 else if b == 116 then Some 9
    else if b == 48 then Some 0 else None

-- the value of a hexadecimal digit
abbrev pub hex : ℕ → Option ℕ
hex b =
    if nat_le 48 b && nat_le b 57 then Some (b - 48)
    else if nat_le 97 b && nat_le b 102 then Some (b - 87)
    else if nat_le 65 b && nat_le b 70 then Some (b - 55)
    else None

abbrev pub then_digit : Option ℕ → Option ℕ → Option ℕ
then_digit None d = None
then_digit (Some n) None = None
then_digit (Some n) (Some d) = Some (16 * n + d)

-- the number of four hexadecimal digits
abbrev pub four_hex : ℕ → ℕ → ℕ → ℕ → Option ℕ
four_hex a b c d = then_digit (then_digit (then_digit (hex a) (hex b)) (hex c)) (hex d)

-- a number below 65,536 as a character, unless it is a surrogate
abbrev pub character : Option ℕ → Option ℕ
character None = None
character (Some n) = if nat_le 55296 n && nat_le n 57343 then None else Some n

-- a character and the text after it
abbrev pub after_character : Option ℕ → Quoted → Quoted
after_character None q = None
after_character (Some c) q = after_text (encode_utf8 c) q

-- with the escapes of one letter, and `\u` with four hexadecimal digits
abbrev mutual
  pub double_quoted : List ℕ → Quoted
  double_quoted [] = None
  double_quoted (b ∷ bs) =
      if b == 34 then Some ([], bs)
      else if b == 92 then double_escaped bs
      else after_text (b ∷ []) (double_quoted bs)

  pub double_escaped : List ℕ → Quoted
  double_escaped [] = None
  double_escaped (e ∷ bs) = if e == 117 then double_unicode bs else after_character (escaped_character e) (double_quoted bs)

  pub double_unicode : List ℕ → Quoted
  double_unicode [] = None
  double_unicode (a ∷ []) = None
  double_unicode (a ∷ b ∷ []) = None
  double_unicode (a ∷ b ∷ c ∷ []) = None
  double_unicode (a ∷ b ∷ c ∷ d ∷ bs) = after_character (character (four_hex a b c d)) (double_quoted bs)
