-- The escapes of the characters of a text.
use Rattle.std.proofs.Common.{◌≡◌, ℕ, ◌+◌, ◌/◌, ◌%◌, ◌<◌, ◌≤◌, List, [], ◌∷◌, ◌++◌, true, false, refl, sym, ap, ◌∙◌, arith, append_assoc, append-nil, ltb}
use Rattle.std.specs.Char.{encode_utf8}
use Rattle.std.specs.List.{flat_map}
use Rattle.std.specs.Str.{encode_utf8_all}
use Rattle.std.proofs.lemmas.Bool.{lt-ltb, le-ltb}
use Rattle.json.specs.Print.{escape, escape_byte, quoted}

pub escape_append : (a b : List ℕ) → escape (a ++ b) ≡ escape a ++ escape b
escape_append [] b = refl
escape_append (x ∷ a) b = ap (λ s. escape_byte x ++ s) (escape_append a b) ∙ sym (append_assoc (escape_byte x) (escape a) (escape b))

pub escape_chars : (bytes : List ℕ) → escape (encode_utf8_all bytes) ≡ flat_map (λ b. escape (encode_utf8 b)) bytes
escape_chars [] = refl
escape_chars (b ∷ bytes) = escape_append (encode_utf8 b) (encode_utf8_all bytes) ∙ ap (λ s. escape (encode_utf8 b) ++ s) (escape_chars bytes)

pub escape_two : (b : ℕ) → 128 ≤ b → b < 256 → escape (encode_utf8 b) ≡ escape_byte (192 + b / 64) ++ escape_byte (128 + b % 64)
unfolding encode_utf8
escape_two b low high =
    let ascii : ltb b 128 ≡ false = le-ltb b 128 low in
    let two : ltb b 2048 ≡ true = lt-ltb b 2048 (omega arith) in
    rw (ascii, two) (ap (λ s. escape_byte (192 + b / 64) ++ s) (append-nil (escape_byte (128 + b % 64))))

-- a text between its quotation marks
pub text_quoted : (bytes start first second last : List ℕ) → first ≡ start ++ 34 ∷ [] → second ≡ first ++ flat_map (λ b. escape (encode_utf8 b)) bytes → last ≡ second ++ 34 ∷ [] → last ≡ start ++ quoted (encode_utf8_all bytes)
text_quoted bytes start first second last p q r =
    rw (r, q, p, escape_chars bytes) (append_assoc (start ++ 34 ∷ []) _ (34 ∷ []) ∙ append_assoc start (34 ∷ []) _)
