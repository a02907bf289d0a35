-- One scalar at the front of the bytes of a line, quoted or plain, and what follows it.
use Rattle.std.specs.Prelude.{ℕ, List, [], ◌∷◌, Option, Some, None, Result, Ok, Err, take, drop, codes, ◌==◌, if◌then◌else◌}
use Rattle.std.specs.Str.{is_utf8, bytes_eq}
use Rattle.bosh_yaml.specs.declared.bare.Place.{Place}
use Rattle.bosh_yaml.specs.declared.fault.ReadFault.{ReadFault}
use Rattle.bosh_yaml.specs.declared.fault.ReadFault.TheVariants as faults
use Rattle.bosh_yaml.specs.declared.plain.Leaf.{Leaf}
use Rattle.bosh_yaml.specs.declared.plain.Leaf.TheVariants.{Text}
use Rattle.bosh_yaml.specs.declared.word.Word.{Word}
use Rattle.bosh_yaml.specs.declared.word.Word.TheVariants.{Plain, Quoted}
use Rattle.bosh_yaml.specs.Bare.{plain_len, starts_plain, trim_end}
use Rattle.bosh_yaml.specs.Quotes.{single_quoted, double_quoted}
use Rattle.bosh_yaml.specs.Result.{◌>>=◌}
use Rattle.bosh_yaml.specs.Scalar.{scalar_of}

abbrev pub syntax_fault : {A : Type 0} → ℕ → Result A ReadFault
syntax_fault line = Err (faults.Syntax line)

-- the bytes as text: those of a scalar are UTF-8 where the line's are
abbrev pub text_of : ℕ → List ℕ → Result (List ℕ) ReadFault
text_of line bytes = if is_utf8 bytes then Ok bytes else syntax_fault line

abbrev pub quoted_word : ℕ → Option (List ℕ × List ℕ) → Result (Word × List ℕ) ReadFault
quoted_word line None = syntax_fault line
quoted_word line (Some q) = do
  text ← text_of line q.0
  Ok (Quoted text, q.1)

abbrev pub plain_word : Place → ℕ → List ℕ → Result (Word × List ℕ) ReadFault
plain_word place line bytes =
    if starts_plain bytes then (if plain_len place bytes == 0 then syntax_fault line else (do
      text ← text_of line (trim_end (take (plain_len place bytes) bytes))
      Ok (Plain text, drop (plain_len place bytes) bytes)))
    else syntax_fault line

-- the scalar at the front
abbrev pub word_at : Place → ℕ → List ℕ → Result (Word × List ℕ) ReadFault
word_at place line [] = syntax_fault line
word_at place line (b ∷ bs) =
    if b == 39 then quoted_word line (single_quoted bs)
    else if b == 34 then quoted_word line (double_quoted bs)
    else plain_word place line (b ∷ bs)

-- a scalar as a value: what is quoted is text
abbrev pub leaf_of : Word → Leaf
leaf_of (Quoted text) = Text text
leaf_of (Plain text) = scalar_of text

-- a scalar as a key: always text; the plain key `<<` is refused
abbrev pub key_of : ℕ → Word → Result (List ℕ) ReadFault
key_of line (Quoted text) = Ok text
key_of line (Plain text) = if bytes_eq text (codes "<<") then syntax_fault line else Ok text
