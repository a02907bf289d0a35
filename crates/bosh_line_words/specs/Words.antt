-- The words of a line, and where they stand (this project's profile).
use Rattle.std.specs.Prelude.{ℕ, ◌+◌, ◌==◌, ◌≢◌, Bool, true, false, List, [], ◌∷◌, length, filter}
use Rattle.std.specs.List.{slice_split}
use Rattle.bosh_line_words.specs.declared.word.Rest.{Rest}
use Rattle.bosh_line_words.specs.declared.word.Word as code

-- a word, and how many bytes of its line stand before it
pub record Word : Type 0 where
  pub place : ℕ
  pub text : List ℕ

-- pieces that stand one after another from a place on, with a space between any two
abbrev pub placed : ℕ → List (List ℕ) → List Word
placed place [] = []
placed place (piece ∷ pieces) = record { place = place; text = piece } ∷ placed (place + length piece + 1) pieces

-- it has a byte
abbrev pub has_bytes : List ℕ → Bool
has_bytes [] = false
has_bytes (c ∷ cs) = true

abbrev pub is_word : Word → Bool
is_word word = has_bytes word.text

-- the words of bytes that stand from a place on: what stands between the spaces
abbrev pub words : ℕ → List ℕ → List Word
words place bytes = filter is_word (placed place (slice_split (λ byte. byte == 32) bytes))

-- the words of what is left of a line
abbrev pub words_in : Rest → List Word
words_in rest = words rest.place rest.bytes.now

-- a word as code has it
abbrev pub word_of : code.Word → Word
word_of word = record { place = word.place; text = word.text.now }

-- no space stands at the front
abbrev pub begins_word : List ℕ → Type 0
begins_word [] = Unit {0}
begins_word (c ∷ cs) = c ≢ 32
