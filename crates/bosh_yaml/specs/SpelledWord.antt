-- How one scalar is spelled at the front of the bytes of a line, quoted or plain, and what follows it (this project's profile of YAML 1.2).
use Rattle.std.specs.Prelude.{◌≡◌, ℕ, true, false, List, [], ◌∷◌, ◌++◌, Some, codes}
use Rattle.std.specs.Str.{is_utf8, bytes_eq}
use Rattle.bosh_yaml.specs.declared.bare.Place.{Place}
use Rattle.bosh_yaml.specs.declared.word.Word.{Word}
use Rattle.bosh_yaml.specs.declared.word.Word.TheVariants.{Plain, Quoted}
use Rattle.bosh_yaml.specs.Bare.{ends_plain, starts_plain, trim_end}
use Rattle.bosh_yaml.specs.Quotes.{single_quoted, double_quoted}

-- a plain scalar does not end before any of these bytes
abbrev pub GoesOn : Place → List ℕ → List ℕ → Type 0
GoesOn place [] rest = Unit {0}
GoesOn place (b ∷ bs) rest = (ends_plain place b (bs ++ rest) ≡ false) × GoesOn place bs rest

-- but before these
abbrev pub Stops : Place → List ℕ → Type 0
Stops place [] = Unit {0}
Stops place (b ∷ bs) = ends_plain place b bs ≡ true

-- the bytes are a scalar and what follows it; its text is UTF-8, and a plain one has at least one byte
pub data SpellsScalar (place : Place) : List ℕ → Word → List ℕ → Type 0 where
  in_single_quotes : (bs text rest : List ℕ) → single_quoted bs ≡ Some (text, rest) → is_utf8 text ≡ true → SpellsScalar place (39 ∷ bs) (Quoted text) rest
  in_double_quotes : (bs text rest : List ℕ) → double_quoted bs ≡ Some (text, rest) → is_utf8 text ≡ true → SpellsScalar place (34 ∷ bs) (Quoted text) rest
  unquoted : (b : ℕ) (bs rest : List ℕ) → starts_plain (b ∷ (bs ++ rest)) ≡ true → GoesOn place (b ∷ bs) rest → Stops place rest
      → is_utf8 (trim_end (b ∷ bs)) ≡ true → SpellsScalar place (b ∷ (bs ++ rest)) (Plain (trim_end (b ∷ bs))) rest

-- a scalar is this key: always text, and the plain key `<<` is none
abbrev pub IsKey : Word → List ℕ → Type 0
IsKey (Quoted text) key = text ≡ key
IsKey (Plain text) key = (bytes_eq text (codes "<<") ≡ false) × (text ≡ key)
