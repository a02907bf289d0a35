-- The form of a line, and which fault its words have (this project's profile).
use Rattle.std.specs.Prelude.{◌≡◌, ℕ, ◌&&◌, ◌||◌, nat_lt, not, Bool, true, false, List, [], ◌∷◌, length, drop, Option, Some, None, IsSome, is_some, option_and_then, find, count_by, if◌then◌else◌}
use Rattle.std.specs.List.{list_any}
use Rattle.std.specs.Str.{bytes_eq, is_utf8}
use Rattle.bosh_line_words.specs.declared.fault.LineFault.{LineFault}
use Rattle.bosh_line_words.specs.declared.fault.LineFault.TheVariants.{BadArgument, Missing, Extra, Memory}
use Rattle.bosh_line_words.specs.declared.choice.Choice as code
use Rattle.bosh_line_words.specs.Words.{Word}

-- an option: its name, which words may stand after it where it takes one, and whether it may be given more than once
pub record Choice : Type 0 where
  pub name : List ℕ
  pub value : Option (List ℕ → Bool)
  pub repeats : Bool

-- the form of a line: which words may stand at each of its places, and the options that may stand after these in any order
pub record Form : Type 0 where
  pub places : List (List ℕ → Bool)
  pub options : List Choice

-- what a word is in its line: it stands at a place, it names an option, or it is one too many
pub data Role : Type 0 where
  Stands : (List ℕ → Bool) → Role
  Names : Choice → Role
  Spare : Role

-- the option that a word names
abbrev pub named : List Choice → List ℕ → Option Choice
named options text = find (λ choice. bytes_eq text choice.name) options

abbrev pub naming : Option Choice → Role
naming (Some choice) = Names choice
naming None = Spare

-- the roles of words that stand after the places, the first of them maybe as the value of an option
abbrev pub roles_after : List Choice → Option (List ℕ → Bool) → List Word → List Role
roles_after options awaited [] = []
roles_after options (Some value) (word ∷ words) = Stands value ∷ roles_after options None words
roles_after options None (word ∷ words) =
    naming (named options word.text) ∷ roles_after options (option_and_then (λ choice. choice.value) (named options word.text)) words

-- the roles of the words of a line
abbrev pub roles : List (List ℕ → Bool) → List Choice → List Word → List Role
roles [] options words = roles_after options None words
roles (place ∷ places) options [] = []
roles (place ∷ places) options (word ∷ words) = Stands place ∷ roles places options words

-- a word is of the kind that its role asks for; one too many is to be UTF-8 all the same
abbrev pub suits : Role → List ℕ → Bool
suits (Stands place) text = place text
suits (Names choice) text = true
suits Spare text = is_utf8 text

-- where the first word from the left stands that is not of its kind
abbrev pub faulty : List Role → List Word → Option ℕ
faulty [] words = None
faulty (role ∷ roles) [] = None
faulty (role ∷ roles) (word ∷ words) = if suits role word.text then faulty roles words else Some word.place

-- the last word names an option whose value does not follow
abbrev pub takes_value : Role → Bool
takes_value (Names choice) = is_some choice.value
takes_value role = false

abbrev pub is_open : List Role → Bool
is_open [] = false
is_open (role ∷ []) = takes_value role
is_open (role ∷ next ∷ roles) = is_open (next ∷ roles)

abbrev pub is_spare : Role → Bool
is_spare Spare = true
is_spare role = false

-- an option is named more than once by these words that may not be
abbrev pub is_repeated : List Word → Choice → Bool
is_repeated words choice = not choice.repeats && nat_lt 1 (count_by (λ word. bytes_eq word.text choice.name) words)

-- a word is too many, or an option is given once too often
abbrev pub is_over : List Choice → List Role → List Word → Bool
is_over options roles words = list_any is_spare roles || list_any (is_repeated words) options

-- The fault of words, by their roles: that of the first word from the left that is not of its kind; else that a word is missing
-- at a place or after an option; else that there is a word too many, or an option once too often.
abbrev pub fault_by : Option ℕ → Bool → Bool → Option LineFault
fault_by (Some place) is_short is_over = Some (BadArgument place)
fault_by None is_short is_over = if is_short then Some Missing else (if is_over then Some Extra else None)

unfoldable pub fault_of : List (List ℕ → Bool) → List Choice → List Word → Option LineFault
fault_of places options words =
    let all = roles places options words in
    fault_by (faulty all words) (nat_lt (length words) (length places) || is_open all) (is_over options all (drop (length places) words))

-- a word is read for a place: it is the first of some words, it may stand there, and others follow it
pub record IsTaken {V : Type 0} (fits : List ℕ → Bool) (reads : List ℕ → V → Type 0) (words : List Word) (value : V) (rest : List Word) : Type 0 where
  pub word : Word
  pub first : words ≡ word ∷ rest
  pub suits : fits word.text ≡ true
  pub means : reads word.text value

-- the fault of the first word for a place
abbrev pub place_fault : (List ℕ → Bool) → List Word → Option LineFault
place_fault fits [] = Some Missing
place_fault fits (word ∷ words) = if fits word.text then None else Some (BadArgument word.place)

-- the fault of words where no further one may stand
abbrev pub end_fault : List Word → Option LineFault
end_fault words = fault_of [] [] words

-- an option of a table of code, where these are the words that may be a value
abbrev pub choice_of : (List ℕ → Bool) → code.Choice → Choice
choice_of fits choice = record { name = choice.name.now; value = if choice.takes_value then Some fits else None; repeats = choice.repeats }

-- some word is this
abbrev pub has : List ℕ → List Word → Bool
has text words = list_any (λ word. bytes_eq word.text text) words

-- how many words are this
abbrev pub count : List ℕ → List Word → ℕ
count text words = count_by (λ word. bytes_eq word.text text) words

-- an option of a table of code is named more than once that may not be
abbrev pub is_repeated_in : List Word → code.Choice → Bool
is_repeated_in words choice = not choice.repeats && nat_lt 1 (count choice.name.now words)

-- Why words are refused. Memory may be short for words without a fault.
abbrev pub IsRefused : List (List ℕ → Bool) → List Choice → List Word → LineFault → Type 0
IsRefused places options words Memory = fault_of places options words ≡ None
IsRefused places options words fault = fault_of places options words ≡ Some fault
