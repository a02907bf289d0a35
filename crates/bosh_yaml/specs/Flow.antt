-- Flow forms on one line (YAML 1.2, "Flow Collection Styles", in this project's profile): their signs from left to right, and the events that the signs stand for.
use Rattle.std.specs.Prelude.{ℕ, zero, suc, Bool, true, false, ◌||◌, List, [], ◌∷◌, ◌++◌, Option, Some, None, Result, Ok, length, ◌==◌, if◌then◌else◌}
use Rattle.bosh_yaml.specs.declared.bare.Place.TheVariants.{Flow}
use Rattle.bosh_yaml.specs.declared.event.Event.{Event}
use Rattle.bosh_yaml.specs.declared.event.Event.TheVariants as event
use Rattle.bosh_yaml.specs.declared.fault.ReadFault.{ReadFault}
use Rattle.bosh_yaml.specs.declared.flow.Nest.{Nest}
use Rattle.bosh_yaml.specs.declared.flow.Nest.TheVariants.{BeforeForm, AfterForm, BeforeItem, AfterItem, BeforeKey, AfterKey, AfterEntry}
use Rattle.bosh_yaml.specs.declared.flow.Sign.{Sign}
use Rattle.bosh_yaml.specs.declared.flow.Sign.TheVariants.{OpenList, OpenMap, CloseList, CloseMap, Comma, Scalar, Key}
use Rattle.bosh_yaml.specs.declared.plain.Leaf.TheVariants as leaf
use Rattle.bosh_yaml.specs.declared.word.Word.{Word}
use Rattle.bosh_yaml.specs.Lines.{begins, is_end, is_gap, skip_spaces}
use Rattle.bosh_yaml.specs.Result.{◌>>=◌, with_front}
use Rattle.bosh_yaml.specs.Word.{word_at, leaf_of, key_of, syntax_fault}

-- behind the `:` of a key stands the end, a space, `,` or `}`
abbrev pub ends_key : List ℕ → Bool
ends_key bs = is_gap bs || (begins 44 bs || begins 125 bs)

-- a scalar is a key where `:` follows it, and else a value
abbrev pub word_sign : ℕ → Word × List ℕ → Result (Sign × List ℕ) ReadFault
word_sign line (word, []) = Ok (Scalar (leaf_of word), [])
word_sign line (word, b ∷ bs) =
    if b == 58 then (if ends_key bs then (do
      key ← key_of line word
      Ok (Key key, bs)) else syntax_fault line)
    else Ok (Scalar (leaf_of word), b ∷ bs)

abbrev pub sign_of : ℕ → Option Sign
sign_of b =
    if b == 91 then Some OpenList else if b == 93 then Some CloseList else if b == 123 then Some OpenMap
    else if b == 125 then Some CloseMap else if b == 44 then Some Comma else None

abbrev pub sign_or_word : ℕ → Option Sign → List ℕ → List ℕ → Result (Sign × List ℕ) ReadFault
sign_or_word line (Some sign) rest bytes = Ok (sign, rest)
sign_or_word line None rest bytes = do
  word ← word_at Flow line bytes
  word_sign line word

-- the sign at the front of the bytes
abbrev pub sign_at : ℕ → List ℕ → Result (Sign × List ℕ) ReadFault
sign_at line [] = syntax_fault line
sign_at line (b ∷ bs) = sign_or_word line (sign_of b) bs (b ∷ bs)

-- the signs up to the line's end, of which there are at most so many
abbrev pub signs_of : ℕ → ℕ → List ℕ → Result (List Sign) ReadFault
signs_of zero line bytes = if is_end bytes then Ok [] else syntax_fault line
signs_of (suc most) line bytes = if is_end bytes then Ok [] else (do
  first ← sign_at line (skip_spaces bytes)
  with_front (first.0 ∷ []) (signs_of most line first.1))

-- where a value may stand, and what follows it there
abbrev pub after_value : ℕ → Nest → Result Nest ReadFault
after_value line BeforeForm = Ok AfterForm
after_value line BeforeItem = Ok AfterItem
after_value line AfterKey = Ok AfterEntry
after_value line nest = syntax_fault line

abbrev pub after_key : ℕ → Nest → Result Nest ReadFault
after_key line BeforeKey = Ok AfterKey
after_key line nest = syntax_fault line

-- what a sign adds where one stands, and the places that it leaves, the innermost first
abbrev pub Turn : Type 0
Turn = List Event × List Nest

abbrev pub comma : ℕ → Nest → Result Turn ReadFault
comma line AfterItem = Ok ([], BeforeItem ∷ [])
comma line AfterEntry = Ok ([], BeforeKey ∷ [])
comma line AfterKey = Ok (event.Scalar leaf.Null ∷ [], BeforeKey ∷ [])
comma line nest = syntax_fault line

abbrev pub close_list : ℕ → Nest → Result Turn ReadFault
close_list line BeforeItem = Ok (event.Close ∷ [], [])
close_list line AfterItem = Ok (event.Close ∷ [], [])
close_list line nest = syntax_fault line

abbrev pub close_map : ℕ → Nest → Result Turn ReadFault
close_map line BeforeKey = Ok (event.Close ∷ [], [])
close_map line AfterEntry = Ok (event.Close ∷ [], [])
close_map line AfterKey = Ok (event.Scalar leaf.Null ∷ event.Close ∷ [], [])
close_map line nest = syntax_fault line

abbrev pub turn : ℕ → Nest → Sign → Result Turn ReadFault
turn line nest OpenList = do
  after ← after_value line nest
  Ok (event.OpenList ∷ [], BeforeItem ∷ after ∷ [])
turn line nest OpenMap = do
  after ← after_value line nest
  Ok (event.OpenMap ∷ [], BeforeKey ∷ after ∷ [])
turn line nest (Scalar value) = do
  after ← after_value line nest
  Ok (event.Scalar value ∷ [], after ∷ [])
turn line nest (Key key) = do
  after ← after_key line nest
  Ok (event.Key line key ∷ [], after ∷ [])
turn line nest Comma = comma line nest
turn line nest CloseList = close_list line nest
turn line nest CloseMap = close_map line nest

-- the events and the places after a turn
abbrev pub after_turn : List Event → List Nest → Result Turn ReadFault → Result Turn ReadFault
after_turn events nests read = read >>= λ t. Ok (events ++ t.0, t.1 ++ nests)

-- the form is whole
abbrev pub is_whole : List Nest → Bool
is_whole (AfterForm ∷ []) = true
is_whole nests = false

-- the events of a flow form, from places on, the innermost first
abbrev pub form : ℕ → List Nest → List Sign → Result (List Event) ReadFault
form line nests [] = if is_whole nests then Ok [] else syntax_fault line
form line [] (sign ∷ signs) = syntax_fault line
form line (nest ∷ nests) (sign ∷ signs) = do
  next ← turn line nest sign
  with_front next.0 (form line (next.1 ++ nests) signs)

-- the events of the flow form that the bytes are
abbrev pub form_of : ℕ → List ℕ → Result (List Event) ReadFault
form_of line bytes = do
  signs ← signs_of (length bytes) line bytes
  form line (BeforeForm ∷ []) signs
