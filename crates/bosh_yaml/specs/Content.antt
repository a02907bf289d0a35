-- One line with content (this project's profile of YAML 1.2): dashes, then a key, a value or both.
use Rattle.std.specs.Prelude.{ℕ, ◌+◌, Bool, ◌&&◌, ◌||◌, List, [], ◌∷◌, ◌++◌, Option, Some, None, Result, Ok, ◌==◌, if◌then◌else◌}
use Rattle.bosh_yaml.specs.declared.bare.Place.TheVariants.{Block}
use Rattle.bosh_yaml.specs.declared.block.Frame.{Frame}
use Rattle.bosh_yaml.specs.declared.event.Event.{Event}
use Rattle.bosh_yaml.specs.declared.event.Event.TheVariants.{Scalar}
use Rattle.bosh_yaml.specs.declared.fault.ReadFault.{ReadFault}
use Rattle.bosh_yaml.specs.declared.literal.Chomping.{Chomping}
use Rattle.bosh_yaml.specs.declared.literal.Chomping.TheVariants.{Clip, Strip}
use Rattle.bosh_yaml.specs.declared.literal.Header.{Header}
use Rattle.bosh_yaml.specs.declared.word.Word.{Word}
use Rattle.bosh_yaml.specs.Block.{place_dash, place_key, place_value}
use Rattle.bosh_yaml.specs.Flow.{form_of}
use Rattle.bosh_yaml.specs.Lines.{is_end, is_gap, skip_spaces}
use Rattle.bosh_yaml.specs.Result.{◌>>=◌}
use Rattle.bosh_yaml.specs.Word.{word_at, leaf_of, key_of, syntax_fault}

-- the events of a line, the frames that are open after it, and the literal that begins at its end
abbrev pub Outcome : Type 0
Outcome = List Event × (List Frame × Option Header)

abbrev pub add_events : List Event → Result Outcome ReadFault → Result Outcome ReadFault
add_events events read = read >>= λ o. Ok (events ++ o.0, o.1)

abbrev pub scalar_at : ℕ → ℕ → List Frame → Word × List ℕ → Result Outcome ReadFault
scalar_at line column frames (word, rest) = if is_end rest then (do
  after ← place_value line column frames
  Ok (Scalar (leaf_of word) ∷ [], (after, None))) else syntax_fault line

abbrev pub flow_at : ℕ → ℕ → List Frame → List ℕ → Result Outcome ReadFault
flow_at line column frames bytes = do
  after ← place_value line column frames
  events ← form_of line bytes
  Ok (events, (after, None))

-- behind the `|`: `-`, and the line's end
abbrev pub chomping_of : ℕ → List ℕ → Result Chomping ReadFault
chomping_of line [] = Ok Clip
chomping_of line (b ∷ bs) =
    if b == 45 then (if is_end bs then Ok Strip else syntax_fault line)
    else if is_end (b ∷ bs) then Ok Clip
    else syntax_fault line

-- a literal stands behind a dash or a key, whose column is its owner's
abbrev pub literal_at : ℕ → Option ℕ → ℕ → List Frame → List ℕ → Result Outcome ReadFault
literal_at line None column frames bytes = syntax_fault line
literal_at line (Some owner) column frames bytes = do
  chomping ← chomping_of line bytes
  after ← place_value line column frames
  Ok ([], (after, Some (record { line = line; owner = owner; chomping = chomping })))

-- whether a literal or a flow form begins with this byte
abbrev pub begins_form : ℕ → Bool
begins_form b = b == 124 || (b == 91 || b == 123)

abbrev pub form_at : ℕ → Option ℕ → ℕ → List Frame → ℕ → List ℕ → Result Outcome ReadFault
form_at line owner column frames b bs =
    if b == 124 then literal_at line owner column frames bs else flow_at line column frames (b ∷ bs)

-- a value behind a key
abbrev pub value_at : ℕ → Option ℕ → ℕ → List Frame → List ℕ → Result Outcome ReadFault
value_at line owner column frames [] = syntax_fault line
value_at line owner column frames (b ∷ bs) = if begins_form b then form_at line owner column frames b bs else (do
  word ← word_at Block line (b ∷ bs)
  scalar_at line column frames word)

abbrev pub entry_at : ℕ → ℕ → List Frame → List ℕ → Result Outcome ReadFault
entry_at line column frames bytes =
    if is_end bytes then Ok ([], (frames, None)) else value_at line (Some column) (column + 1) frames (skip_spaces bytes)

abbrev pub key_at : ℕ → ℕ → List Frame → Word → List ℕ → Result Outcome ReadFault
key_at line column frames word bytes = do
  key ← key_of line word
  placed ← place_key line column key frames
  add_events placed.0 (entry_at line column placed.1 bytes)

-- a scalar is a key where `:` and the end or a space follow it
abbrev pub key_or_scalar : ℕ → ℕ → List Frame → Word × List ℕ → Result Outcome ReadFault
key_or_scalar line column frames (word, []) = scalar_at line column frames (word, [])
key_or_scalar line column frames (word, b ∷ bs) =
    if b == 58 && is_gap bs then key_at line column frames word bs else scalar_at line column frames (word, b ∷ bs)

-- what stands behind the dashes
abbrev pub content_at : ℕ → Option ℕ → ℕ → List Frame → List ℕ → Result Outcome ReadFault
content_at line owner column frames [] = syntax_fault line
content_at line owner column frames (b ∷ bs) = if begins_form b then form_at line owner column frames b bs else (do
  word ← word_at Block line (b ∷ bs)
  key_or_scalar line column frames word)

-- the rest of a line from a column on; the owner is the last dash's column
abbrev pub items_at : ℕ → Option ℕ → ℕ → List Frame → List ℕ → Result Outcome ReadFault
items_at line owner column frames [] = Ok ([], (frames, None))
items_at line owner column frames (b ∷ bs) =
    if b == 32 then items_at line owner (column + 1) frames bs
    else if b == 45 && is_gap bs then (do
      placed ← place_dash line column frames
      add_events placed.0 (items_at line (Some column) (column + 1) placed.1 bs))
    else if b == 35 then Ok ([], (frames, None))
    else content_at line owner column frames (b ∷ bs)
