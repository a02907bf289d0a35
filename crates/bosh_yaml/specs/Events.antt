-- The events of a text, line by line (this project's profile of YAML 1.2).
use Rattle.std.specs.Prelude.{ℕ, ◌+◌, Bool, false, ◌&&◌, List, [], ◌∷◌, ◌++◌, Option, Some, None, Result, Ok, nat_lt, nat_le, ◌==◌, if◌then◌else◌}
use Rattle.std.specs.Str.{is_utf8}
use Rattle.bosh_yaml.specs.declared.block.Frame.{Frame}
use Rattle.bosh_yaml.specs.declared.block.Frame.TheVariants.{Whole}
use Rattle.bosh_yaml.specs.declared.event.Event.{Event}
use Rattle.bosh_yaml.specs.declared.event.Event.TheVariants.{Scalar}
use Rattle.bosh_yaml.specs.declared.fault.ReadFault.{ReadFault}
use Rattle.bosh_yaml.specs.declared.literal.Header.{Header}
use Rattle.bosh_yaml.specs.declared.plain.Leaf.TheVariants.{Text}
use Rattle.bosh_yaml.specs.declared.scan.Mode.{Mode}
use Rattle.bosh_yaml.specs.declared.scan.Mode.TheVariants.{Start, Outside, Literal}
use Rattle.bosh_yaml.specs.Block.{place_end}
use Rattle.bosh_yaml.specs.Content.{Outcome, items_at}
use Rattle.bosh_yaml.specs.Lines.{begins, is_blank, is_clean, is_end, lines_of, skip_spaces}
use Rattle.bosh_yaml.specs.Literal.{indentation, is_spaces, literal_text}
use Rattle.bosh_yaml.specs.Result.{◌>>=◌, with_front}
use Rattle.bosh_yaml.specs.Word.{syntax_fault, text_of}

-- between two lines: what is open, whether a literal is, and the lines of it
pub record Scan : Type 0 where
  pub frames : List Frame
  pub mode : Mode
  pub body : List (List ℕ)

-- the events of a line, and what is open after it
abbrev pub Scanned : Type 0
Scanned = List Event × Scan

-- UTF-8 without control bytes but tab
abbrev pub is_readable : List ℕ → Bool
is_readable line = is_utf8 line && is_clean line

-- `---` at the beginning of a line
abbrev pub is_marker : List ℕ → Bool
is_marker (a ∷ b ∷ c ∷ rest) = (a == 45 && (b == 45 && c == 45)) && is_end rest
is_marker line = false

abbrev pub next_mode : Option Header → Mode
next_mode None = Outside
next_mode (Some header) = Literal header None

abbrev pub scan_of : Outcome → Scanned
scan_of o = (o.0, record { frames = o.1.0; mode = next_mode o.1.1; body = [] })

-- a line outside a literal; no tab stands in an indentation
abbrev pub content_line : ℕ → List Frame → List ℕ → Result Scanned ReadFault
content_line line frames bytes = if begins 9 (skip_spaces bytes) then syntax_fault line else (do
  outcome ← items_at line None 0 frames bytes
  Ok (scan_of outcome))

abbrev pub plain_line : Mode → ℕ → List Frame → List ℕ → Result Scanned ReadFault
plain_line mode line frames bytes =
    if is_blank bytes then Ok ([], record { frames = frames; mode = mode; body = [] }) else content_line line frames bytes

-- before the first line with content, which may be a marker
abbrev pub first_line : ℕ → List Frame → List ℕ → Result Scanned ReadFault
first_line line frames bytes =
    if is_marker bytes then Ok ([], record { frames = frames; mode = Outside; body = [] }) else plain_line Start line frames bytes

-- the text of a literal whose lines have come
abbrev pub literal_event : Header → Option ℕ → List (List ℕ) → Result Event ReadFault
literal_event header indent body = do
  text ← text_of header.line (literal_text header.chomping indent body)
  Ok (Scalar (Text text))

-- the first line with other content than spaces fixes the indentation, and no later one may have less
abbrev pub fixed_indent : ℕ → Option ℕ → ℕ → Result (Option ℕ) ReadFault
fixed_indent line None found = Ok (Some found)
fixed_indent line (Some indent) found = if nat_le indent found then Ok (Some indent) else syntax_fault line

abbrev pub more_body : List Frame → Header → Option ℕ → List (List ℕ) → List ℕ → Scanned
more_body frames header indent body bytes = ([], record { frames = frames; mode = Literal header indent; body = body ++ bytes ∷ [] })

-- a line while a literal is open
abbrev pub literal_line : Header → Option ℕ → ℕ → List Frame → List (List ℕ) → List ℕ → Result Scanned ReadFault
literal_line header indent line frames body bytes =
    if is_spaces bytes then Ok (more_body frames header indent body bytes)
    else if nat_lt header.owner (indentation bytes) then (do
      fixed ← fixed_indent line indent (indentation bytes)
      Ok (more_body frames header fixed body bytes))
    else (do
      event ← literal_event header indent body
      next ← plain_line Outside line frames bytes
      Ok (event ∷ next.0, next.1))

abbrev pub line_by_mode : Mode → ℕ → List Frame → List (List ℕ) → List ℕ → Result Scanned ReadFault
line_by_mode Start line frames body bytes = first_line line frames bytes
line_by_mode Outside line frames body bytes = plain_line Outside line frames bytes
line_by_mode (Literal header indent) line frames body bytes = literal_line header indent line frames body bytes

abbrev pub one_line : ℕ → Scan → List ℕ → Result Scanned ReadFault
one_line line scan bytes = if is_readable bytes then line_by_mode scan.mode line scan.frames scan.body bytes else syntax_fault line

abbrev pub end_by_mode : Mode → List Frame → List (List ℕ) → Result (List Event) ReadFault
end_by_mode Start frames body = Ok (place_end frames)
end_by_mode Outside frames body = Ok (place_end frames)
end_by_mode (Literal header indent) frames body = do
  event ← literal_event header indent body
  Ok (event ∷ place_end frames)

-- the events of lines, of which the first has this number
abbrev pub events_from : ℕ → Scan → List (List ℕ) → Result (List Event) ReadFault
events_from line scan [] = end_by_mode scan.mode scan.frames scan.body
events_from line scan (bytes ∷ lines) = do
  next ← one_line line scan bytes
  with_front next.0 (events_from (line + 1) next.1 lines)

-- before the first line
abbrev pub start : Scan
start = record { frames = Whole ∷ []; mode = Start; body = [] }

-- the events of a text
abbrev pub events_of : List ℕ → Result (List Event) ReadFault
events_of text = events_from 1 start (lines_of text)
