-- Each line of a text gives events and refusals that name it, or a literal that began on it.
use Rattle.std.proofs.Common.{◌≡◌, ◌≤◌, ◌<◌, ℕ, ◌+◌, Bool, true, false, ◌&&◌, List, [], ◌∷◌, ◌++◌, length, nat_lt, nat_le, Option, Some, None, Result, Ok, Err, arith, subst, ◌==◌}
use Rattle.bosh_yaml.specs.declared.bare.Place.TheVariants.{Block}
use Rattle.bosh_yaml.specs.declared.block.Frame.{Frame}
use Rattle.bosh_yaml.specs.declared.block.Frame.TheVariants.{Whole, Done, Item, List as ListAt, Entry, Map as MapAt}
use Rattle.bosh_yaml.specs.declared.event.Event.{Event}
use Rattle.bosh_yaml.specs.declared.event.Event.TheVariants as event
use Rattle.bosh_yaml.specs.declared.fault.ReadFault.{ReadFault}
use Rattle.bosh_yaml.specs.declared.literal.Header.{Header}
use Rattle.bosh_yaml.specs.declared.scan.Mode.{Mode}
use Rattle.bosh_yaml.specs.declared.scan.Mode.TheVariants.{Start, Outside, Literal}
use Rattle.bosh_yaml.specs.declared.word.Word.{Word}
use Rattle.bosh_yaml.specs.Block.{closing, place_dash, place_end, place_key, place_value}
use Rattle.bosh_yaml.specs.Content.{begins_form, chomping_of, content_at, entry_at, flow_at, form_at, items_at, key_at, key_or_scalar, literal_at, Outcome, scalar_at, value_at}
use Rattle.bosh_yaml.specs.Events.{content_line, end_by_mode, events_from, events_of, first_line, fixed_indent, is_marker, is_readable, line_by_mode, literal_event, literal_line, next_mode, one_line, plain_line, Scan, Scanned, start}
use Rattle.bosh_yaml.specs.Flow.{form_of}
use Rattle.bosh_yaml.specs.Lines.{begins, is_blank, is_end, is_gap, lines_of, skip_spaces}
use Rattle.bosh_yaml.specs.Literal.{indentation, is_spaces}
use Rattle.bosh_yaml.specs.Nodes.{Keys, line_or, line_of_repeat, with_new, no_keys}
use Rattle.bosh_yaml.specs.Result.{◌>>=◌}
use Rattle.bosh_yaml.specs.Word.{key_of, text_of, word_at}
use Rattle.bosh_yaml.proofs.NumberedLemmas.{Any, AreOn, Gave, gave_bind, gave_front, gave_if, IsOn, on_append, on_dash, on_form_of, on_key, on_place_key, on_text, on_value, on_word, OnPair}

abbrev HeaderOn : (ℕ → Type 0) → Option Header → Type 0
HeaderOn P None = Unit {0}
HeaderOn P (Some header) = P header.line

abbrev OutcomeOn : (ℕ → Type 0) → Outcome → Type 0
OutcomeOn P o = AreOn P o.0 × HeaderOn P o.1.1

abbrev pub ModeOn : (ℕ → Type 0) → Mode → Type 0
ModeOn P Start = Unit {0}
ModeOn P Outside = Unit {0}
ModeOn P (Literal header indent) = P header.line

abbrev pub ScannedOn : (ℕ → Type 0) → Scanned → Type 0
ScannedOn P s = AreOn P s.0 × ModeOn P s.1.mode

module _ (P : ℕ → Type 0) where
  outcome_behind : (es : List Event) (read : Result Outcome ReadFault) → AreOn P es → Gave P (OutcomeOn P) read → Gave P (OutcomeOn P) (read >>= λ o. Ok (es ++ o.0, o.1))
  outcome_behind es (Ok o) h k = (on_append P es o.0 h k.0, k.1)
  outcome_behind es (Err e) h k = k

  mode_on : (header : Option Header) → HeaderOn P header → ModeOn P (next_mode header)
  mode_on None h = tt
  mode_on (Some header) h = h

  on_literal_event : (header : Header) (indent : Option ℕ) (body : List (List ℕ)) → P header.line → Gave P (IsOn P) (literal_event header indent body)
  on_literal_event header indent body p = gave_bind P Any (IsOn P) (text_of header.line _) _ (on_text P header.line p _) (λ text h. tt)

  on_closing : (frame : Frame) → AreOn P (closing frame)
  on_closing Whole = (tt, tt)
  on_closing Done = tt
  on_closing (Item at) = (tt, (tt, tt))
  on_closing (ListAt at) = (tt, tt)
  on_closing (Entry at) = (tt, (tt, tt))
  on_closing (MapAt at) = (tt, tt)

  on_end : (frames : List Frame) → AreOn P (place_end frames)
  on_end [] = tt
  on_end (frame ∷ frames) = on_append P (closing frame) (place_end frames) (on_closing frame) (on_end frames)

  pub on_end_by_mode : (mode : Mode) (frames : List Frame) (body : List (List ℕ)) → ModeOn P mode → Gave P (AreOn P) (end_by_mode mode frames body)
  on_end_by_mode Start frames body m = on_end frames
  on_end_by_mode Outside frames body m = on_end frames
  on_end_by_mode (Literal header indent) frames body m = gave_bind P (IsOn P) (AreOn P) (literal_event header indent body) _ (on_literal_event header indent body m) (λ e h. (h, on_end frames))

  module _ (line : ℕ) (p : P line) where
    on_scalar : (column : ℕ) (frames : List Frame) (word : Word) (rest : List ℕ) → Gave P (OutcomeOn P) (scalar_at line column frames (word, rest))
    on_scalar column frames word rest =
        gave_if P (OutcomeOn P) (is_end rest) _ _ (gave_bind P Any (OutcomeOn P) (place_value line column frames) _ (on_value P line p column frames) (λ after h. ((tt, tt), tt))) p

    on_flow : (column : ℕ) (frames : List Frame) (bytes : List ℕ) → Gave P (OutcomeOn P) (flow_at line column frames bytes)
    on_flow column frames bytes =
        gave_bind P Any (OutcomeOn P) (place_value line column frames) _ (on_value P line p column frames) (λ after h.
        gave_bind P (AreOn P) (OutcomeOn P) (form_of line bytes) _ (on_form_of P line p bytes) (λ events k. (k, tt)))

    on_chomping : (bytes : List ℕ) → Gave P Any (chomping_of line bytes)
    on_chomping [] = tt
    on_chomping (b ∷ bs) = gave_if P Any (b == 45) _ _ (gave_if P Any (is_end bs) _ _ tt p) (gave_if P Any (is_end (b ∷ bs)) _ _ tt p)

    on_literal : (owner : Option ℕ) (column : ℕ) (frames : List Frame) (bytes : List ℕ) → Gave P (OutcomeOn P) (literal_at line owner column frames bytes)
    on_literal None column frames bytes = p
    on_literal (Some owner) column frames bytes =
        gave_bind P Any (OutcomeOn P) (chomping_of line bytes) _ (on_chomping bytes) (λ chomping h.
        gave_bind P Any (OutcomeOn P) (place_value line column frames) _ (on_value P line p column frames) (λ after k. (tt, p)))

    on_form_at : (owner : Option ℕ) (column : ℕ) (frames : List Frame) (b : ℕ) (bs : List ℕ) → Gave P (OutcomeOn P) (form_at line owner column frames b bs)
    on_form_at owner column frames b bs = gave_if P (OutcomeOn P) (b == 124) _ _ (on_literal owner column frames bs) (on_flow column frames (b ∷ bs))

    on_value_at : (owner : Option ℕ) (column : ℕ) (frames : List Frame) (bytes : List ℕ) → Gave P (OutcomeOn P) (value_at line owner column frames bytes)
    on_value_at owner column frames [] = p
    on_value_at owner column frames (b ∷ bs) =
        gave_if P (OutcomeOn P) (begins_form b) _ _ (on_form_at owner column frames b bs)
        (gave_bind P Any (OutcomeOn P) (word_at Block line (b ∷ bs)) _ (on_word P line p Block (b ∷ bs)) (λ w h. on_scalar column frames w.0 w.1))

    on_entry : (column : ℕ) (frames : List Frame) (bytes : List ℕ) → Gave P (OutcomeOn P) (entry_at line column frames bytes)
    on_entry column frames bytes = gave_if P (OutcomeOn P) (is_end bytes) _ _ (tt, tt) (on_value_at (Some column) (column + 1) frames (skip_spaces bytes))

    on_key_at : (column : ℕ) (frames : List Frame) (word : Word) (bytes : List ℕ) → Gave P (OutcomeOn P) (key_at line column frames word bytes)
    on_key_at column frames word bytes =
        gave_bind P Any (OutcomeOn P) (key_of line word) _ (on_key P line p word) (λ key h.
        gave_bind P (OnPair P) (OutcomeOn P) (place_key line column key frames) _ (on_place_key P line p column key frames) (λ placed k.
        outcome_behind placed.0 (entry_at line column placed.1 bytes) k (on_entry column placed.1 bytes)))

    on_key_or_scalar : (column : ℕ) (frames : List Frame) (word : Word) (rest : List ℕ) → Gave P (OutcomeOn P) (key_or_scalar line column frames (word, rest))
    on_key_or_scalar column frames word [] = on_scalar column frames word []
    on_key_or_scalar column frames word (b ∷ bs) = gave_if P (OutcomeOn P) (b == 58 && is_gap bs) _ _ (on_key_at column frames word bs) (on_scalar column frames word (b ∷ bs))

    on_content : (owner : Option ℕ) (column : ℕ) (frames : List Frame) (bytes : List ℕ) → Gave P (OutcomeOn P) (content_at line owner column frames bytes)
    on_content owner column frames [] = p
    on_content owner column frames (b ∷ bs) =
        gave_if P (OutcomeOn P) (begins_form b) _ _ (on_form_at owner column frames b bs)
        (gave_bind P Any (OutcomeOn P) (word_at Block line (b ∷ bs)) _ (on_word P line p Block (b ∷ bs)) (λ w h. on_key_or_scalar column frames w.0 w.1))

    on_items : (owner : Option ℕ) (column : ℕ) (frames : List Frame) (bytes : List ℕ) → Gave P (OutcomeOn P) (items_at line owner column frames bytes)
    on_items owner column frames [] = (tt, tt)
    on_items owner column frames (b ∷ bs) =
        gave_if P (OutcomeOn P) (b == 32) _ _ (on_items owner (column + 1) frames bs)
        (gave_if P (OutcomeOn P) (b == 45 && is_gap bs) _ _
        (gave_bind P (OnPair P) (OutcomeOn P) (place_dash line column frames) _ (on_dash P line p column frames) (λ placed k.
        outcome_behind placed.0 (items_at line (Some column) (column + 1) placed.1 bs) k (on_items (Some column) (column + 1) placed.1 bs)))
        (gave_if P (OutcomeOn P) (b == 35) _ _ (tt, tt) (on_content owner column frames (b ∷ bs))))

    on_content_line : (frames : List Frame) (bytes : List ℕ) → Gave P (ScannedOn P) (content_line line frames bytes)
    on_content_line frames bytes =
        gave_if P (ScannedOn P) (begins 9 (skip_spaces bytes)) _ _ p
        (gave_bind P (OutcomeOn P) (ScannedOn P) (items_at line None 0 frames bytes) _ (on_items None 0 frames bytes) (λ o h. (h.0, mode_on o.1.1 h.1)))

    pub on_plain_line : (mode : Mode) (frames : List Frame) (bytes : List ℕ) → ModeOn P mode → Gave P (ScannedOn P) (plain_line mode line frames bytes)
    on_plain_line mode frames bytes m = gave_if P (ScannedOn P) (is_blank bytes) _ _ (tt, m) (on_content_line frames bytes)

    pub on_first_line : (frames : List Frame) (bytes : List ℕ) → Gave P (ScannedOn P) (first_line line frames bytes)
    on_first_line frames bytes = gave_if P (ScannedOn P) (is_marker bytes) _ _ (tt, tt) (on_plain_line Start frames bytes tt)

    on_fixed : (indent : Option ℕ) (found : ℕ) → Gave P Any (fixed_indent line indent found)
    on_fixed None found = tt
    on_fixed (Some indent) found = gave_if P Any (nat_le indent found) _ _ tt p

    on_literal_line : (header : Header) (indent : Option ℕ) (frames : List Frame) (body : List (List ℕ)) (bytes : List ℕ) → P header.line → Gave P (ScannedOn P) (literal_line header indent line frames body bytes)
    on_literal_line header indent frames body bytes m =
        gave_if P (ScannedOn P) (is_spaces bytes) _ _ (tt, m)
        (gave_if P (ScannedOn P) (nat_lt header.owner (indentation bytes)) _ _
        (gave_bind P Any (ScannedOn P) (fixed_indent line indent (indentation bytes)) _ (on_fixed indent (indentation bytes)) (λ fixed h. (tt, m)))
        (gave_bind P (IsOn P) (ScannedOn P) (literal_event header indent body) _ (on_literal_event header indent body m) (λ e h.
        gave_bind P (ScannedOn P) (ScannedOn P) (plain_line Outside line frames bytes) _ (on_plain_line Outside frames bytes tt) (λ next k. ((h, k.0), k.1)))))

    on_line_by_mode : (mode : Mode) (frames : List Frame) (body : List (List ℕ)) (bytes : List ℕ) → ModeOn P mode → Gave P (ScannedOn P) (line_by_mode mode line frames body bytes)
    on_line_by_mode Start frames body bytes m = on_first_line frames bytes
    on_line_by_mode Outside frames body bytes m = on_plain_line Outside frames bytes tt
    on_line_by_mode (Literal header indent) frames body bytes m = on_literal_line header indent frames body bytes m

    on_one_line : (scan : Scan) (bytes : List ℕ) → ModeOn P scan.mode → Gave P (ScannedOn P) (one_line line scan bytes)
    on_one_line scan bytes m = gave_if P (ScannedOn P) (is_readable bytes) _ _ (on_line_by_mode scan.mode scan.frames scan.body bytes m) p

  on_events : (line : ℕ) (scan : Scan) (lines : List (List ℕ)) → ModeOn P scan.mode → ((k : ℕ) → line ≤ k → k < line + length lines → P k) → Gave P (AreOn P) (events_from line scan lines)
  on_events line scan [] m all = on_end_by_mode scan.mode scan.frames scan.body m
  on_events line scan (bytes ∷ lines) m all =
      let here : P line = all line (omega arith) (omega arith) in
      gave_bind P (ScannedOn P) (AreOn P) (one_line line scan bytes) _ (on_one_line line here scan bytes m) (λ next h.
      gave_front P next.0 (events_from (line + 1) next.1 lines) h.0 (on_events (line + 1) next.1 lines h.1 (λ k a b. all k (omega arith) (omega arith))))

  -- a repeated key is one of the events'
  or_rest : (b : Bool) (at line : ℕ) (rest : Option ℕ) → P at → (rest ≡ Some line → P line) → line_or b at rest ≡ Some line → P line
  or_rest true at line rest p more h = let same : at ≡ line = cc in subst P same p
  or_rest false at line rest p more h = more h

  pub repeated_on : (all : List Keys) (events : List Event) (line : ℕ) → AreOn P events → line_of_repeat all events ≡ Some line → P line
  repeated_on all [] line on h = absurd (cc)
  repeated_on all (event.Scalar leaf ∷ events) line on h = repeated_on all events line on.1 h
  repeated_on all (event.OpenList ∷ events) line on h = repeated_on (no_keys ∷ all) events line on.1 h
  repeated_on all (event.OpenMap ∷ events) line on h = repeated_on (no_keys ∷ all) events line on.1 h
  repeated_on [] (event.Key at key ∷ events) line on h = repeated_on [] events line on.1 h
  repeated_on (keys ∷ all) (event.Key at key ∷ events) line on h =
      or_rest (keys key) at line (line_of_repeat (with_new keys key ∷ all) events) on.0 (repeated_on (with_new keys key ∷ all) events line on.1) h
  repeated_on [] (event.Close ∷ events) line on h = repeated_on [] events line on.1 h
  repeated_on (keys ∷ all) (event.Close ∷ events) line on h = repeated_on all events line on.1 h

-- lines are counted from 1
abbrev pub IsLineOf : List ℕ → ℕ → Type 0
IsLineOf text line = (1 ≤ line) × (line ≤ length (lines_of text))

pub on_events_of : (text : List ℕ) → Gave (IsLineOf text) (AreOn (IsLineOf text)) (events_of text)
on_events_of text = on_events (IsLineOf text) 1 start (lines_of text) tt (λ k a b. (a, omega arith))
