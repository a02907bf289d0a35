-- How readable lines move the reader: blank lines, lines with content, and the lines of a literal.
use Rattle.std.proofs.Common.{◌≡◌, ◌≤◌, ◌<◌, ℕ, zero, suc, ◌+◌, Bool, true, false, not, ◌&&◌, ◌||◌, List, [], ◌∷◌, ◌++◌, Option, Some, None, Result, Ok, Err, append_assoc, append-nil, refl, ap, sym, ◌∙◌, arith, ◌==◌, if◌then◌else◌, inl, inr}
use Rattle.std.proofs.lemmas.Bool.Decides.{nat_tests}
use Rattle.std.specs.Str.{is_utf8}
use Rattle.bosh_yaml.specs.declared.block.Frame.{Frame}
use Rattle.bosh_yaml.specs.declared.event.Event.{Event}
use Rattle.bosh_yaml.specs.declared.event.Event.TheVariants.{Scalar}
use Rattle.bosh_yaml.specs.declared.fault.ReadFault.{ReadFault}
use Rattle.bosh_yaml.specs.declared.literal.Header.{Header}
use Rattle.bosh_yaml.specs.declared.plain.Leaf.TheVariants.{Text}
use Rattle.bosh_yaml.specs.declared.scan.Mode.TheVariants.{Outside, Literal}
use Rattle.bosh_yaml.specs.Content.{Outcome, add_events, items_at}
use Rattle.bosh_yaml.specs.Events.{Scan, Scanned, end_by_mode, events_from, fixed_indent, line_by_mode, plain_line, scan_of}
use Rattle.bosh_yaml.specs.Lines.{begins, is_blank, is_comment, is_end, skip_spaces}
use Rattle.bosh_yaml.specs.Literal.{indentation, is_spaces, literal_text}
use Rattle.bosh_yaml.specs.Result.{◌>>=◌, with_front}
use Rattle.bosh_yaml.specs.SpelledBlock.{Each, spaces, IsBlank, begins_content, IsBodyLine, IsWithin, IsIndentation}
use Rattle.bosh_yaml.specs.Spelling.{IsReadable}
use Rattle.bosh_yaml.proofs.ResultLemmas.{with_front_twice}
use Rattle.bosh_yaml.proofs.FrameLemmas.{not_less, is_less, is_at_most}
use Rattle.bosh_yaml.proofs.SpelledFlowLemmas.{with_none}

abbrev pub Lines : Type 0
Lines = List (List ℕ)

abbrev pub Events : Type 0
Events = Result (List Event) ReadFault

-- the events of lines that are readable
abbrev pub moves : ℕ → Scan → Lines → Events
moves line scan [] = end_by_mode scan.mode scan.frames scan.body
moves line scan (bytes ∷ lines) = do
  next ← line_by_mode scan.mode line scan.frames scan.body bytes
  with_front next.0 (moves (line + 1) next.1 lines)

pub readable_moves : (line : ℕ) (scan : Scan) (lines : Lines) → Each IsReadable lines → events_from line scan lines ≡ moves line scan lines
readable_moves line scan [] h = refl
readable_moves line scan (bytes ∷ lines) h =
    rw h.0 (then_moves (line_by_mode scan.mode line scan.frames scan.body bytes) (λ s. readable_moves (line + 1) s lines h.1))
  where
    then_moves : (read : Result Scanned ReadFault) → ((s : Scan) → events_from (line + 1) s lines ≡ moves (line + 1) s lines) → (read >>= λ next. with_front next.0 (events_from (line + 1) next.1 lines)) ≡ (read >>= λ next. with_front next.0 (moves (line + 1) next.1 lines))
    then_moves (Ok s) k = ap (λ r. with_front s.0 r) (k s.1)
    then_moves (Err e) k = refl

-- the number of the line behind lines
abbrev pub after_lines : ℕ → Lines → ℕ
after_lines line [] = line
after_lines line (bytes ∷ lines) = after_lines (line + 1) lines

pub after_append : (line : ℕ) (lines more : Lines) → after_lines line (lines ++ more) ≡ after_lines (after_lines line lines) more
after_append line [] more = refl
after_append line (bytes ∷ lines) more = after_append (line + 1) lines more

-- outside a literal
abbrev pub outside : List Frame → Scan
outside frames = record { frames = frames; mode = Outside; body = [] }

-- what follows a line of this outcome
abbrev pub after_outcome : ℕ → Lines → Result Outcome ReadFault → Events
after_outcome line lines read = read >>= λ o. with_front o.0 (moves (line + 1) (scan_of o).1 lines)

pub after_add : (line : ℕ) (lines : Lines) (es : List Event) (read : Result Outcome ReadFault) → after_outcome line lines (add_events es read) ≡ with_front es (after_outcome line lines read)
after_add line lines es (Ok o) = with_front_twice es o.0 (moves (line + 1) (scan_of o).1 lines)
after_add line lines es (Err e) = refl

pub blank_moves : (line : ℕ) (frames : List Frame) (blanks lines : Lines) → Each IsBlank blanks → moves line (outside frames) (blanks ++ lines) ≡ moves (after_lines line blanks) (outside frames) lines
blank_moves line frames [] lines h = refl
blank_moves line frames (bytes ∷ blanks) lines h =
    rw h.0 (with_none (moves (line + 1) (outside frames) (blanks ++ lines)) ∙ blank_moves (line + 1) frames blanks lines h.1)

pub skip_content : (bytes : List ℕ) → begins_content bytes ≡ true → (skip_spaces bytes ≡ bytes) × (is_comment bytes ≡ false) × (begins 9 bytes ≡ false)
skip_content [] h = cc
skip_content (b ∷ bs) h = by (b == 32) (b == 9) (b == 35) h refl refl refl
  where
    by : (s t c : Bool) → not (s || (t || c)) ≡ true → (b == 32) ≡ s → (b == 9) ≡ t → (b == 35) ≡ c → (skip_spaces (b ∷ bs) ≡ b ∷ bs) × (is_comment (b ∷ bs) ≡ false) × (begins 9 (b ∷ bs) ≡ false)
    by false false false h p q r = (rw p refl, r, q)
    by true t c h p q r = absurd (cc)
    by false true c h p q r = absurd (cc)
    by false false true h p q r = absurd (cc)

pub skip_indentation : (n : ℕ) (bytes : List ℕ) → skip_spaces (spaces n ++ bytes) ≡ skip_spaces bytes
skip_indentation zero bytes = refl
skip_indentation (suc n) bytes = skip_indentation n bytes

pub items_spaces : (line : ℕ) (owner : Option ℕ) (column n : ℕ) (frames : List Frame) (bytes : List ℕ) → items_at line owner column frames (spaces n ++ bytes) ≡ items_at line owner (column + n) frames bytes
items_spaces line owner column zero frames bytes = let same : column ≡ column + 0 = omega arith in ap (λ c. items_at line owner c frames bytes) same
items_spaces line owner column (suc n) frames bytes =
    let same : column + 1 + n ≡ column + suc n = omega arith in
    items_spaces line owner (column + 1) n frames bytes ∙ ap (λ c. items_at line owner c frames bytes) same

then_scan : (line : ℕ) (lines : Lines) (read : Result Outcome ReadFault) → ((read >>= λ o. Ok (scan_of o)) >>= λ next. with_front next.0 (moves (line + 1) next.1 lines)) ≡ after_outcome line lines read
then_scan line lines (Ok o) = refl
then_scan line lines (Err e) = refl

-- a line that is not blank and has no tab in its indentation
pub line_moves : (line : ℕ) (frames : List Frame) (bytes : List ℕ) (lines : Lines) → is_blank bytes ≡ false → begins 9 (skip_spaces bytes) ≡ false → moves line (outside frames) (bytes ∷ lines) ≡ after_outcome line lines (items_at line None 0 frames bytes)
line_moves line frames bytes lines b t = rw (b, t) (then_scan line lines (items_at line None 0 frames bytes))

pub content_moves : (line column : ℕ) (frames : List Frame) (bytes : List ℕ) (lines : Lines) → begins_content bytes ≡ true → moves line (outside frames) ((spaces column ++ bytes) ∷ lines) ≡ after_outcome line lines (items_at line None column frames bytes)
content_moves line column frames bytes lines h =
    let c = skip_content bytes h in
    let skipped : skip_spaces (spaces column ++ bytes) ≡ bytes = skip_indentation column bytes ∙ c.0 in
    let blank : is_blank (spaces column ++ bytes) ≡ false = ap (λ t. is_comment t) skipped ∙ c.1 in
    let tab : begins 9 (skip_spaces (spaces column ++ bytes)) ≡ false = ap (λ t. begins 9 t) skipped ∙ c.2 in
    let same : 0 + column ≡ column = omega arith in
    line_moves line frames (spaces column ++ bytes) lines blank tab
    ∙ ap (λ read. after_outcome line lines read) (items_spaces line None 0 column frames bytes ∙ ap (λ c. items_at line None c frames bytes) same)

-- nothing more stands on the line
items_blank : (line : ℕ) (owner : Option ℕ) (column : ℕ) (frames : List Frame) (bytes : List ℕ) → is_blank bytes ≡ true → items_at line owner column frames bytes ≡ Ok ([], (frames, None))
items_blank line owner column frames [] h = refl
items_blank line owner column frames (b ∷ bs) h = by (b == 32) refl h (λ k. items_blank line owner (column + 1) frames bs k)
  where
    at_comment : (b : ℕ) → (b == 35) ≡ true → (b == 45) ≡ false
    at_comment b h = grind (arith, nat_tests)

    by : (s : Bool) → (b == 32) ≡ s → is_comment (if s then skip_spaces bs else b ∷ bs) ≡ true → (is_blank bs ≡ true → items_at line owner (column + 1) frames bs ≡ Ok ([], (frames, None))) → items_at line owner column frames (b ∷ bs) ≡ Ok ([], (frames, None))
    by true p h k = rw p (k h)
    by false p h k = rw (p, at_comment b h, h) refl

pub items_end : (line : ℕ) (owner : Option ℕ) (column : ℕ) (frames : List Frame) (bytes : List ℕ) → is_end bytes ≡ true → items_at line owner column frames bytes ≡ Ok ([], (frames, None))
items_end line owner column frames [] h = refl
items_end line owner column frames (b ∷ bs) h = by (b == 32) refl h
  where
    by : (s : Bool) → (b == 32) ≡ s → (s && is_blank bs) ≡ true → items_at line owner column frames (b ∷ bs) ≡ Ok ([], (frames, None))
    by true p h = rw p (items_blank line owner (column + 1) frames bs h)
    by false p h = absurd (cc)

-- while a literal is open
abbrev pub within_literal : List Frame → Header → Option ℕ → Lines → Scan
within_literal frames header indent body = record { frames = frames; mode = Literal header indent; body = body }

by_spaces : (line : ℕ) (frames : List Frame) (header : Header) (indent : Option ℕ) (body lines : Lines) (bytes : List ℕ) → is_spaces bytes ≡ true → moves line (within_literal frames header indent body) (bytes ∷ lines) ≡ moves (line + 1) (within_literal frames header indent (body ++ bytes ∷ [])) lines
by_spaces line frames header indent body lines bytes h = rw h (with_none (moves (line + 1) (within_literal frames header indent (body ++ bytes ∷ [])) lines))

by_content : (line : ℕ) (frames : List Frame) (header : Header) (indent after : Option ℕ) (body lines : Lines) (bytes : List ℕ) → is_spaces bytes ≡ false → header.owner < indentation bytes → fixed_indent line indent (indentation bytes) ≡ Ok after → moves line (within_literal frames header indent body) (bytes ∷ lines) ≡ moves (line + 1) (within_literal frames header after (body ++ bytes ∷ [])) lines
by_content line frames header indent after body lines bytes h n f = rw (h, is_less header.owner (indentation bytes) n, f) (with_none (moves (line + 1) (within_literal frames header after (body ++ bytes ∷ [])) lines))

owned : (column : ℕ) (line : List ℕ) → is_spaces line ≡ false → IsBodyLine column line → column < indentation line
owned column line s (inl h) = absurd (cc)
owned column line s (inr h) = h

inside : (indent : ℕ) (line : List ℕ) → is_spaces line ≡ false → IsWithin indent line → indent ≤ indentation line
inside indent line s (inl h) = absurd (cc)
inside indent line s (inr h) = h

then_body : (line : ℕ) (frames : List Frame) (header : Header) (indent : Option ℕ) (before body rest : Lines) (bytes : List ℕ) → moves line (within_literal frames header indent ((before ++ bytes ∷ []) ++ body)) rest ≡ moves line (within_literal frames header indent (before ++ bytes ∷ body)) rest
then_body line frames header indent before body rest bytes = ap (λ lines. moves line (within_literal frames header indent lines) rest) (append_assoc before (bytes ∷ []) body)

-- lines of a literal whose indentation is fixed
fixed_moves : (line : ℕ) (frames : List Frame) (header : Header) (indent : ℕ) (before body rest : Lines) → Each (IsBodyLine header.owner) body → Each (IsWithin indent) body → moves line (within_literal frames header (Some indent) before) (body ++ rest) ≡ moves (after_lines line body) (within_literal frames header (Some indent) (before ++ body)) rest
fixed_moves line frames header indent before [] rest h k = ap (λ lines. moves line (within_literal frames header (Some indent) lines) rest) (sym (append-nil before))
fixed_moves line frames header indent before (bytes ∷ body) rest h k =
    one (is_spaces bytes) refl
    ∙ fixed_moves (line + 1) frames header indent (before ++ bytes ∷ []) body rest h.1 k.1
    ∙ then_body (after_lines (line + 1) body) frames header (Some indent) before body rest bytes
  where
    one : (s : Bool) → is_spaces bytes ≡ s → moves line (within_literal frames header (Some indent) before) (bytes ∷ (body ++ rest)) ≡ moves (line + 1) (within_literal frames header (Some indent) (before ++ bytes ∷ [])) (body ++ rest)
    one true p = by_spaces line frames header (Some indent) before (body ++ rest) bytes p
    one false p = by_content line frames header (Some indent) (Some indent) before (body ++ rest) bytes p (owned header.owner bytes p h.0) (rw (is_at_most indent (indentation bytes) (inside indent bytes p k.0)) refl)

-- the lines of a literal
pub body_moves : (line : ℕ) (frames : List Frame) (header : Header) (indent : Option ℕ) (before body rest : Lines) → Each (IsBodyLine header.owner) body → IsIndentation indent body → moves line (within_literal frames header None before) (body ++ rest) ≡ moves (after_lines line body) (within_literal frames header indent (before ++ body)) rest
body_moves line frames header None before [] rest h k = ap (λ lines. moves line (within_literal frames header None lines) rest) (sym (append-nil before))
body_moves line frames header (Some indent) before [] rest h k = absurd k
body_moves line frames header indent before (bytes ∷ body) rest h (inl k) =
    by_spaces line frames header None before (body ++ rest) bytes k.0
    ∙ body_moves (line + 1) frames header indent (before ++ bytes ∷ []) body rest h.1 k.1
    ∙ then_body (after_lines (line + 1) body) frames header indent before body rest bytes
body_moves line frames header indent before (bytes ∷ body) rest h (inr k) =
    by_content line frames header None (Some (indentation bytes)) before (body ++ rest) bytes k.0 (owned header.owner bytes k.0 h.0) refl
    ∙ fixed_moves (line + 1) frames header (indentation bytes) (before ++ bytes ∷ []) body rest h.1 k.2
    ∙ then_body (after_lines (line + 1) body) frames header (Some (indentation bytes)) before body rest bytes
    ∙ ap (λ i. moves (after_lines (line + 1) body) (within_literal frames header i (before ++ bytes ∷ body)) rest) (sym k.1)

-- the end, or a line that no literal of a column less than this takes
abbrev pub Halts : ℕ → Lines → Type 0
Halts least [] = Unit {0}
Halts least (bytes ∷ lines) = (is_spaces bytes ≡ false) × (indentation bytes < least)

then_literal : (event : Event) (read : Result Scanned ReadFault) (f : Scan → Events) → ((read >>= λ (next : Scanned). let t : Scanned = (event ∷ next.0, next.1) in Ok t) >>= λ next. with_front next.0 (f next.1)) ≡ with_front (event ∷ []) (read >>= λ next. with_front next.0 (f next.1))
then_literal event (Ok next) f = with_front_twice (event ∷ []) next.0 (f next.1)
then_literal event (Err e) f = refl

-- there the text of the literal comes
pub literal_ends : (line : ℕ) (frames : List Frame) (header : Header) (indent : Option ℕ) (body lines : Lines) → is_utf8 (literal_text header.chomping indent body) ≡ true → Halts (header.owner + 1) lines → moves line (within_literal frames header indent body) lines ≡ with_front (Scalar (Text (literal_text header.chomping indent body)) ∷ []) (moves line (outside frames) lines)
literal_ends line frames header indent body [] u h = rw u refl
literal_ends line frames header indent body (bytes ∷ lines) u h =
    rw (h.0, not_less header.owner (indentation bytes) (omega arith), u) (then_literal (Scalar (Text (literal_text header.chomping indent body))) (plain_line Outside line frames bytes) (λ s. moves (line + 1) s lines))
