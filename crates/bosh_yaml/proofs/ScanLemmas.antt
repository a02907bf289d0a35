-- One more line of a text.
use Rattle.std.proofs.Common.{◌≡◌, ◌≤◌, ℕ, suc, ◌+◌, ◌-◌, Bool, true, false, List, [], ◌∷◌, ◌++◌, Result, Ok, Err, refl, ap, sym, ◌∙◌, subst, arith, length, ◌==◌, if◌then◌else◌}
use Rattle.std.specs.Str.{is_utf8}
use Rattle.std.proofs.lemmas.Str.{is_utf8-from_IsUtf8}
use Rattle.bosh_yaml.specs.declared.block.Frame.{Frame}
use Rattle.bosh_yaml.specs.declared.scan.Mode.TheVariants.{Start, Outside}
use Rattle.bosh_yaml.specs.Lines.{lines_of, skip_line_ends}
use Rattle.bosh_yaml.proofs.SpelledFlowLemmas.{with_none}
use Rattle.bosh_yaml.specs.declared.event.Event.{Event}
use Rattle.bosh_yaml.specs.declared.fault.ReadFault.{ReadFault}
use Rattle.bosh_yaml.specs.Events.{Scan, Scanned, one_line, events_from}
use Rattle.bosh_yaml.specs.Scanning.{add_scanned, scan_in}
use Rattle.bosh_yaml.specs.Result.{◌>>=◌, Refuses, with_front}
use Rattle.bosh_yaml.proofs.ResultLemmas.{Refuses-bind, Refuses-step, with_front_twice, ok_same}

-- a refused line is a refusal of all
pub line_refused : (e : ReadFault) (whole : Result (List Event) ReadFault) (es : List Event) (line : ℕ) (scan : Scan) (bytes : List ℕ) (lines all : List (List ℕ)) → all ≡ bytes ∷ lines → with_front es (events_from line scan all) ≡ whole → Refuses e (add_scanned es (one_line line scan bytes)) → Refuses e whole
line_refused e whole es line scan bytes lines all p i h =
    let r = Refuses-step e (one_line line scan bytes) (λ (s : Scanned). let t : Scanned = (es ++ s.0, s.1) in t) h in
    subst (Refuses e) (rw p at i) (Refuses-bind e _ _ (Refuses-bind e (one_line line scan bytes) _ r))

scanned : (whole : Result (List Event) ReadFault) (es es' : List Event) (line : ℕ) (scan' : Scan) (lines : List (List ℕ)) (read : Result Scanned ReadFault) → with_front es (read >>= λ s. with_front s.0 (events_from (line + 1) s.1 lines)) ≡ whole → add_scanned es read ≡ Ok (es', scan') → with_front es' (events_from (line + 1) scan' lines) ≡ whole
scanned whole es es' line scan' lines (Ok s) i h =
    let both = ok_same h in
    let front : es ++ s.0 ≡ es' = ap (λ p. p.0) both in
    let back : s.1 ≡ scan' = ap (λ p. p.1) both in
    rw (← front, ← back) (with_front_twice es s.0 (events_from (line + 1) s.1 lines) ∙ i)
scanned whole es es' line scan' lines (Err x) i h = cc

-- a line that is taken adds its events
pub line_more : (whole : Result (List Event) ReadFault) (es es' : List Event) (line : ℕ) (scan scan' : Scan) (bytes : List ℕ) (lines all : List (List ℕ)) → all ≡ bytes ∷ lines → with_front es (events_from line scan all) ≡ whole → add_scanned es (one_line line scan bytes) ≡ Ok (es', scan') → with_front es' (events_from (line + 1) scan' lines) ≡ whole
line_more whole es es' line scan scan' bytes lines all p i h =
    scanned whole es es' line scan' lines (one_line line scan bytes) (rw p at i) h

-- ---- empty lines outside a literal

empty_is_utf8 : is_utf8 [] ≡ true
empty_is_utf8 = is_utf8-from_IsUtf8 [] ([], (refl, refl))

start_any_body : (line : ℕ) (frames : List Frame) (b c lines : List (List ℕ)) → events_from line (scan_in Start frames b) lines ≡ events_from line (scan_in Start frames c) lines
start_any_body line frames b c [] = refl
start_any_body line frames b c (l ∷ ls) = refl

outside_any_body : (line : ℕ) (frames : List Frame) (b c lines : List (List ℕ)) → events_from line (scan_in Outside frames b) lines ≡ events_from line (scan_in Outside frames c) lines
outside_any_body line frames b c [] = refl
outside_any_body line frames b c (l ∷ ls) = refl

-- an empty line changes nothing but the number of the next
abbrev KeepsEmpty : Scan → Type 0
KeepsEmpty scan = (line : ℕ) (lines : List (List ℕ)) → events_from line scan ([] ∷ lines) ≡ events_from (line + 1) scan lines

start_keeps : (frames : List Frame) (body : List (List ℕ)) → KeepsEmpty (scan_in Start frames body)
start_keeps frames body line lines =
    rw empty_is_utf8 (with_none (events_from (line + 1) (scan_in Start frames []) lines) ∙ start_any_body (line + 1) frames [] body lines)

outside_keeps : (frames : List Frame) (body : List (List ℕ)) → KeepsEmpty (scan_in Outside frames body)
outside_keeps frames body line lines =
    rw empty_is_utf8 (with_none (events_from (line + 1) (scan_in Outside frames []) lines) ∙ outside_any_body (line + 1) frames [] body lines)

-- the text behind so many LFs, which are as many lines
abbrev Skips : Scan → ℕ → List ℕ → List ℕ → Type 0
Skips scan line text rest = events_from line scan (lines_of text) ≡ events_from (line + (length text - length rest)) scan (lines_of rest)

pub skips_none : (scan : Scan) (line : ℕ) (text rest : List ℕ) → rest ≡ text → Skips scan line text rest
skips_none scan line text rest e =
    subst (λ r. Skips scan line text r) (sym e) (ap (λ k. events_from k scan (lines_of text)) (omega arith))

no_longer : (text : List ℕ) → length (skip_line_ends text) ≤ length text
no_longer [] = omega arith
no_longer (b ∷ bs) = by (b == 10) (no_longer bs)
  where
    by : (t : Bool) → length (skip_line_ends bs) ≤ length bs → length (if t then skip_line_ends bs else b ∷ bs) ≤ suc (length bs)
    by true h = omega arith
    by false h = omega arith

skips : (scan : Scan) → KeepsEmpty scan → (text : List ℕ) (line : ℕ) → Skips scan line text (skip_line_ends text)
skips scan keeps [] line = skips_none scan line [] [] refl
skips scan keeps (b ∷ bs) line = by (b == 10) refl (λ l. skips scan keeps bs l)
  where
    by : (t : Bool) → (b == 10) ≡ t → ((l : ℕ) → Skips scan l bs (skip_line_ends bs)) → Skips scan line (b ∷ bs) (skip_line_ends (b ∷ bs))
    by false e more = skips_none scan line (b ∷ bs) (skip_line_ends (b ∷ bs)) (rw e refl)
    by true e more =
        let lines : lines_of (b ∷ bs) ≡ [] ∷ lines_of bs = rw e refl in
        let rest : skip_line_ends bs ≡ skip_line_ends (b ∷ bs) = rw e refl in
        let fewer = no_longer bs in
        let later : line + 1 + (length bs - length (skip_line_ends bs)) ≡ line + (suc (length bs) - length (skip_line_ends bs)) = omega arith in
        ap (λ ls. events_from line scan ls) lines ∙ keeps line (lines_of bs) ∙ more (line + 1) ∙ ap (λ k. events_from k scan (lines_of (skip_line_ends bs))) later
        ∙ ap (λ r. events_from (line + (suc (length bs) - length r)) scan (lines_of r)) rest

pub skips_at_start : (line : ℕ) (frames : List Frame) (body : List (List ℕ)) (text rest : List ℕ) → rest ≡ skip_line_ends text → Skips (scan_in Start frames body) line text rest
skips_at_start line frames body text rest e =
    subst (λ r. Skips (scan_in Start frames body) line text r) (sym e) (skips (scan_in Start frames body) (start_keeps frames body) text line)

pub skips_outside : (line : ℕ) (frames : List Frame) (body : List (List ℕ)) (text rest : List ℕ) → rest ≡ skip_line_ends text → Skips (scan_in Outside frames body) line text rest
skips_outside line frames body text rest e =
    subst (λ r. Skips (scan_in Outside frames body) line text r) (sym e) (skips (scan_in Outside frames body) (outside_keeps frames body) text line)

-- the same behind a line
pub line_skips : (whole : Result (List Event) ReadFault) (es : List Event) (line next : ℕ) (scan : Scan) (text rest : List ℕ) → next ≡ line + (1 + (length text - length rest)) → Skips scan (line + 1) text rest → with_front es (events_from (line + 1) scan (lines_of text)) ≡ whole → with_front es (events_from next scan (lines_of rest)) ≡ whole
line_skips whole es line next scan text rest n s h =
    let same : line + 1 + (length text - length rest) ≡ next = omega arith in
    ap (λ r. with_front es r) (sym (s ∙ ap (λ k. events_from k scan (lines_of rest)) same)) ∙ h
