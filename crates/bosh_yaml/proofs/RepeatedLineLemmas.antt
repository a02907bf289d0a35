-- A refusal for a repeated key names the line on which the key stands the second time.
use Rattle.std.proofs.Common.{◌≡◌, ℕ, suc, ◌+◌, ◌-◌, Bool, true, false, List, [], ◌∷◌, ◌++◌, length, take, nat_lt, Option, Some, None, Result, Ok, Err, inl, inr, ◌⊎◌, refl, ap, sym, ◌∙◌, subst, arith, if◌then◌else◌}
use Rattle.std.specs.Str.{is_utf8}
use Rattle.std.proofs.lemmas.Str.{is_utf8-from_IsUtf8}
use Rattle.bosh_yaml.specs.declared.block.Frame.{Frame}
use Rattle.bosh_yaml.specs.declared.event.Event.{Event}
use Rattle.bosh_yaml.specs.declared.event.Event.TheVariants.{Scalar, OpenList, OpenMap, Key, Close}
use Rattle.bosh_yaml.specs.declared.fault.ReadFault.{ReadFault}
use Rattle.bosh_yaml.specs.declared.fault.ReadFault.TheVariants.{RepeatedKey, TooDeep, TooLarge}
use Rattle.bosh_yaml.specs.declared.literal.Header.{Header}
use Rattle.bosh_yaml.specs.declared.plain.Leaf.TheVariants.{Text}
use Rattle.bosh_yaml.specs.declared.scan.Mode.{Mode}
use Rattle.bosh_yaml.specs.declared.scan.Mode.TheVariants.{Start, Outside, Literal}
use Rattle.bosh_yaml.specs.Block.{place_end}
use Rattle.bosh_yaml.specs.Content.{items_at}
use Rattle.bosh_yaml.specs.Events.{content_line, end_by_mode, events_from, events_of, first_line, fixed_indent, is_marker, is_readable, line_by_mode, literal_event, literal_line, more_body, next_mode, one_line, plain_line, Scan, Scanned, scan_of, start}
use Rattle.bosh_yaml.specs.Limits.{HasEachKeyOnce}
use Rattle.bosh_yaml.specs.Lines.{begins, is_blank, lines_of, skip_spaces}
use Rattle.bosh_yaml.specs.Literal.{indentation, is_spaces, literal_text}
use Rattle.bosh_yaml.specs.Nodes.{Keys, line_of_repeat, line_or, nesting, no_keys, tree_from, with_new}
use Rattle.bosh_yaml.specs.Reading.{checked_tree, json_reading, reading, yaml_reading}
use Rattle.bosh_yaml.specs.Repeats.{RepeatsKey, RepeatsNoKey}
use Rattle.bosh_yaml.specs.Result.{◌>>=◌, with_front}
use Rattle.bosh_yaml.specs.Seen.{line_or_else}
use Rattle.bosh_yaml.specs.Spelling.{SpellsLines}
use Rattle.bosh_yaml.specs.Tree.{Tree}
use Rattle.bosh_yaml.specs.Word.{text_of}
use Rattle.bosh_yaml.proofs.MakesLemmas.{Makes, makes_whole, RepeatsNone, RepeatsOne, repeats_in_whole, repeats_whole}
use Rattle.bosh_yaml.proofs.MoveLemmas.{Lines}
use Rattle.bosh_yaml.proofs.NamedLineLemmas.{json_repeats_none}
use Rattle.bosh_yaml.proofs.NumberedLemmas.{AreOn, Gave, RefusesOn}
use Rattle.bosh_yaml.proofs.NumberedLineLemmas.{IsLineOf, on_end_by_mode, on_events_of, on_first_line, on_plain_line, repeated_on, ScannedOn}
use Rattle.bosh_yaml.proofs.ReadSpellingLemmas.{all_readable, start_fits}
use Rattle.bosh_yaml.proofs.ReadWordLemmas.{bind_ok, if_ok, unless_ok}
use Rattle.bosh_yaml.proofs.ResultLemmas.{ok_same}
use Rattle.bosh_yaml.proofs.SpellingLemmas.{lines_are_read}

-- ---- repeated keys of events before others

-- the keys of the open collections after events
abbrev seen : List Keys → List Event → List Keys
seen all [] = all
seen all (Scalar leaf ∷ es) = seen all es
seen all (OpenList ∷ es) = seen (no_keys ∷ all) es
seen all (OpenMap ∷ es) = seen (no_keys ∷ all) es
seen [] (Key line key ∷ es) = seen [] es
seen (keys ∷ all) (Key line key ∷ es) = seen (with_new keys key ∷ all) es
seen [] (Close ∷ es) = seen [] es
seen (keys ∷ all) (Close ∷ es) = seen all es

or_first : (b : Bool) (line : ℕ) (whole front rest : Option ℕ) → whole ≡ line_or_else front rest → line_or b line whole ≡ line_or_else (line_or b line front) rest
or_first true line whole front rest h = refl
or_first false line whole front rest h = h

repeated_append : (all : List Keys) (es fs : List Event) → line_of_repeat all (es ++ fs) ≡ line_or_else (line_of_repeat all es) (line_of_repeat (seen all es) fs)
repeated_append all [] fs = refl
repeated_append all (Scalar leaf ∷ es) fs = repeated_append all es fs
repeated_append all (OpenList ∷ es) fs = repeated_append (no_keys ∷ all) es fs
repeated_append all (OpenMap ∷ es) fs = repeated_append (no_keys ∷ all) es fs
repeated_append [] (Key line key ∷ es) fs = repeated_append [] es fs
repeated_append (keys ∷ all) (Key line key ∷ es) fs =
    or_first (keys key) line _ _ _ (repeated_append (with_new keys key ∷ all) es fs)
repeated_append [] (Close ∷ es) fs = repeated_append [] es fs
repeated_append (keys ∷ all) (Close ∷ es) fs = repeated_append all es fs

-- no event is a key
abbrev HasNoKey : List Event → Type 0
HasNoKey es = AreOn (λ line. ⊥) es

repeats_none : (all : List Keys) (es : List Event) → HasNoKey es → line_of_repeat all es ≡ None
repeats_none all es h = by (line_of_repeat all es) refl
  where
    by : (found : Option ℕ) → line_of_repeat all es ≡ found → found ≡ None
    by None e = refl
    by (Some line) e = absurd (repeated_on (λ line. ⊥) all es line h e)

-- ---- the text may end here

abbrev Ends : Scan → Type 0
Ends scan = (es : List Event) × (end_by_mode scan.mode scan.frames scan.body ≡ Ok es) × HasNoKey es

end_has_no_key : (frames : List Frame) → HasNoKey (place_end frames)
end_has_no_key frames = on_end_by_mode (λ line. ⊥) Start frames [] tt

ends_at_start : (frames : List Frame) (body : Lines) → Ends (record { frames = frames; mode = Start; body = body })
ends_at_start frames body = (place_end frames, refl, end_has_no_key frames)

ends_outside : (frames : List Frame) (body : Lines) → Ends (record { frames = frames; mode = Outside; body = body })
ends_outside frames body = (place_end frames, refl, end_has_no_key frames)

empty_text : (line : ℕ) → text_of line [] ≡ Ok []
empty_text line = let u : is_utf8 [] ≡ true = is_utf8-from_IsUtf8 [] ([], (refl, refl)) in rw u refl

ends_behind : (header : Option Header) (frames : List Frame) → Ends (record { frames = frames; mode = next_mode header; body = [] })
ends_behind None frames = ends_outside frames []
ends_behind (Some header) frames = (Scalar (Text []) ∷ place_end frames, rw (empty_text header.line) refl, (tt, end_has_no_key frames))

literal_ends_so : (header : Header) (indent : Option ℕ) (frames : List Frame) (body : Lines) (event : Event) → literal_event header indent body ≡ Ok event → (end_by_mode (Literal header indent) frames body ≡ Ok (event ∷ place_end frames)) × HasNoKey (event ∷ place_end frames)
literal_ends_so header indent frames body event h =
    let t = bind_ok (text_of header.line (literal_text header.chomping indent body)) (λ text. Ok (Scalar (Text text))) event h in
    (rw h refl, subst (λ (e : Event). HasNoKey (e ∷ place_end frames)) (ok_same t.2) (tt, end_has_no_key frames))

-- what is read at the text's end has no key
end_has_none : (mode : Mode) (frames : List Frame) (body : Lines) (es : List Event) → end_by_mode mode frames body ≡ Ok es → HasNoKey es
end_has_none Start frames body es h = subst HasNoKey (ok_same h) (end_has_no_key frames)
end_has_none Outside frames body es h = subst HasNoKey (ok_same h) (end_has_no_key frames)
end_has_none (Literal header indent) frames body es h =
    let e = bind_ok (literal_event header indent body) (λ event. Ok (event ∷ place_end frames)) es h in
    subst HasNoKey (ok_same e.2) (literal_ends_so header indent frames body e.0 e.1).1

-- ---- a line with a key

content_ends : (line : ℕ) (frames : List Frame) (bytes : List ℕ) (next : Scanned) → content_line line frames bytes ≡ Ok next → Ends next.1
content_ends line frames bytes next h =
    let t = unless_ok (begins 9 (skip_spaces bytes)) (items_at line None 0 frames bytes >>= λ outcome. Ok (scan_of outcome)) _ next h in
    let o = bind_ok (items_at line None 0 frames bytes) (λ outcome. Ok (scan_of outcome)) next t.1 in
    subst (λ (s : Scanned). Ends s.1) (ok_same o.2) (ends_behind o.0.1.1 o.0.1.0)

plain_ends : (mode : Mode) (line : ℕ) (frames : List Frame) (bytes : List ℕ) (next : Scanned) → Ends (record { frames = frames; mode = mode; body = [] }) → plain_line mode line frames bytes ≡ Ok next → Ends next.1
plain_ends mode line frames bytes next here h = by (is_blank bytes) h
  where
    by : (b : Bool) → (if b then Ok ([], record { frames = frames; mode = mode; body = [] }) else content_line line frames bytes) ≡ Ok next → Ends next.1
    by true h = subst (λ (s : Scanned). Ends s.1) (ok_same h) here
    by false h = content_ends line frames bytes next h

first_ends : (line : ℕ) (frames : List Frame) (bytes : List ℕ) (next : Scanned) → first_line line frames bytes ≡ Ok next → Ends next.1
first_ends line frames bytes next h = by (is_marker bytes) h
  where
    by : (b : Bool) → (if b then Ok ([], record { frames = frames; mode = Outside; body = [] }) else plain_line Start line frames bytes) ≡ Ok next → Ends next.1
    by true h = subst (λ (s : Scanned). Ends s.1) (ok_same h) (ends_outside frames [])
    by false h = plain_ends Start line frames bytes next (ends_at_start frames []) h

-- the keys of a line have its number
numbered : (line found : ℕ) (all : List Keys) (read : Result Scanned ReadFault) (next : Scanned) → Gave (λ k. k ≡ line) (ScannedOn (λ k. k ≡ line)) read → read ≡ Ok next → line_of_repeat all next.0 ≡ Some found → found ≡ line
numbered line found all read next g h r =
    let on : ScannedOn (λ k. k ≡ line) next = subst (Gave (λ k. k ≡ line) (ScannedOn (λ k. k ≡ line))) h g in
    repeated_on (λ k. k ≡ line) all next.0 found on.0 r

-- the text may end before a line that repeats a key, and behind it
abbrev Repeating : Scan → Scanned → ℕ → ℕ → Type 0
Repeating before next line found = Ends before × Ends next.1 × (found ≡ line)

no_event : (all : List Keys) (found : ℕ) (scan : Scan) (next : Scanned) → ◌≡◌ {A = Result Scanned ReadFault} (Ok ([], scan)) (Ok next) → line_of_repeat all next.0 ≡ Some found → ⊥
no_event all found scan next h r =
    let none : line_of_repeat all next.0 ≡ None = ap (λ (s : Scanned). line_of_repeat all s.0) (sym (ok_same h)) in
    cc

literal_repeats : (header : Header) (indent : Option ℕ) (line : ℕ) (frames : List Frame) (body : Lines) (bytes : List ℕ) (next : Scanned) (all : List Keys) (found : ℕ) → literal_line header indent line frames body bytes ≡ Ok next → line_of_repeat all next.0 ≡ Some found → Repeating (record { frames = frames; mode = Literal header indent; body = body }) next line found
literal_repeats header indent line frames body bytes next all found h r = by (is_spaces bytes) h
  where
    behind : (literal_event header indent body >>= λ event. plain_line Outside line frames bytes >>= λ next. Ok (event ∷ next.0, next.1)) ≡ Ok next → Repeating (record { frames = frames; mode = Literal header indent; body = body }) next line found
    behind h =
        let e = bind_ok (literal_event header indent body) (λ event. plain_line Outside line frames bytes >>= λ next. Ok (event ∷ next.0, next.1)) next h in
        let p = bind_ok (plain_line Outside line frames bytes) (λ next. Ok (e.0 ∷ next.0, next.1)) next e.2 in
        let t = bind_ok (text_of header.line (literal_text header.chomping indent body)) (λ text. Ok (Scalar (Text text))) e.0 e.1 in
        let same : ◌≡◌ {A = Scanned} (Scalar (Text t.0) ∷ p.0.0, p.0.1) next = ap (λ (event : Event). let s : Scanned = (event ∷ p.0.0, p.0.1) in s) (ok_same t.2) ∙ ok_same p.2 in
        let there : line_of_repeat all p.0.0 ≡ Some found = ap (λ (s : Scanned). line_of_repeat all s.0) same ∙ r in
        let end = literal_ends_so header indent frames body e.0 e.1 in (
          (e.0 ∷ place_end frames, end.0, end.1),
          subst (λ (s : Scanned). Ends s.1) same (plain_ends Outside line frames bytes p.0 (ends_outside frames []) p.1),
          numbered line found all (plain_line Outside line frames bytes) p.0 (on_plain_line (λ k. k ≡ line) line refl Outside frames bytes tt) p.1 there,
        )

    unless_within : (b : Bool) → (if b then (fixed_indent line indent (indentation bytes) >>= λ fixed. Ok (more_body frames header fixed body bytes)) else (literal_event header indent body >>= λ event. plain_line Outside line frames bytes >>= λ next. Ok (event ∷ next.0, next.1))) ≡ Ok next → Repeating (record { frames = frames; mode = Literal header indent; body = body }) next line found
    unless_within true h =
        let f = bind_ok (fixed_indent line indent (indentation bytes)) (λ fixed. Ok (more_body frames header fixed body bytes)) next h in
        absurd (no_event all found _ next f.2 r)
    unless_within false h = behind h

    by : (b : Bool) → (if b then Ok (more_body frames header indent body bytes) else if nat_lt header.owner (indentation bytes) then (fixed_indent line indent (indentation bytes) >>= λ fixed. Ok (more_body frames header fixed body bytes)) else (literal_event header indent body >>= λ event. plain_line Outside line frames bytes >>= λ next. Ok (event ∷ next.0, next.1))) ≡ Ok next → Repeating (record { frames = frames; mode = Literal header indent; body = body }) next line found
    by true h = absurd (no_event all found _ next h r)
    by false h = unless_within (nat_lt header.owner (indentation bytes)) h

line_repeats : (mode : Mode) (line : ℕ) (frames : List Frame) (body : Lines) (bytes : List ℕ) (next : Scanned) (all : List Keys) (found : ℕ) → line_by_mode mode line frames body bytes ≡ Ok next → line_of_repeat all next.0 ≡ Some found → Repeating (record { frames = frames; mode = mode; body = body }) next line found
line_repeats Start line frames body bytes next all found h r =
    (ends_at_start frames body, first_ends line frames bytes next h, numbered line found all (first_line line frames bytes) next (on_first_line (λ k. k ≡ line) line refl frames bytes) h r)
line_repeats Outside line frames body bytes next all found h r =
    (ends_outside frames body, plain_ends Outside line frames bytes next (ends_outside frames []) h, numbered line found all (plain_line Outside line frames bytes) next (on_plain_line (λ k. k ≡ line) line refl Outside frames bytes tt) h r)
line_repeats (Literal header indent) line frames body bytes next all found h r = literal_repeats header indent line frames body bytes next all found h r

-- ---- the lines up to it, and those before it

abbrev Gives : List Keys → Result (List Event) ReadFault → Option ℕ → Type 0
Gives all read found = (es : List Event) × (read ≡ Ok es) × (line_of_repeat all es ≡ found)

abbrev CutAt : ℕ → Scan → Lines → List Keys → ℕ → Type 0
CutAt line scan lines all found =
    (n : ℕ) × (found ≡ line + n) × Gives all (events_from line scan (take n lines)) None × Gives all (events_from line scan (take (suc n) lines)) (Some found)

cut : (lines : Lines) (line : ℕ) (scan : Scan) (es : List Event) (all : List Keys) (found : ℕ) → events_from line scan lines ≡ Ok es → line_of_repeat all es ≡ Some found → CutAt line scan lines all found
cut [] line scan es all found h r =
    let none : line_of_repeat all es ≡ None = repeats_none all es (end_has_none scan.mode scan.frames scan.body es h) in
    absurd (cc)
cut (bytes ∷ lines) line scan es all found h r =
    let n = bind_ok (one_line line scan bytes) (λ next. with_front next.0 (events_from (line + 1) next.1 lines)) es h in
    let m = bind_ok (events_from (line + 1) n.0.1 lines) (λ fs. Ok (n.0.0 ++ fs)) es n.2 in
    let l = if_ok (is_readable bytes) (line_by_mode scan.mode line scan.frames scan.body bytes) _ n.0 n.1 in
    let whole : line_or_else (line_of_repeat all n.0.0) (line_of_repeat (seen all n.0.0) m.0) ≡ Some found = sym (repeated_append all n.0.0 m.0) ∙ ap (λ es. line_of_repeat all es) (ok_same m.2) ∙ r in
    by n.0 m.0 (line_of_repeat all n.0.0) refl n.1 l.1 m.1 whole (λ a f. cut lines (line + 1) n.0.1 m.0 a found m.1 f)
  where
    front : (next : Scanned) (ls : Lines) (fs : List Event) → one_line line scan bytes ≡ Ok next → events_from (line + 1) next.1 ls ≡ Ok fs → events_from line scan (bytes ∷ ls) ≡ Ok (next.0 ++ fs)
    front next ls fs o f = rw (o, f) refl

    by : (next : Scanned) (fs : List Event) (first : Option ℕ) → line_of_repeat all next.0 ≡ first → one_line line scan bytes ≡ Ok next → line_by_mode scan.mode line scan.frames scan.body bytes ≡ Ok next → events_from (line + 1) next.1 lines ≡ Ok fs → line_or_else first (line_of_repeat (seen all next.0) fs) ≡ Some found
        → ((a : List Keys) → line_of_repeat a fs ≡ Some found → CutAt (line + 1) next.1 lines a found) → CutAt line scan (bytes ∷ lines) all found
    by next fs (Some k) e o l f w more =
        let here : line_of_repeat all next.0 ≡ Some found = e ∙ w in
        let at = line_repeats scan.mode line scan.frames scan.body bytes next all found l here in
        let end = at.1 in (
          0,
          omega (arith, at.2),
          (at.0.0, at.0.1, repeats_none all at.0.0 at.0.2),
          (next.0 ++ end.0, front next [] end.0 o end.1, repeated_append all next.0 end.0 ∙ ap (λ r. line_or_else r (line_of_repeat (seen all next.0) end.0)) here),
        )
    by next fs None e o l f w more =
        let c = more (seen all next.0) w in
        let before = c.2 in
        let up_to = c.3 in (
          suc c.0,
          omega (arith, c.1),
          (next.0 ++ before.0, front next (take c.0 lines) before.0 o before.1, repeated_append all next.0 before.0 ∙ ap (λ r. line_or_else r (line_of_repeat (seen all next.0) before.0)) e ∙ before.2),
          (next.0 ++ up_to.0, front next (take (suc c.0) lines) up_to.0 o up_to.1, repeated_append all next.0 up_to.0 ∙ ap (λ r. line_or_else r (line_of_repeat (seen all next.0) up_to.0)) e ∙ up_to.2),
        )

-- ---- as trees

-- lines that are read make a tree
pub lines_make : (lines : Lines) (es : List Event) → events_from 1 start lines ≡ Ok es → (t : Tree) × SpellsLines lines t × Makes es t
lines_make lines es h =
    let r = all_readable lines 1 start es h in
    let s = start_fits lines 1 es r.1 in
    let y = lines_are_read 1 lines s.0 s.1 in
    (s.0, s.1, subst (λ es. Makes es s.0) (ok_same (sym y.1 ∙ r.1)) y.2)

makes_none : (lines : Lines) → Gives [] (events_from 1 start lines) None → RepeatsNoKey lines
makes_none lines g = let m = lines_make lines g.0 g.1 in (m.0, m.1, by m.0 m.2 m.2.2)
  where
    no : (line : ℕ) → line_of_repeat [] g.0 ≡ Some line → ⊥
    no line h = let none : line_of_repeat [] g.0 ≡ None = g.2 in cc

    by : (t : Tree) → Makes g.0 t → (HasEachKeyOnce t × RepeatsNone g.0) ⊎ ((HasEachKeyOnce t → ⊥) × RepeatsOne g.0) → HasEachKeyOnce t
    by t m (inl h) = h.0
    by t m (inr h) = let found = repeats_in_whole g.0 t m h.0 in absurd (no found.0 found.1)

makes_some : (lines : Lines) (line : ℕ) → Gives [] (events_from 1 start lines) (Some line) → RepeatsKey lines
makes_some lines line g = let m = lines_make lines g.0 g.1 in (m.0, m.1, λ once. no (repeats_whole g.0 m.0 m.2 once))
  where
    no : line_of_repeat [] g.0 ≡ None → ⊥
    no h = let some : line_of_repeat [] g.0 ≡ Some line = g.2 in cc

-- ---- a text

pub err_same : {A : Type 0} {e f : ReadFault} → ◌≡◌ {A = Result A ReadFault} (Err e) (Err f) → e ≡ f
err_same h = cc

pub made_is_no_refusal : (t : Tree) (fault : ReadFault) (read : Result Tree ReadFault) → read ≡ Ok t → read ≡ Err fault → ⊥
made_is_no_refusal t fault read h k = cc

events_repeat : (text : List ℕ) (line : ℕ) (es : List Event) (t : Tree) (first : Option ℕ) → events_of text ≡ Ok es → Makes es t → line_of_repeat [] es ≡ first → checked_tree first es ≡ Err (RepeatedKey line) → CutAt 1 start (lines_of text) [] line
events_repeat text line es t (Some k) is m e h =
    let same : k ≡ line = cc in
    cut (lines_of text) 1 start es [] line is (e ∙ ap (λ n. Some n) same)
events_repeat text line es t None is m e h = absurd (by (nat_lt 64 (nesting 0 es)) h)
  where
    by : (b : Bool) → (if b then Err TooDeep else tree_from None [] es) ≡ Err (RepeatedKey line) → ⊥
    by true h = cc
    by false h = made_is_no_refusal t (RepeatedKey line) (tree_from None [] es) (makes_whole es t m) h

yaml_repeats : (text : List ℕ) (line : ℕ) → yaml_reading text ≡ Err (RepeatedKey line) → CutAt 1 start (lines_of text) [] line
yaml_repeats text line h = by (events_of text) refl (on_events_of text) h
  where
    by : (r : Result (List Event) ReadFault) → events_of text ≡ r → Gave (IsLineOf text) (AreOn (IsLineOf text)) r → (r >>= λ es. checked_tree (line_of_repeat [] es) es) ≡ Err (RepeatedKey line) → CutAt 1 start (lines_of text) [] line
    by (Err e) is on h = absurd (subst (RefusesOn (IsLineOf text)) (err_same h) on)
    by (Ok es) is on h = let m = lines_make (lines_of text) es is in events_repeat text line es m.0 (line_of_repeat [] es) is m.2 refl h

text_repeats : (text : List ℕ) (line : ℕ) → reading text ≡ Err (RepeatedKey line) → CutAt 1 start (lines_of text) [] line
text_repeats text line h = by (nat_lt 1048576 (length text)) h
  where
    within : (b : Bool) → begins 123 text ≡ b → (if b then json_reading text else yaml_reading text) ≡ Err (RepeatedKey line) → CutAt 1 start (lines_of text) [] line
    within true j k = absurd (json_repeats_none text line j h)
    within false j k = yaml_repeats text line k

    by : (b : Bool) → (if b then Err TooLarge else if begins 123 text then json_reading text else yaml_reading text) ≡ Err (RepeatedKey line) → CutAt 1 start (lines_of text) [] line
    by true k = absurd (cc)
    by false k = within (begins 123 text) refl k

-- of the lines up to the one that is named some map repeats a key
pub repeats_up_to : (text : List ℕ) (line : ℕ) → reading text ≡ Err (RepeatedKey line) → RepeatsKey (take line (lines_of text))
repeats_up_to text line h =
    let c = text_repeats text line h in
    let named : suc c.0 ≡ line = omega (arith, c.1) in
    subst (λ n. RepeatsKey (take n (lines_of text))) named (makes_some (take (suc c.0) (lines_of text)) line c.3)

-- and of those before it none does
pub repeats_none_before : (text : List ℕ) (line : ℕ) → reading text ≡ Err (RepeatedKey line) → RepeatsNoKey (take (line - 1) (lines_of text))
repeats_none_before text line h =
    let c = text_repeats text line h in
    let before : c.0 ≡ line - 1 = omega (arith, c.1) in
    subst (λ n. RepeatsNoKey (take n (lines_of text))) before (makes_none (take c.0 (lines_of text)) c.2)
