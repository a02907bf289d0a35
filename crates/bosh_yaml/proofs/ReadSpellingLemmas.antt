-- What is read is spelled so.
use Rattle.std.proofs.Common.{◌≡◌, ◌≤◌, ◌<◌, ℕ, ◌+◌, Bool, true, false, List, [], ◌∷◌, ◌++◌, length, Option, Some, None, Result, Ok, append_assoc, append-nil, refl, ap, sym, ◌∙◌, subst, arith, nat_lt, nat_le, if◌then◌else◌, inl, inr}
use Rattle.std.proofs.lemmas.Bool.Decides.{nat_tests}
use Rattle.std.specs.Str.{is_utf8}
use Rattle.bosh_yaml.specs.declared.block.Frame.{Frame}
use Rattle.bosh_yaml.specs.declared.block.Frame.TheVariants.{Whole}
use Rattle.bosh_yaml.specs.declared.event.Event.{Event}
use Rattle.bosh_yaml.specs.declared.event.Event.TheVariants.{Scalar}
use Rattle.bosh_yaml.specs.declared.fault.ReadFault.{ReadFault}
use Rattle.bosh_yaml.specs.declared.literal.Header.{Header}
use Rattle.bosh_yaml.specs.declared.plain.Leaf.TheVariants.{Text}
use Rattle.bosh_yaml.specs.declared.scan.Mode.{Mode}
use Rattle.bosh_yaml.specs.declared.scan.Mode.TheVariants.{Start, Outside, Literal}
use Rattle.bosh_yaml.specs.Block.{place_end}
use Rattle.bosh_yaml.specs.Content.{items_at}
use Rattle.bosh_yaml.specs.Events.{Scan, Scanned, content_line, end_by_mode, events_of, events_from, fixed_indent, is_marker, is_readable, line_by_mode, literal_event, literal_line, more_body, one_line, plain_line, scan_of, start}
use Rattle.bosh_yaml.specs.Json.{has_integers, json_data, json_events}
use Rattle.bosh_yaml.specs.Lines.{begins, is_blank, lines_of, skip_spaces}
use Rattle.bosh_yaml.specs.Literal.{indentation, is_spaces, literal_text}
use Rattle.bosh_yaml.specs.Nodes.{line_of_repeat, nesting, tree_from}
use Rattle.bosh_yaml.specs.Reading.{reading, yaml_reading, json_reading, checked_json_tree, checked_tree, integers_only}
use Rattle.bosh_yaml.specs.Result.{◌>>=◌, with_front}
use Rattle.bosh_yaml.specs.SpelledBlock.{Each, spaces, IsBlank, IsTail, SpellsNode, node}
use Rattle.bosh_yaml.specs.Spelling.{IsReadable, SpellsContent, nothing, content, SpellsLines, marked, unmarked, Spells, as_json, as_yaml, json_tree}
use Rattle.bosh_yaml.specs.Tree.{Tree, null}
use Rattle.bosh_yaml.specs.Word.{text_of}
use Rattle.bosh_yaml.proofs.MakesLemmas.{Makes, makes_whole}
use Rattle.bosh_yaml.proofs.MoveLemmas.{Lines, moves}
use Rattle.bosh_yaml.proofs.ReadFrameLemmas.{Follows, Closed, At, nowhere}
use Rattle.bosh_yaml.proofs.ReadLineLemmas.{Indents, InLiteral, Fit, line_got}
use Rattle.bosh_yaml.proofs.ReadWordLemmas.{bind_ok, if_ok, unless_ok}
use Rattle.bosh_yaml.proofs.ResultLemmas.{ok_same}
use Rattle.bosh_yaml.proofs.SpellingLemmas.{json_makes, yaml_is_read}

abbrev FitScan : Scan → Lines → Type 0
FitScan scan lines = Fit scan.mode scan.frames scan.body lines

more_blank : (frames : List Frame) (bytes : List ℕ) (lines : Lines) → is_blank bytes ≡ true → Closed (At frames None) lines → Closed (At frames None) (bytes ∷ lines)
more_blank frames bytes lines b c = (bytes ∷ c.0, c.1, ap (λ ls. bytes ∷ ls) c.2, (b, c.3), c.4)

content_fits : (line : ℕ) (frames : List Frame) (bytes : List ℕ) (lines : Lines) (next : Scanned) → is_blank bytes ≡ false → content_line line frames bytes ≡ Ok next → FitScan next.1 lines → Closed (At frames None) (bytes ∷ lines)
content_fits line frames bytes lines next b h f =
    let t = unless_ok (begins 9 (skip_spaces bytes)) (items_at line None 0 frames bytes >>= λ outcome. Ok (scan_of outcome)) _ next h in
    let o = bind_ok (items_at line None 0 frames bytes) (λ outcome. Ok (scan_of outcome)) next t.1 in
    line_got line frames bytes o.0 lines b t.0 o.1 (subst (λ (s : Scanned). FitScan s.1 lines) (sym (ok_same o.2)) f)

plain_fits : (line : ℕ) (frames : List Frame) (bytes : List ℕ) (lines : Lines) (next : Scanned) → plain_line Outside line frames bytes ≡ Ok next → FitScan next.1 lines → Closed (At frames None) (bytes ∷ lines)
plain_fits line frames bytes lines next h f = by (is_blank bytes) refl h
  where
    by : (s : Bool) → is_blank bytes ≡ s → (if s then Ok ([], record { frames = frames; mode = Outside; body = [] }) else content_line line frames bytes) ≡ Ok next → Closed (At frames None) (bytes ∷ lines)
    by true p h = more_blank frames bytes lines p (subst (λ (s : Scanned). FitScan s.1 lines) (sym (ok_same h)) f)
    by false p h = content_fits line frames bytes lines next p h f

-- the text of a literal is UTF-8
literal_utf8 : (header : Header) (indent : Option ℕ) (body : Lines) (event : Event) → literal_event header indent body ≡ Ok event → is_utf8 (literal_text header.chomping indent body) ≡ true
literal_utf8 header indent body event h =
    let t = bind_ok (text_of header.line (literal_text header.chomping indent body)) (λ text. Ok (Scalar (Text text))) event h in
    (if_ok (is_utf8 (literal_text header.chomping indent body)) (Ok (literal_text header.chomping indent body)) _ t.0 t.1).0

no_more : (indent : Option ℕ) → Indents indent indent []
no_more None = tt
no_more (Some i) = (refl, tt)

-- a literal ends here
ends_here : (frames : List Frame) (header : Header) (indent : Option ℕ) (before tail more lines : Lines) → is_utf8 (literal_text header.chomping indent before) ≡ true → lines ≡ tail ++ more → IsTail header.owner tail → Follows (At frames None) more → InLiteral header indent before frames lines
ends_here frames header indent before tail more lines u e t f =
    ([], tail, more, indent, e, tt, no_more indent, t, ap (λ ls. is_utf8 (literal_text header.chomping indent ls)) (append-nil before) ∙ u, f)

is_tail : (owner : ℕ) (bytes : List ℕ) (lines blanks more : Lines) → is_spaces bytes ≡ false → indentation bytes ≤ owner → bytes ∷ lines ≡ blanks ++ more → Each IsBlank blanks → IsTail owner blanks
is_tail owner bytes lines [] more s n e h = tt
is_tail owner bytes lines (b ∷ blanks) more s n e h =
    let same : bytes ≡ b = first e in
    (ap (λ l. is_spaces l) (sym same) ∙ s, subst (λ l. indentation l ≤ owner) same n, h)
  where
    first : bytes ∷ lines ≡ b ∷ (blanks ++ more) → bytes ≡ b
    first e = cc

-- one more line of a literal
body_spaces : (frames : List Frame) (header : Header) (indent : Option ℕ) (before : Lines) (bytes : List ℕ) (lines : Lines) → is_spaces bytes ≡ true → InLiteral header indent (before ++ bytes ∷ []) frames lines → InLiteral header indent before frames (bytes ∷ lines)
body_spaces frames header indent before bytes lines s l =
    (bytes ∷ l.0, l.1, l.2, l.3, ap (λ ls. bytes ∷ ls) l.4, (inl s, l.5), more indent l.6, l.7, ap (λ ls. is_utf8 (literal_text header.chomping l.3 ls)) (sym (append_assoc before (bytes ∷ []) l.0)) ∙ l.8, l.9)
  where
    more : (indent : Option ℕ) → Indents indent l.3 l.0 → Indents indent l.3 (bytes ∷ l.0)
    more None i = inl (s, i)
    more (Some k) i = (i.0, (inl s, i.1))

body_content : (line : ℕ) (frames : List Frame) (header : Header) (indent fixed : Option ℕ) (before : Lines) (bytes : List ℕ) (lines : Lines) → is_spaces bytes ≡ false → header.owner < indentation bytes → fixed_indent line indent (indentation bytes) ≡ Ok fixed → InLiteral header fixed (before ++ bytes ∷ []) frames lines → InLiteral header indent before frames (bytes ∷ lines)
body_content line frames header indent fixed before bytes lines s n h l =
    (bytes ∷ l.0, l.1, l.2, l.3, ap (λ ls. bytes ∷ ls) l.4, (inr n, l.5), more indent h, l.7, ap (λ ls. is_utf8 (literal_text header.chomping l.3 ls)) (sym (append_assoc before (bytes ∷ []) l.0)) ∙ l.8, l.9)
  where
    at_most : (a b : ℕ) → nat_le a b ≡ true → a ≤ b
    at_most a b h = grind (arith, nat_tests)

    more : (indent : Option ℕ) → fixed_indent line indent (indentation bytes) ≡ Ok fixed → Indents indent l.3 (bytes ∷ l.0)
    more None h =
        let i : Indents (Some (indentation bytes)) l.3 l.0 = subst (λ f. Indents f l.3 l.0) (sym (ok_same h)) l.6 in
        inr (s, i.0, i.1)
    more (Some k) h =
        let t = if_ok (nat_le k (indentation bytes)) (Ok (Some k)) _ fixed h in
        let i : Indents (Some k) l.3 l.0 = subst (λ f. Indents f l.3 l.0) (sym (ok_same t.1)) l.6 in
        (i.0, (inr (at_most k (indentation bytes) t.0), i.1))

literal_fits : (line : ℕ) (frames : List Frame) (header : Header) (indent : Option ℕ) (before : Lines) (bytes : List ℕ) (lines : Lines) (next : Scanned) → literal_line header indent line frames before bytes ≡ Ok next → FitScan next.1 lines → InLiteral header indent before frames (bytes ∷ lines)
literal_fits line frames header indent before bytes lines next h f = by (is_spaces bytes) (nat_lt header.owner (indentation bytes)) refl refl h
  where
    less : (a b : ℕ) → nat_lt a b ≡ true → a < b
    less a b h = grind (arith, nat_tests)

    not_less : (a b : ℕ) → nat_lt a b ≡ false → b ≤ a
    not_less a b h = grind (arith, nat_tests)

    by : (s n : Bool) → is_spaces bytes ≡ s → nat_lt header.owner (indentation bytes) ≡ n
        → (if s then Ok (more_body frames header indent before bytes)
        else if n then (fixed_indent line indent (indentation bytes) >>= λ fixed. Ok (more_body frames header fixed before bytes))
        else (literal_event header indent before >>= λ event. plain_line Outside line frames bytes >>= λ next. let q : Scanned = (event ∷ next.0, next.1) in Ok q)) ≡ Ok next → InLiteral header indent before frames (bytes ∷ lines)
    by true n p q h = body_spaces frames header indent before bytes lines p (subst (λ (s : Scanned). FitScan s.1 lines) (sym (ok_same h)) f)
    by false true p q h =
        let t = bind_ok (fixed_indent line indent (indentation bytes)) (λ fixed. Ok (more_body frames header fixed before bytes)) next h in
        body_content line frames header indent t.0 before bytes lines p (less header.owner (indentation bytes) q) t.1 (subst (λ (s : Scanned). FitScan s.1 lines) (sym (ok_same t.2)) f)
    by false false p q h =
        let e = bind_ok (literal_event header indent before) (λ event. plain_line Outside line frames bytes >>= λ next. let q : Scanned = (event ∷ next.0, next.1) in Ok q) next h in
        let n = bind_ok (plain_line Outside line frames bytes) (λ next. let q : Scanned = (e.0 ∷ next.0, next.1) in Ok q) next e.2 in
        let c = plain_fits line frames bytes lines n.0 n.1 (subst (λ (s : Scanned). FitScan s.1 lines) (sym (ok_same n.2)) f) in
        ends_here frames header indent before c.0 c.1 (bytes ∷ lines) (literal_utf8 header indent before e.0 e.1) c.2 (is_tail header.owner bytes lines c.0 c.1 p (not_less header.owner (indentation bytes) q) c.2 c.3) c.4

end_fits : (mode : Mode) (frames : List Frame) (body : Lines) (es : List Event) → end_by_mode mode frames body ≡ Ok es → Fit mode frames body []
end_fits Start frames body es h = tt
end_fits Outside frames body es h = ([], [], refl, tt, inl refl)
end_fits (Literal header indent) frames body es h =
    let e = bind_ok (literal_event header indent body) (λ event. Ok (event ∷ place_end frames)) es h in
    ends_here frames header indent body [] [] [] (literal_utf8 header indent body e.0 e.1) refl tt (inl refl)

line_fits : (mode : Mode) (line : ℕ) (frames : List Frame) (body : Lines) (bytes : List ℕ) (lines : Lines) (next : Scanned) → line_by_mode mode line frames body bytes ≡ Ok next → FitScan next.1 lines → Fit mode frames body (bytes ∷ lines)
line_fits Start line frames body bytes lines next h f = tt
line_fits Outside line frames body bytes lines next h f = plain_fits line frames bytes lines next h f
line_fits (Literal header indent) line frames body bytes lines next h f = literal_fits line frames header indent body bytes lines next h f

-- what lines spell that are read from a state on
lines_fit : (lines : Lines) (line : ℕ) (scan : Scan) (es : List Event) → moves line scan lines ≡ Ok es → FitScan scan lines
lines_fit [] line scan es h = end_fits scan.mode scan.frames scan.body es h
lines_fit (bytes ∷ lines) line scan es h =
    let n = bind_ok (line_by_mode scan.mode line scan.frames scan.body bytes) (λ next. with_front next.0 (moves (line + 1) next.1 lines)) es h in
    let m = bind_ok (moves (line + 1) n.0.1 lines) (λ fs. Ok (n.0.0 ++ fs)) es n.2 in
    line_fits scan.mode line scan.frames scan.body bytes lines n.0 n.1 (lines_fit lines (line + 1) n.0.1 m.0 m.1)

-- a whole text
whole_fits : (lines : Lines) → Closed (At (Whole ∷ []) None) lines → (t : Tree) × SpellsContent lines t
whole_fits lines c = by c.4
  where
    none : (ls : Lines) → Follows nowhere ls → ls ≡ []
    none ls (inl e) = e
    none ls (inr f) = absurd f.5

    by : Follows (At (Whole ∷ []) None) c.1 → (t : Tree) × SpellsContent lines t
    by (inl e) = (null, subst (λ ls. SpellsContent ls null) (sym (c.2 ∙ ap (λ ls. c.0 ++ ls) e ∙ append-nil c.0)) (nothing c.0 c.3))
    by (inr f) =
        let n = f.5 in
        let all : lines ≡ c.0 ++ (spaces f.0 ++ f.1) ∷ n.0 = c.2 ∙ ap (λ ls. c.0 ++ ls) (f.3 ∙ ap (λ ls. (spaces f.0 ++ f.1) ∷ ls) (n.3 ∙ ap (λ ls. n.0 ++ ls) (none n.1 n.5) ∙ append-nil n.0)) in
        (n.2, subst (λ ls. SpellsContent ls n.2) (sym all) (content (c.0 ++ (spaces f.0 ++ f.1) ∷ n.0) n.2 (node 0 f.0 c.0 f.1 n.0 n.2 c.3 (omega arith) f.4 n.4)))

blank_node : (least : ℕ) (bytes : List ℕ) (lines : Lines) (t : Tree) → is_blank bytes ≡ true → SpellsNode least lines t → SpellsNode least (bytes ∷ lines) t
blank_node least bytes lines t b (node lo column blanks by inner u h n c s) = node lo column (bytes ∷ blanks) by inner u (b, h) n c s

blank_content : (bytes : List ℕ) (lines : Lines) (t : Tree) → is_blank bytes ≡ true → SpellsContent lines t → SpellsContent (bytes ∷ lines) t
blank_content bytes lines t b (nothing ls h) = nothing (bytes ∷ ls) (b, h)
blank_content bytes lines t b (content ls u n) = content (bytes ∷ ls) u (blank_node 0 bytes ls u b n)

blank_lines : (bytes : List ℕ) (lines : Lines) (t : Tree) → is_blank bytes ≡ true → SpellsLines lines t → SpellsLines (bytes ∷ lines) t
blank_lines bytes lines t b (marked blanks marker ls u h m c) = marked (bytes ∷ blanks) marker ls u (b, h) m c
blank_lines bytes lines t b (unmarked ls u m c) = unmarked (bytes ∷ ls) u (rw b m) (blank_content bytes ls u b c)

pub start_fits : (lines : Lines) (line : ℕ) (es : List Event) → moves line start lines ≡ Ok es → (t : Tree) × SpellsLines lines t
start_fits [] line es h = (null, unmarked [] null refl (nothing [] tt))
start_fits (bytes ∷ lines) line es h =
    let n = bind_ok (line_by_mode Start line (Whole ∷ []) [] bytes) (λ next. with_front next.0 (moves (line + 1) next.1 lines)) es h in
    let m = bind_ok (moves (line + 1) n.0.1 lines) (λ fs. Ok (n.0.0 ++ fs)) es n.2 in
    by n.0 m.0 (is_marker bytes) (is_blank bytes) refl refl n.1 m.1 (λ fs k. start_fits lines (line + 1) fs k)
  where
    with_first : ((t : Tree) × SpellsLines lines t) → is_blank bytes ≡ true → (t : Tree) × SpellsLines (bytes ∷ lines) t
    with_first r b = (r.0, blank_lines bytes lines r.0 b r.1)

    marks : ((t : Tree) × SpellsContent lines t) → is_marker bytes ≡ true → (t : Tree) × SpellsLines (bytes ∷ lines) t
    marks r p = (r.0, marked [] bytes lines r.0 tt p r.1)

    plain : ((t : Tree) × SpellsContent (bytes ∷ lines) t) → is_marker bytes ≡ false → is_blank bytes ≡ false → (t : Tree) × SpellsLines (bytes ∷ lines) t
    plain r p b = (r.0, unmarked (bytes ∷ lines) r.0 (rw b p) r.1)

    by : (next : Scanned) (fs : List Event) (s b : Bool) → is_marker bytes ≡ s → is_blank bytes ≡ b
        → (if s then Ok ([], record { frames = Whole ∷ []; mode = Outside; body = [] }) else if b then Ok ([], record { frames = Whole ∷ []; mode = Start; body = [] }) else content_line line (Whole ∷ []) bytes) ≡ Ok next
        → moves (line + 1) next.1 lines ≡ Ok fs → ((fs : List Event) → moves (line + 1) start lines ≡ Ok fs → (t : Tree) × SpellsLines lines t) → (t : Tree) × SpellsLines (bytes ∷ lines) t
    by next fs true b p q h k more =
        marks (whole_fits lines (subst (λ (s : Scanned). FitScan s.1 lines) (sym (ok_same h)) (lines_fit lines (line + 1) next.1 fs k))) p
    by next fs false true p q h k more =
        with_first (more fs (subst (λ (s : Scanned). moves (line + 1) s.1 lines ≡ Ok fs) (sym (ok_same h)) k)) q
    by next fs false false p q h k more =
        plain (whole_fits (bytes ∷ lines) (content_fits line (Whole ∷ []) bytes lines next q h (lines_fit lines (line + 1) next.1 fs k))) p q

pub all_readable : (lines : Lines) (line : ℕ) (scan : Scan) (es : List Event) → events_from line scan lines ≡ Ok es → Each IsReadable lines × (moves line scan lines ≡ Ok es)
all_readable [] line scan es h = (tt, h)
all_readable (bytes ∷ lines) line scan es h =
    let n = bind_ok (one_line line scan bytes) (λ next. with_front next.0 (events_from (line + 1) next.1 lines)) es h in
    let r = if_ok (is_readable bytes) (line_by_mode scan.mode line scan.frames scan.body bytes) _ n.0 n.1 in
    let m = bind_ok (events_from (line + 1) n.0.1 lines) (λ fs. Ok (n.0.0 ++ fs)) es n.2 in
    let k = all_readable lines (line + 1) n.0.1 m.0 m.1 in
    ((r.0, k.0), ap (λ read. read >>= λ next. with_front next.0 (moves (line + 1) next.1 lines)) r.1 ∙ ap (λ read. with_front n.0.0 read) k.1 ∙ m.2)

-- events that are read make a tree
pub events_make : (text : List ℕ) (es : List Event) → events_of text ≡ Ok es → (t : Tree) × Makes es t
events_make text es h =
    let r = all_readable (lines_of text) 1 start es h in
    let s = start_fits (lines_of text) 1 es r.1 in
    let y = yaml_is_read text s.0 r.0 s.1 in
    (s.0, subst (λ es. Makes es s.0) (ok_same (sym y.1 ∙ h)) y.2)

checked_made : (line : Option ℕ) (es : List Event) (t : Tree) → checked_tree line es ≡ Ok t → tree_from None [] es ≡ Ok t
checked_made (Some line) es t h = absurd (cc)
checked_made None es t h = (unless_ok (nat_lt 64 (nesting 0 es)) (tree_from None [] es) _ t h).1

yaml_spelled : (text : List ℕ) (t : Tree) → begins 123 text ≡ false → yaml_reading text ≡ Ok t → Spells text t
yaml_spelled text t b h =
    let e = bind_ok (events_of text) (λ events. checked_tree (line_of_repeat [] events) events) t h in
    let r = all_readable (lines_of text) 1 start e.0 e.1 in
    let s = start_fits (lines_of text) 1 e.0 r.1 in
    let y = yaml_is_read text s.0 r.0 s.1 in
    let events : y.0 ≡ e.0 = ok_same (sym y.1 ∙ e.1) in
    let same : s.0 ≡ t = ok_same (sym (makes_whole y.0 s.0 y.2) ∙ ap (λ es. tree_from None [] es) events ∙ checked_made (line_of_repeat [] e.0) e.0 t e.2) in
    subst (λ t. Spells text t) same (as_yaml b r.0 s.1)

integers_ok : (b : Bool) (read : Result Tree ReadFault) (t : Tree) → integers_only b read ≡ Ok t → (b ≡ true) × (read ≡ Ok t)
integers_ok true read t h = (refl, h)
integers_ok false read t h = absurd (cc)

json_spelled : (text : List ℕ) (t : Tree) → begins 123 text ≡ true → json_reading text ≡ Ok t → Spells text t
json_spelled text t b h =
    let d = bind_ok (json_data text) (λ d. checked_json_tree d (json_events d)) t h in
    let n = unless_ok (nat_lt 64 (nesting 0 (json_events d.0))) (integers_only (has_integers d.0) (checked_tree (line_of_repeat [] (json_events d.0)) (json_events d.0))) _ t d.2 in
    let i = integers_ok (has_integers d.0) (checked_tree (line_of_repeat [] (json_events d.0)) (json_events d.0)) t n.1 in
    let same : json_tree d.0 ≡ t = ok_same (sym (makes_whole (json_events d.0) (json_tree d.0) (json_makes d.0)) ∙ checked_made (line_of_repeat [] (json_events d.0)) (json_events d.0) t i.1) in
    as_json b (d.0, d.1, i.0, same)

pub read_is_spelled : (text : List ℕ) (t : Tree) → reading text ≡ Ok t → Spells text t
read_is_spelled text t h =
    let s = unless_ok (nat_lt 1048576 (length text)) (if begins 123 text then json_reading text else yaml_reading text) _ t h in
    by (begins 123 text) refl s.1
  where
    by : (b : Bool) → begins 123 text ≡ b → (if b then json_reading text else yaml_reading text) ≡ Ok t → Spells text t
    by true p h = json_spelled text t p h
    by false p h = yaml_spelled text t p h
