-- A scalar, a flow form or a literal that is spelled is read.
use Rattle.std.proofs.Common.{◌≡◌, ◌≤◌, ℕ, ◌+◌, Bool, true, false, ◌&&◌, ◌||◌, List, [], ◌∷◌, ◌++◌, Option, Some, None, Ok, append_assoc, refl, ap, sym, ◌∙◌, arith, ◌==◌, inl, inr, ◌⊎◌}
use Rattle.std.proofs.lemmas.Bool.Decides.{nat_tests}
use Rattle.std.specs.Str.{is_utf8}
use Rattle.bosh_yaml.specs.declared.bare.Place.TheVariants.{Block}
use Rattle.bosh_yaml.specs.declared.block.Frame.{Frame}
use Rattle.bosh_yaml.specs.declared.event.Event.{Event}
use Rattle.bosh_yaml.specs.declared.event.Event.TheVariants.{Scalar}
use Rattle.bosh_yaml.specs.declared.literal.Chomping.{Chomping}
use Rattle.bosh_yaml.specs.declared.literal.Chomping.TheVariants.{Clip}
use Rattle.bosh_yaml.specs.declared.literal.Header.{Header}
use Rattle.bosh_yaml.specs.declared.plain.Leaf.TheVariants.{Text}
use Rattle.bosh_yaml.specs.declared.word.Word.{Word}
use Rattle.bosh_yaml.specs.Content.{Outcome, scalar_at, flow_at, chomping_of, literal_at, begins_form, value_at, content_at, key_or_scalar, items_at}
use Rattle.bosh_yaml.specs.Block.{place_value}
use Rattle.bosh_yaml.specs.Events.{scan_of}
use Rattle.bosh_yaml.specs.Flow.{form_of}
use Rattle.bosh_yaml.specs.Lines.{is_blank, is_end, is_gap, skip_spaces}
use Rattle.bosh_yaml.specs.Literal.{literal_text}
use Rattle.bosh_yaml.specs.Result.{◌>>=◌, with_front}
use Rattle.bosh_yaml.specs.Scalar.{leaf_tree}
use Rattle.bosh_yaml.specs.SpelledBlock.{Each, IsBlank, IsBodyLine, IsIndentation, IsTail, SpellsChomping, clip, strip, SpellsValue, scalar, flow, literal}
use Rattle.bosh_yaml.specs.SpelledFlow.{SpellsFlow}
use Rattle.bosh_yaml.specs.SpelledWord.{SpellsScalar}
use Rattle.bosh_yaml.specs.Tree.{Tree, text}
use Rattle.bosh_yaml.specs.Word.{word_at, leaf_of}
use Rattle.bosh_yaml.proofs.FrameLemmas.{Accepts, filled, value_placed}
use Rattle.bosh_yaml.proofs.MakesLemmas.{Makes, makes_scalar}
use Rattle.bosh_yaml.proofs.MoveLemmas.{Lines, moves, after_lines, after_append, outside, blank_moves, within_literal, body_moves, Halts, literal_ends}
use Rattle.bosh_yaml.proofs.SpelledFlowLemmas.{form_read, with_none}
use Rattle.bosh_yaml.proofs.SpelledWordLemmas.{word_spelled, word_opens, OpensWord, Opens}

-- what begins a value or a key: no space, comment or dash
abbrev pub OpensContent : List ℕ → Type 0
OpensContent [] = ⊥
OpensContent (b ∷ bs) = ((b == 32) ≡ false) × ((b == 45 && is_gap bs) ≡ false) × ((b == 35) ≡ false)

pub word_content : (bytes : List ℕ) → Opens bytes → OpensContent bytes
word_content [] o = o
word_content (b ∷ bs) o = (o.space, o.dash, o.comment)

pub items_content : (line : ℕ) (owner : Option ℕ) (column : ℕ) (frames : List Frame) (bytes : List ℕ) → OpensContent bytes → items_at line owner column frames bytes ≡ content_at line owner column frames bytes
items_content line owner column frames [] o = absurd o
items_content line owner column frames (b ∷ bs) o = rw (o.0, o.1, o.2) refl

-- what stands behind a dash or a key is content where its column is that of a literal's owner
abbrev pub Owns : Option ℕ → ℕ → Type 0
Owns None least = Unit {0}
Owns (Some owner) least = least ≤ owner + 1

-- a value that is read: the outcome of its line, and the events once its lines have come
abbrev pub ValueRead : ℕ → Option ℕ → ℕ → ℕ → List Frame → List ℕ → Lines → Tree → Type 0
ValueRead line owner least column frames bytes lines t =
    (outcome : Outcome) × (events : List Event) × Makes events t
    × (content_at line owner column frames bytes ≡ Ok outcome) × (value_at line owner column frames bytes ≡ Ok outcome)
    × ((rest : Lines) → Halts least rest → with_front outcome.0 (moves (line + 1) (scan_of outcome).1 (lines ++ rest)) ≡ with_front events (moves (after_lines (line + 1) lines) (outside (filled frames)) rest))

no_form : (b : ℕ) (bs : List ℕ) → OpensWord b bs → begins_form b ≡ false
no_form b bs o = rw (o.bar, o.open_list, o.open_map) refl

end_no_key : (line column : ℕ) (frames : List Frame) (word : Word) (rest : List ℕ) → is_end rest ≡ true → key_or_scalar line column frames (word, rest) ≡ scalar_at line column frames (word, rest)
end_no_key line column frames word [] h = refl
end_no_key line column frames word (b ∷ bs) h = let n : (b == 58) ≡ false = no_colon b (is_blank bs) h in rw n refl
  where
    no_colon : (b : ℕ) (t : Bool) → (b == 32 && t) ≡ true → (b == 58) ≡ false
    no_colon b t h = grind (arith, nat_tests)

pub word_is_read : (line : ℕ) (owner : Option ℕ) (column : ℕ) (frames : List Frame) (bytes rest : List ℕ) (word : Word) → SpellsScalar Block bytes word rest → (content_at line owner column frames bytes ≡ key_or_scalar line column frames (word, rest)) × (value_at line owner column frames bytes ≡ scalar_at line column frames (word, rest))
word_is_read line owner column frames bytes rest word w = by bytes (word_opens Block bytes rest word w) (word_spelled Block line bytes rest word w)
  where
    by : (bytes : List ℕ) → Opens bytes → word_at Block line bytes ≡ Ok (word, rest) → (content_at line owner column frames bytes ≡ key_or_scalar line column frames (word, rest)) × (value_at line owner column frames bytes ≡ scalar_at line column frames (word, rest))
    by [] o e = absurd o
    by (b ∷ bs) o e = let n = no_form b bs o in (rw n (ap (λ read. read >>= λ w. key_or_scalar line column frames w) e), rw n (ap (λ read. read >>= λ w. scalar_at line column frames w) e))

scalar_placed : (line column : ℕ) (frames after : List Frame) (word : Word) (rest : List ℕ) → is_end rest ≡ true → place_value line column frames ≡ Ok after → scalar_at line column frames (word, rest) ≡ Ok (Scalar (leaf_of word) ∷ [], (after, None))
scalar_placed line column frames after word rest e p = rw (e, p) refl

blank_rest : (line : ℕ) (frames : List Frame) (events : List Event) (lines rest : Lines) → Each IsBlank lines → with_front events (moves (line + 1) (outside frames) (lines ++ rest)) ≡ with_front events (moves (after_lines (line + 1) lines) (outside frames) rest)
blank_rest line frames events lines rest h = ap (λ read. with_front events read) (blank_moves (line + 1) frames lines rest h)

scalar_is_read : (line : ℕ) (owner : Option ℕ) (least column : ℕ) (frames : List Frame) (bytes rest : List ℕ) (word : Word) (lines : Lines) → Accepts least frames → least ≤ column → SpellsScalar Block bytes word rest → is_end rest ≡ true → Each IsBlank lines → ValueRead line owner least column frames bytes lines (leaf_tree (leaf_of word))
scalar_is_read line owner least column frames bytes rest word lines a n w e h =
    let r = word_is_read line owner column frames bytes rest word w in
    let p = scalar_placed line column frames (filled frames) word rest e (value_placed line least column frames a n) in (
      (Scalar (leaf_of word) ∷ [], (filled frames, None)),
      Scalar (leaf_of word) ∷ [],
      makes_scalar (leaf_of word),
      r.0 ∙ end_no_key line column frames word rest e ∙ p,
      r.1 ∙ p,
      (λ after halts. blank_rest line (filled frames) (Scalar (leaf_of word) ∷ []) lines after h),
    )

opens_form : (b : ℕ) → (b == 91 || b == 123) ≡ true → (b ≡ 91) ⊎ (b ≡ 123)
opens_form b h = grind (arith, nat_tests)

flow_placed : (line column : ℕ) (frames after : List Frame) (bytes : List ℕ) (events : List Event) → form_of line bytes ≡ Ok events → place_value line column frames ≡ Ok after → flow_at line column frames bytes ≡ Ok (events, (after, None))
flow_placed line column frames after bytes events f p = rw (p, f) refl

form_content : (line : ℕ) (owner : Option ℕ) (column : ℕ) (frames : List Frame) (b : ℕ) (bs : List ℕ) → (b ≡ 91) ⊎ (b ≡ 123) → (content_at line owner column frames (b ∷ bs) ≡ flow_at line column frames (b ∷ bs)) × (value_at line owner column frames (b ∷ bs) ≡ flow_at line column frames (b ∷ bs)) × (skip_spaces (b ∷ bs) ≡ b ∷ bs)
form_content line owner column frames b bs (inl h) = rw h (refl, refl, refl)
form_content line owner column frames b bs (inr h) = rw h (refl, refl, refl)

flow_is_read : (line : ℕ) (owner : Option ℕ) (least column : ℕ) (frames : List Frame) (b : ℕ) (bs rest : List ℕ) (t : Tree) (lines : Lines) → Accepts least frames → least ≤ column → (b == 91 || b == 123) ≡ true → SpellsFlow (b ∷ bs) t rest → is_end rest ≡ true → Each IsBlank lines → ValueRead line owner least column frames (b ∷ bs) lines t
flow_is_read line owner least column frames b bs rest t lines a n o f e h =
    let c = form_content line owner column frames b bs (opens_form b o) in
    let r = form_read line (b ∷ bs) rest t f c.2 e in
    let p = flow_placed line column frames (filled frames) (b ∷ bs) r.0 r.1 (value_placed line least column frames a n) in
    ((r.0, (filled frames, None)), r.0, r.2, c.0 ∙ p, c.1 ∙ p, (λ after halts. blank_rest line (filled frames) r.0 lines after h))

chomping_read : (line : ℕ) (header : List ℕ) (chomping : Chomping) → SpellsChomping header chomping → chomping_of line header ≡ Ok chomping
chomping_read line header chomping (clip bytes e) = by bytes e
  where
    no_dash : (b : ℕ) (t : Bool) → (b == 32 && t) ≡ true → (b == 45) ≡ false
    no_dash b t h = grind (arith, nat_tests)

    by : (bytes : List ℕ) → is_end bytes ≡ true → chomping_of line bytes ≡ Ok Clip
    by [] e = refl
    by (b ∷ bs) e = rw (no_dash b (is_blank bs) e, e) refl
chomping_read line header chomping (strip bytes e) = rw e refl

-- behind the body of a literal
tail_moves : (line owner least : ℕ) (frames : List Frame) (header : Header) (indent : Option ℕ) (body tail rest : Lines) → header.owner ≡ owner → is_utf8 (literal_text header.chomping indent body) ≡ true → least ≤ owner + 1 → IsTail owner tail → Halts least rest → moves line (within_literal frames header indent body) (tail ++ rest) ≡ with_front (Scalar (Text (literal_text header.chomping indent body)) ∷ []) (moves (after_lines line tail) (outside frames) rest)
tail_moves line owner least frames header indent body [] [] o u n t h = literal_ends line frames header indent body [] u tt
tail_moves line owner least frames header indent body [] (bytes ∷ rest) o u n t h = let small = h.1 in literal_ends line frames header indent body (bytes ∷ rest) u (h.0, omega arith)
tail_moves line owner least frames header indent body (bytes ∷ tail) rest o u n t h =
    let small = t.1 in
    literal_ends line frames header indent body (bytes ∷ (tail ++ rest)) u (t.0, omega arith)
    ∙ ap (λ read. with_front (Scalar (Text (literal_text header.chomping indent body)) ∷ []) read) (blank_moves line frames (bytes ∷ tail) rest t.2)

literal_placed : (line owner column : ℕ) (frames after : List Frame) (bytes : List ℕ) (chomping : Chomping) → chomping_of line bytes ≡ Ok chomping → place_value line column frames ≡ Ok after → literal_at line (Some owner) column frames bytes ≡ Ok ([], (after, Some (record { line = line; owner = owner; chomping = chomping })))
literal_placed line owner column frames after bytes chomping c p = rw (c, p) refl

literal_is_read : (line owner least column : ℕ) (frames : List Frame) (bytes : List ℕ) (chomping : Chomping) (indent : Option ℕ) (body tail : Lines) → Accepts least frames → least ≤ column → least ≤ owner + 1 → SpellsChomping bytes chomping → Each (IsBodyLine owner) body → IsIndentation indent body → IsTail owner tail → is_utf8 (literal_text chomping indent body) ≡ true → ValueRead line (Some owner) least column frames (124 ∷ bytes) (body ++ tail) (text (literal_text chomping indent body))
literal_is_read line owner least column frames bytes chomping indent body tail a n o c h i t u =
    let header : Header = record { line = line; owner = owner; chomping = chomping } in
    let p = literal_placed line owner column frames (filled frames) bytes chomping (chomping_read line bytes chomping c) (value_placed line least column frames a n) in (
      ([], (filled frames, Some header)),
      Scalar (Text (literal_text chomping indent body)) ∷ [],
      makes_scalar (Text (literal_text chomping indent body)),
      p,
      p,
      (λ rest halts. with_none (moves (line + 1) (within_literal (filled frames) header None []) ((body ++ tail) ++ rest))
          ∙ ap (λ lines. moves (line + 1) (within_literal (filled frames) header None []) lines) (append_assoc body tail rest)
          ∙ body_moves (line + 1) (filled frames) header indent [] body (tail ++ rest) h i
          ∙ tail_moves (after_lines (line + 1) body) owner least (filled frames) header indent body tail rest refl u o t halts
          ∙ ap (λ n. with_front (Scalar (Text (literal_text chomping indent body)) ∷ []) (moves n (outside (filled frames)) rest)) (sym (after_append (line + 1) body tail))),
    )

pub value_is_read : (owner : Option ℕ) (bytes : List ℕ) (lines : Lines) (t : Tree) → SpellsValue owner bytes lines t → (line least column : ℕ) (frames : List Frame) → Accepts least frames → least ≤ column → Owns owner least → ValueRead line owner least column frames bytes lines t
value_is_read owner bytes lines t (scalar own by rest word blanks w e h) line least column frames a n o = scalar_is_read line own least column frames by rest word blanks a n w e h
value_is_read owner bytes lines t (flow own b bs rest u blanks c f e h) line least column frames a n o = flow_is_read line own least column frames b bs rest u blanks a n c f e h
value_is_read owner bytes lines t (literal own header chomping indent body tail c h i k u) line least column frames a n o = literal_is_read line own least column frames header chomping indent body tail a n o c h i k u

pub value_opens : (owner : Option ℕ) (bytes : List ℕ) (lines : Lines) (t : Tree) → SpellsValue owner bytes lines t → OpensContent bytes
value_opens owner bytes lines t (scalar own by rest word blanks w e h) = word_content by (word_opens Block by rest word w)
value_opens owner bytes lines t (flow own b bs rest u blanks c f e h) = by b bs (opens_form b c)
  where
    by : (b : ℕ) (bs : List ℕ) → (b ≡ 91) ⊎ (b ≡ 123) → OpensContent (b ∷ bs)
    by b bs (inl h) = rw h (refl, refl, refl)
    by b bs (inr h) = rw h (refl, refl, refl)
value_opens owner bytes lines t (literal own header chomping indent body tail c h i k u) = (refl, refl, refl)
