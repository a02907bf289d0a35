-- What a line that is read spells, with the lines behind it.
use Rattle.std.proofs.Common.{◌≡◌, ◌<◌, ℕ, zero, suc, ◌+◌, Bool, true, false, ◌&&◌, ◌||◌, List, [], ◌∷◌, ◌++◌, Option, Some, None, Ok, append_assoc, refl, ap, sym, ◌∙◌, subst, arith, if◌then◌else◌, ◌==◌, inl, inr, ◌⊎◌}
use Rattle.std.proofs.lemmas.Bool.Decides.{nat_tests}
use Rattle.std.specs.Str.{is_utf8}
use Rattle.bosh_yaml.specs.declared.bare.Place.TheVariants.{Block}
use Rattle.bosh_yaml.specs.declared.block.Frame.{Frame}
use Rattle.bosh_yaml.specs.declared.block.Frame.TheVariants.{Item, List as ListAt, Entry, Map as MapAt}
use Rattle.bosh_yaml.specs.declared.event.Event.TheVariants.{Scalar, OpenList, OpenMap, Key}
use Rattle.bosh_yaml.specs.declared.literal.Chomping.{Chomping}
use Rattle.bosh_yaml.specs.declared.literal.Chomping.TheVariants.{Clip, Strip}
use Rattle.bosh_yaml.specs.declared.literal.Header.{Header}
use Rattle.bosh_yaml.specs.declared.scan.Mode.{Mode}
use Rattle.bosh_yaml.specs.declared.scan.Mode.TheVariants.{Start, Outside, Literal}
use Rattle.bosh_yaml.specs.declared.word.Word.{Word}
use Rattle.bosh_yaml.specs.Block.{Placed, place_dash, place_key, place_value}
use Rattle.bosh_yaml.specs.Content.{Outcome, add_events, scalar_at, flow_at, chomping_of, literal_at, begins_form, form_at, value_at, entry_at, key_at, key_or_scalar, content_at, items_at}
use Rattle.bosh_yaml.specs.Events.{next_mode}
use Rattle.bosh_yaml.specs.Flow.{form_of}
use Rattle.bosh_yaml.specs.Lines.{begins, is_blank, is_comment, is_end, is_gap, skip_spaces}
use Rattle.bosh_yaml.specs.Literal.{literal_text}
use Rattle.bosh_yaml.specs.Result.{◌>>=◌}
use Rattle.bosh_yaml.specs.Scalar.{leaf_tree}
use Rattle.bosh_yaml.specs.SpelledBlock.{Each, spaces, begins_content, IsBodyLine, IsWithin, IsIndentation, IsTail, SpellsChomping, clip, strip, SpellsValue, SpellsItem, SpellsEntry, scalar, flow, literal, node, value, last_item, item, null_item, item_below, item_beside, last_entry, entry, null_value, value_below, items_level, value_beside}
use Rattle.bosh_yaml.specs.SpelledFlow.{SpellsFlow}
use Rattle.bosh_yaml.specs.SpelledWord.{SpellsScalar, IsKey}
use Rattle.bosh_yaml.specs.Tree.{Tree, null, text, list, trees_of}
use Rattle.bosh_yaml.specs.Word.{word_at, leaf_of, key_of, syntax_fault}
use Rattle.bosh_yaml.proofs.FrameLemmas.{is_less}
use Rattle.bosh_yaml.proofs.MoveLemmas.{skip_indentation}
use Rattle.bosh_yaml.proofs.MoveLemmas.{Lines}
use Rattle.bosh_yaml.proofs.ReadFlowLemmas.{form_ok}
use Rattle.bosh_yaml.proofs.ReadFrameLemmas.{Follows, Closed, Sequence, Mapping, Node, AtItems, AtEntries, At, list_node, map_node, dash_fits, key_fits, value_belongs}
use Rattle.bosh_yaml.proofs.ReadWordLemmas.{bind_ok, if_ok, word_ok, key_ok}
use Rattle.bosh_yaml.proofs.ResultLemmas.{ok_same}

-- how a literal goes on: its indentation may be fixed already
abbrev pub Indents : Option ℕ → Option ℕ → Lines → Type 0
Indents None found body = IsIndentation found body
Indents (Some indent) found body = (found ≡ Some indent) × Each (IsWithin indent) body

abbrev pub InLiteral : Header → Option ℕ → Lines → List Frame → Lines → Type 0
InLiteral header indent before frames lines =
    (body : Lines) × (tail : Lines) × (more : Lines) × (found : Option ℕ) × (lines ≡ body ++ (tail ++ more)) × Each (IsBodyLine header.owner) body × Indents indent found body × IsTail header.owner tail
    × (is_utf8 (literal_text header.chomping found (before ++ body)) ≡ true) × Follows (At frames None) more

-- what lines spell behind this state of the reader
abbrev pub Fit : Mode → List Frame → Lines → Lines → Type 0
Fit Start frames body lines = Unit {0}
Fit Outside frames body lines = Closed (At frames None) lines
Fit (Literal header indent) frames body lines = InLiteral header indent body frames lines

-- behind a line of this outcome
abbrev pub FitOutcome : Outcome → Lines → Type 0
FitOutcome o lines = Fit (next_mode o.1.1) o.1.0 [] lines

-- a value that was placed, with its lines and what follows them
abbrev pub ValueGot : ℕ → Option ℕ → ℕ → List Frame → List ℕ → Lines → Type 0
ValueGot line owner column frames bytes lines =
    (after : List Frame) × (place_value line column frames ≡ Ok after) × (inner : Lines) × (more : Lines) × (t : Tree) × (lines ≡ inner ++ more) × SpellsValue owner bytes inner t × Follows (At after None) more

scalar_got : (line : ℕ) (owner : Option ℕ) (column : ℕ) (frames : List Frame) (bytes : List ℕ) (word : Word) (rest : List ℕ) (o : Outcome) (lines : Lines) → SpellsScalar Block bytes word rest → scalar_at line column frames (word, rest) ≡ Ok o → FitOutcome o lines → ValueGot line owner column frames bytes lines
scalar_got line owner column frames bytes word rest o lines w h f =
    let e = if_ok (is_end rest) _ _ o h in
    let p = bind_ok (place_value line column frames) (λ after. let q : Outcome = (Scalar (leaf_of word) ∷ [], (after, None)) in Ok q) o e.1 in
    let c : Closed (At p.0 None) lines = subst (λ (o : Outcome). FitOutcome o lines) (sym (ok_same p.2)) f in
    (p.0, p.1, c.0, c.1, leaf_tree (leaf_of word), c.2, scalar owner bytes rest word c.0 w e.0 c.3, c.4)

flow_got : (line : ℕ) (owner : Option ℕ) (column : ℕ) (frames : List Frame) (b : ℕ) (bs : List ℕ) (o : Outcome) (lines : Lines) → (b == 91 || b == 123) ≡ true → skip_spaces (b ∷ bs) ≡ b ∷ bs → flow_at line column frames (b ∷ bs) ≡ Ok o → FitOutcome o lines → ValueGot line owner column frames (b ∷ bs) lines
flow_got line owner column frames b bs o lines c s h f =
    let p = bind_ok (place_value line column frames) (λ after. form_of line (b ∷ bs) >>= λ events. let q : Outcome = (events, (after, None)) in Ok q) o h in
    let e = bind_ok (form_of line (b ∷ bs)) (λ events. let q : Outcome = (events, (p.0, None)) in Ok q) o p.2 in
    let g = form_ok line (b ∷ bs) e.0 e.1 in
    let k : Closed (At p.0 None) lines = subst (λ (o : Outcome). FitOutcome o lines) (sym (ok_same e.2)) f in
    (p.0, p.1, k.0, k.1, g.0, k.2, flow owner b bs g.1 g.0 k.0 c (subst (λ bytes. SpellsFlow bytes g.0 g.1) s g.2) g.3 k.3, k.4)

chomping_ok : (line : ℕ) (header : List ℕ) (chomping : Chomping) → chomping_of line header ≡ Ok chomping → SpellsChomping header chomping
chomping_ok line [] chomping h = subst (λ c. SpellsChomping [] c) (ok_same h) (clip [] refl)
chomping_ok line (b ∷ bs) chomping h = by (b == 45) refl h
  where
    same : (b : ℕ) → (b == 45) ≡ true → b ≡ 45
    same b h = grind (arith, nat_tests)

    by : (s : Bool) → (b == 45) ≡ s → (if s then (if is_end bs then Ok Strip else syntax_fault line) else if is_end (b ∷ bs) then Ok Clip else syntax_fault line) ≡ Ok chomping → SpellsChomping (b ∷ bs) chomping
    by true p h = let e = if_ok (is_end bs) (Ok Strip) _ chomping h in rw (same b p) (subst (λ c. SpellsChomping (45 ∷ bs) c) (ok_same e.1) (strip bs e.0))
    by false p h = let e = if_ok (is_end (b ∷ bs)) (Ok Clip) _ chomping h in subst (λ c. SpellsChomping (b ∷ bs) c) (ok_same e.1) (clip (b ∷ bs) e.0)

literal_got : (line : ℕ) (owner : Option ℕ) (column : ℕ) (frames : List Frame) (bytes : List ℕ) (o : Outcome) (lines : Lines) → literal_at line owner column frames bytes ≡ Ok o → FitOutcome o lines → ValueGot line owner column frames (124 ∷ bytes) lines
literal_got line None column frames bytes o lines h f = absurd (cc)
literal_got line (Some owner) column frames bytes o lines h f =
    let c = bind_ok (chomping_of line bytes) (λ chomping. place_value line column frames >>= λ after. let q : Outcome = ([], (after, Some (record { line = line; owner = owner; chomping = chomping }))) in Ok q) o h in
    let p = bind_ok (place_value line column frames) (λ after. let q : Outcome = ([], (after, Some (record { line = line; owner = owner; chomping = c.0 }))) in Ok q) o c.2 in
    let header : Header = record { line = line; owner = owner; chomping = c.0 } in
    let k : InLiteral header None [] p.0 lines = subst (λ (o : Outcome). FitOutcome o lines) (sym (ok_same p.2)) f in
    (p.0, p.1, k.0 ++ k.1, k.2, text (literal_text c.0 k.3 k.0), k.4 ∙ sym (append_assoc k.0 k.1 k.2), literal owner bytes c.0 k.3 k.0 k.1 (chomping_ok line bytes c.0 c.1) k.5 k.6 k.7 k.8, k.9)

same_byte : (b c : ℕ) → (b == c) ≡ true → b ≡ c
same_byte b c h = grind (arith, nat_tests)

form_got : (line : ℕ) (owner : Option ℕ) (column : ℕ) (frames : List Frame) (b : ℕ) (bs : List ℕ) (o : Outcome) (lines : Lines) → begins_form b ≡ true → form_at line owner column frames b bs ≡ Ok o → FitOutcome o lines → ValueGot line owner column frames (b ∷ bs) lines
form_got line owner column frames b bs o lines c h f = by (b == 124) refl c h
  where
    no_space : (b : ℕ) → (b == 91 || b == 123) ≡ true → (b == 32) ≡ false
    no_space b h = grind (arith, nat_tests)

    skipped : (b : ℕ) → (b == 32) ≡ false → skip_spaces (b ∷ bs) ≡ b ∷ bs
    skipped b h = rw h refl

    by : (s : Bool) → (b == 124) ≡ s → (s || (b == 91 || b == 123)) ≡ true → (if s then literal_at line owner column frames bs else flow_at line column frames (b ∷ bs)) ≡ Ok o → ValueGot line owner column frames (b ∷ bs) lines
    by true p c h = rw (same_byte b 124 p) (literal_got line owner column frames bs o lines h f)
    by false p c h = flow_got line owner column frames b bs o lines c (skipped b (no_space b c)) h f

value_got : (line : ℕ) (owner : Option ℕ) (column : ℕ) (frames : List Frame) (bytes : List ℕ) (o : Outcome) (lines : Lines) → value_at line owner column frames bytes ≡ Ok o → FitOutcome o lines → ValueGot line owner column frames bytes lines
value_got line owner column frames [] o lines h f = absurd (cc)
value_got line owner column frames (b ∷ bs) o lines h f = by (begins_form b) refl h
  where
    by : (s : Bool) → begins_form b ≡ s → (if s then form_at line owner column frames b bs else (word_at Block line (b ∷ bs) >>= λ word. scalar_at line column frames word)) ≡ Ok o → ValueGot line owner column frames (b ∷ bs) lines
    by true p h = form_got line owner column frames b bs o lines p h f
    by false p h =
        let w = bind_ok (word_at Block line (b ∷ bs)) (λ word. scalar_at line column frames word) o h in
        scalar_got line owner column frames (b ∷ bs) w.0.0 w.0.1 o lines (word_ok Block line (b ∷ bs) w.0.0 w.0.1 w.1) w.2 f

-- behind a key and its `:`
abbrev pub EntryGot : ℕ → List Frame → List ℕ → Lines → Type 0
EntryGot column outer bytes lines =
    (inner : Lines) × (more : Lines) × (t : Tree) × (lines ≡ inner ++ more) × SpellsEntry column bytes inner t × Follows (AtEntries column (At outer None)) more

-- blank lines, a line with content, and more
joined : (lines blanks more inner rest lines' : Lines) (line : List ℕ) → lines ≡ blanks ++ more → more ≡ line ∷ lines' → lines' ≡ inner ++ rest → lines ≡ (blanks ++ line ∷ inner) ++ rest
joined lines blanks more inner rest lines' line e f g =
    e ∙ ap (λ ls. blanks ++ ls) (f ∙ ap (λ ls. line ∷ ls) g) ∙ sym (append_assoc blanks (line ∷ inner) rest)

entry_below_got : (column : ℕ) (outer : List Frame) (bytes : List ℕ) (lines : Lines) → is_end bytes ≡ true → (c : Closed (At (Entry column ∷ outer) None) lines) → EntryGot column outer bytes lines
entry_below_got column outer bytes lines e c = by c.4
  where
    by : Follows (At (Entry column ∷ outer) None) c.1 → EntryGot column outer bytes lines
    by (inl n) = (c.0, c.1, null, c.2, null_value column bytes c.0 e c.3, inl n)
    by (inr f) = on f.5
      where
        on : At (Entry column ∷ outer) None f.0 f.1 f.2 → EntryGot column outer bytes lines
        on (inl n) = (
          c.0 ++ (spaces f.0 ++ f.1) ∷ n.1.0,
          n.1.1,
          n.1.2,
          joined lines c.0 c.1 n.1.0 n.1.1 f.2 (spaces f.0 ++ f.1) c.2 f.3 n.1.3,
          value_below column bytes (c.0 ++ (spaces f.0 ++ f.1) ∷ n.1.0) n.1.2 e (node (column + 1) f.0 c.0 f.1 n.1.0 n.1.2 c.3 (let small = n.0 in omega arith) f.4 n.1.4),
          n.1.5,
        )
        on (inr (inl n)) =
            let same : f.0 ≡ column = n.0 in (
              c.0 ++ (spaces column ++ f.1) ∷ n.1.0,
              n.1.1,
              list (trees_of n.1.2),
              joined lines c.0 c.1 n.1.0 n.1.1 f.2 (spaces column ++ f.1) c.2 (f.3 ∙ ap (λ k. (spaces k ++ f.1) ∷ f.2) same) n.1.3,
              items_level column bytes f.1 c.0 n.1.0 n.1.2 e c.3 n.1.4,
              n.1.5,
            )
        on (inr (inr a)) = (c.0, c.1, null, c.2, null_value column bytes c.0 e c.3, inr (f.0, f.1, f.2, f.3, f.4, a))

split_spaces : (bytes : List ℕ) → (gap : ℕ) × (bytes ≡ spaces gap ++ skip_spaces bytes)
split_spaces [] = (0, refl)
split_spaces (b ∷ bs) = by (b == 32) refl (split_spaces bs)
  where
    by : (s : Bool) → (b == 32) ≡ s → ((gap : ℕ) × (bs ≡ spaces gap ++ skip_spaces bs)) → (gap : ℕ) × (b ∷ bs ≡ spaces gap ++ (if s then skip_spaces bs else b ∷ bs))
    by true p r = (suc r.0, ap (λ c. c ∷ bs) (same_byte b 32 p) ∙ ap (λ t. 32 ∷ t) r.1)
    by false p r = (0, refl)

entry_beside_got : (line column : ℕ) (outer : List Frame) (bytes : List ℕ) (lines : Lines) → is_gap bytes ≡ true → is_end bytes ≡ false → ValueGot line (Some column) (column + 1) (Entry column ∷ outer) (skip_spaces bytes) lines → EntryGot column outer bytes lines
entry_beside_got line column outer [] lines g e v = absurd (cc)
entry_beside_got line column outer (b ∷ bs) lines g e v =
    let s = split_spaces bs in
    let space = same_byte b 32 g in
    let placed : place_value line (column + 1) (Entry column ∷ outer) ≡ Ok (MapAt column ∷ outer) = rw (is_less column (column + 1) (omega arith)) refl in
    let after : v.0 ≡ MapAt column ∷ outer = ok_same (sym v.1 ∙ placed) in
    let skipped : skip_spaces (b ∷ bs) ≡ skip_spaces bs = rw space refl in
    let whole : b ∷ bs ≡ spaces (suc s.0) ++ skip_spaces bs = ap (λ c. c ∷ bs) space ∙ ap (λ t. 32 ∷ t) s.1 in
    let f : Follows (At (MapAt column ∷ outer) None) v.3 = subst (λ fs. Follows (At fs None) v.3) after v.7 in
    (v.2, v.3, v.4, v.5, subst (λ bytes. SpellsEntry column bytes v.2 v.4) (sym whole) (value_beside column s.0 (skip_spaces bs) v.2 v.4 (subst (λ bytes. SpellsValue (Some column) bytes v.2 v.4) skipped v.6)), f)

entry_got : (line column : ℕ) (outer : List Frame) (bytes : List ℕ) (o : Outcome) (lines : Lines) → is_gap bytes ≡ true → entry_at line column (Entry column ∷ outer) bytes ≡ Ok o → FitOutcome o lines → EntryGot column outer bytes lines
entry_got line column outer bytes o lines g h f = by (is_end bytes) refl h
  where
    by : (s : Bool) → is_end bytes ≡ s → (if s then Ok ([], (Entry column ∷ outer, None)) else value_at line (Some column) (column + 1) (Entry column ∷ outer) (skip_spaces bytes)) ≡ Ok o → EntryGot column outer bytes lines
    by true e h = entry_below_got column outer bytes lines e (subst (λ (o : Outcome). FitOutcome o lines) (sym (ok_same h)) f)
    by false e h = entry_beside_got line column outer bytes lines g e (value_got line (Some column) (column + 1) (Entry column ∷ outer) (skip_spaces bytes) o lines h f)

-- a key with its value, and the entries that follow
mapping_got : (column : ℕ) (outer : List Frame) (bytes rest : List ℕ) (word : Word) (key : List ℕ) (lines : Lines) → SpellsScalar Block bytes word (58 ∷ rest) → IsKey word key → EntryGot column outer rest lines → Mapping column (At outer None) bytes lines
mapping_got column outer bytes rest word key lines w k g = by g.5
  where
    last : Follows (At outer None) g.1 → Mapping column (At outer None) bytes lines
    last f = (g.0, g.1, (key, g.2) ∷ [], g.3, last_entry column bytes rest word key g.0 g.2 w k g.4, f)

    by : Follows (AtEntries column (At outer None)) g.1 → Mapping column (At outer None) bytes lines
    by (inl n) = last (inl n)
    by (inr f) = on f.5
      where
        on : AtEntries column (At outer None) f.0 f.1 f.2 → Mapping column (At outer None) bytes lines
        on (inl m) =
            let same : f.0 ≡ column = m.0 in (
              g.0 ++ (spaces column ++ f.1) ∷ m.1.0,
              m.1.1,
              (key, g.2) ∷ m.1.2,
              joined lines g.0 g.1 m.1.0 m.1.1 f.2 (spaces column ++ f.1) g.3 (f.3 ∙ ap (λ c. (spaces c ++ f.1) ∷ f.2) same) m.1.3,
              entry column bytes rest f.1 word key g.0 m.1.0 g.2 m.1.2 w k g.4 f.4 m.1.4,
              m.1.5,
            )
        on (inr a) = last (inr (f.0, f.1, f.2, f.3, f.4, a))

abbrev pub KeyGot : ℕ → ℕ → List Frame → List ℕ → Lines → Type 0
KeyGot line column frames bytes lines =
    (key : List ℕ) × (placed : Placed) × (outer : List Frame) × (place_key line column key frames ≡ Ok placed) × (placed.1 ≡ Entry column ∷ outer) × Mapping column (At outer None) bytes lines

key_got : (line column : ℕ) (frames : List Frame) (bytes rest : List ℕ) (word : Word) (o : Outcome) (lines : Lines) → SpellsScalar Block bytes word (58 ∷ rest) → is_gap rest ≡ true → key_at line column frames word rest ≡ Ok o → FitOutcome o lines → KeyGot line column frames bytes lines
key_got line column frames bytes rest word o lines w g h f =
    let k = bind_ok (key_of line word) (λ key. place_key line column key frames >>= λ placed. add_events placed.0 (entry_at line column placed.1 rest)) o h in
    let p = bind_ok (place_key line column k.0 frames) (λ placed. add_events placed.0 (entry_at line column placed.1 rest)) o k.2 in
    let e = bind_ok (entry_at line column p.0.1 rest) (λ (q : Outcome). let r : Outcome = (p.0.0 ++ q.0, q.1) in Ok r) o p.2 in
    let d = key_fits line column k.0 frames p.0 p.1 in
    let fit : FitOutcome e.0 lines = subst (λ (o : Outcome). FitOutcome o lines) (sym (ok_same e.2)) f in
    let there : entry_at line column (Entry column ∷ d.0) rest ≡ Ok e.0 = subst (λ fs. entry_at line column fs rest ≡ Ok e.0) d.1 e.1 in
    (k.0, p.0, d.0, p.1, d.1, mapping_got column d.0 bytes rest word k.0 lines w (key_ok line word k.0 k.1) (entry_got line column d.0 rest e.0 lines g there fit))

word_got : (line : ℕ) (owner : Option ℕ) (column : ℕ) (frames : List Frame) (bytes : List ℕ) (word : Word) (rest : List ℕ) (o : Outcome) (lines : Lines) → SpellsScalar Block bytes word rest → key_or_scalar line column frames (word, rest) ≡ Ok o → FitOutcome o lines → KeyGot line column frames bytes lines ⊎ ValueGot line owner column frames bytes lines
word_got line owner column frames bytes word [] o lines w h f = inr (scalar_got line owner column frames bytes word [] o lines w h f)
word_got line owner column frames bytes word (b ∷ bs) o lines w h f = by (b == 58) (is_gap bs) refl refl h
  where
    by : (c g : Bool) → (b == 58) ≡ c → is_gap bs ≡ g → (if c && g then key_at line column frames word bs else scalar_at line column frames (word, b ∷ bs)) ≡ Ok o → KeyGot line column frames bytes lines ⊎ ValueGot line owner column frames bytes lines
    by true true p q h = inl (key_got line column frames bytes bs word o lines (subst (λ c. SpellsScalar Block bytes word (c ∷ bs)) (same_byte b 58 p) w) q h f)
    by true false p q h = inr (scalar_got line owner column frames bytes word (b ∷ bs) o lines w h f)
    by false g p q h = inr (scalar_got line owner column frames bytes word (b ∷ bs) o lines w h f)

content_got : (line : ℕ) (owner : Option ℕ) (column : ℕ) (frames : List Frame) (bytes : List ℕ) (o : Outcome) (lines : Lines) → content_at line owner column frames bytes ≡ Ok o → FitOutcome o lines → KeyGot line column frames bytes lines ⊎ ValueGot line owner column frames bytes lines
content_got line owner column frames [] o lines h f = absurd (cc)
content_got line owner column frames (b ∷ bs) o lines h f = by (begins_form b) refl h
  where
    by : (s : Bool) → begins_form b ≡ s → (if s then form_at line owner column frames b bs else (word_at Block line (b ∷ bs) >>= λ word. key_or_scalar line column frames word)) ≡ Ok o → KeyGot line column frames (b ∷ bs) lines ⊎ ValueGot line owner column frames (b ∷ bs) lines
    by true p h = inr (form_got line owner column frames b bs o lines p h f)
    by false p h =
        let w = bind_ok (word_at Block line (b ∷ bs)) (λ word. key_or_scalar line column frames word) o h in
        word_got line owner column frames (b ∷ bs) w.0.0 w.0.1 o lines (word_ok Block line (b ∷ bs) w.0.0 w.0.1 w.1) w.2 f

abbrev pub DashGot : ℕ → ℕ → List Frame → List ℕ → Lines → Type 0
DashGot line column frames bytes lines =
    (placed : Placed) × (outer : List Frame) × (place_dash line column frames ≡ Ok placed) × (placed.1 ≡ Item column ∷ outer) × Sequence column (At outer None) bytes lines

abbrev pub Got : ℕ → Option ℕ → ℕ → List Frame → List ℕ → Lines → Type 0
Got line owner column frames bytes lines = DashGot line column frames bytes lines ⊎ (KeyGot line column frames bytes lines ⊎ ValueGot line owner column frames bytes lines)

value_node : (line : ℕ) (owner : Option ℕ) (column : ℕ) (frames : List Frame) (bytes : List ℕ) (lines : Lines) → (v : ValueGot line owner column frames bytes lines) → Node owner column (At v.0 None) bytes lines
value_node line owner column frames bytes lines v = (v.2, v.3, v.4, v.5, value owner column bytes v.2 v.4 v.6, v.7)

items_tail : (column : ℕ) (frames outer other : List Frame) → frames ≡ Item column ∷ outer → frames ≡ Item column ∷ other → outer ≡ other
items_tail column frames outer other e f = cc

entries_tail : (column : ℕ) (frames outer other : List Frame) → frames ≡ Entry column ∷ outer → frames ≡ Entry column ∷ other → outer ≡ other
entries_tail column frames outer other e f = cc

-- what a line has belongs where its frames say
got_at : (line : ℕ) (owner : Option ℕ) (column : ℕ) (frames : List Frame) (bytes : List ℕ) (lines : Lines) → Got line owner column frames bytes lines → At frames owner column bytes lines
got_at line owner column frames bytes lines (inl g) =
    let d = dash_fits line column frames g.0 g.2 in
    let e = items_tail column g.0.1 g.1 d.0 g.3 d.1 in
    d.2 owner bytes lines (subst (λ fs. Sequence column (At fs None) bytes lines) e g.4)
got_at line owner column frames bytes lines (inr (inl g)) =
    let d = key_fits line column g.0 frames g.1 g.3 in
    let e = entries_tail column g.1.1 g.2 d.0 g.4 d.1 in
    d.2 owner bytes lines (subst (λ fs. Mapping column (At fs None) bytes lines) e g.5)
got_at line owner column frames bytes lines (inr (inr g)) =
    value_belongs line column frames g.0 g.1 owner bytes lines (value_node line owner column frames bytes lines g)

-- and further right than a dash on its line it is the dash's item
got_inside : (line : ℕ) (owner : Option ℕ) (at column : ℕ) (outer : List Frame) (bytes : List ℕ) (lines : Lines) → at < column → Got line owner column (Item at ∷ outer) bytes lines → Node owner column (AtItems at (At outer None)) bytes lines
got_inside line owner at column outer bytes lines n (inl g) =
    let p : place_dash line column (Item at ∷ outer) ≡ Ok (OpenList ∷ [], Item column ∷ ListAt at ∷ outer) = rw (is_less at column n) refl in
    let placed : g.0.1 ≡ Item column ∷ ListAt at ∷ outer = ap (λ (q : Placed). q.1) (ok_same (sym g.2 ∙ p)) in
    let e = items_tail column g.0.1 g.1 (ListAt at ∷ outer) g.3 placed in
    list_node owner column (AtItems at (At outer None)) bytes lines (subst (λ fs. Sequence column (At fs None) bytes lines) e g.4)
got_inside line owner at column outer bytes lines n (inr (inl g)) =
    let p : place_key line column g.0 (Item at ∷ outer) ≡ Ok (OpenMap ∷ Key line g.0 ∷ [], Entry column ∷ ListAt at ∷ outer) = rw (is_less at column n) refl in
    let placed : g.1.1 ≡ Entry column ∷ ListAt at ∷ outer = ap (λ (q : Placed). q.1) (ok_same (sym g.3 ∙ p)) in
    let e = entries_tail column g.1.1 g.2 (ListAt at ∷ outer) g.4 placed in
    map_node owner column (AtItems at (At outer None)) bytes lines (subst (λ fs. Mapping column (At fs None) bytes lines) e g.5)
got_inside line owner at column outer bytes lines n (inr (inr g)) =
    let p : place_value line column (Item at ∷ outer) ≡ Ok (ListAt at ∷ outer) = rw (is_less at column n) refl in
    let after : g.0 ≡ ListAt at ∷ outer = ok_same (sym g.1 ∙ p) in
    subst (λ fs. Node owner column (At fs None) bytes lines) after (value_node line owner column (Item at ∷ outer) bytes lines g)

-- content begins with no space and no `#`
abbrev pub OpensLine : List ℕ → Type 0
OpensLine [] = ⊥
OpensLine (b ∷ bs) = ((b == 32) ≡ false) × ((b == 35) ≡ false)

-- the rest of a line: nothing more, or content behind spaces
abbrev pub RestGot : ℕ → Option ℕ → ℕ → List Frame → List ℕ → Outcome → Lines → Type 0
RestGot line owner column frames bytes o lines =
    ((is_blank bytes ≡ true) × (o.1 ≡ (frames, None))) ⊎ ((gap : ℕ) × (content : List ℕ) × (bytes ≡ spaces gap ++ content) × OpensLine content × Got line owner (column + gap) frames content lines)

-- behind a dash
abbrev pub ItemGot : ℕ → List Frame → List ℕ → Lines → Type 0
ItemGot column outer bytes lines =
    (inner : Lines) × (more : Lines) × (t : Tree) × (lines ≡ inner ++ more) × SpellsItem column bytes inner t × Follows (AtItems column (At outer None)) more

item_below_got : (column : ℕ) (outer : List Frame) (bytes : List ℕ) (lines : Lines) → is_end bytes ≡ true → (c : Closed (At (Item column ∷ outer) None) lines) → ItemGot column outer bytes lines
item_below_got column outer bytes lines e c = by c.4
  where
    by : Follows (At (Item column ∷ outer) None) c.1 → ItemGot column outer bytes lines
    by (inl n) = (c.0, c.1, null, c.2, null_item column bytes c.0 e c.3, inl n)
    by (inr f) = on f.5
      where
        on : At (Item column ∷ outer) None f.0 f.1 f.2 → ItemGot column outer bytes lines
        on (inl n) = (
          c.0 ++ (spaces f.0 ++ f.1) ∷ n.1.0,
          n.1.1,
          n.1.2,
          joined lines c.0 c.1 n.1.0 n.1.1 f.2 (spaces f.0 ++ f.1) c.2 f.3 n.1.3,
          item_below column bytes (c.0 ++ (spaces f.0 ++ f.1) ∷ n.1.0) n.1.2 e (node (column + 1) f.0 c.0 f.1 n.1.0 n.1.2 c.3 (let small = n.0 in omega arith) f.4 n.1.4),
          n.1.5,
        )
        on (inr a) = (c.0, c.1, null, c.2, null_item column bytes c.0 e c.3, inr (f.0, f.1, f.2, f.3, f.4, a))

blank_gap : (bytes : List ℕ) → is_blank bytes ≡ true → is_gap bytes ≡ true → is_end bytes ≡ true
blank_gap [] h g = refl
blank_gap (b ∷ bs) h g = rw (same_byte b 32 g) (rw (same_byte b 32 g) at h)

item_got : (line column : ℕ) (outer : List Frame) (bytes : List ℕ) (o : Outcome) (lines : Lines) → is_gap bytes ≡ true → FitOutcome o lines → RestGot line (Some column) (column + 1) (Item column ∷ outer) bytes o lines → ItemGot column outer bytes lines
item_got line column outer bytes o lines g f (inl r) =
    item_below_got column outer bytes lines (blank_gap bytes r.0 g) (subst (λ (p : List Frame × Option Header). Fit (next_mode p.1) p.0 [] lines) r.1 f)
item_got line column outer bytes o lines g f (inr r) = by r.0 r.1 r.2 r.3 r.4
  where
    no_space : (content : List ℕ) → OpensLine content → is_gap content ≡ true → ⊥
    no_space [] o g = o
    no_space (b ∷ bs) o g = cc

    by : (gap : ℕ) (content : List ℕ) → bytes ≡ spaces gap ++ content → OpensLine content → Got line (Some column) (column + 1 + gap) (Item column ∷ outer) content lines → ItemGot column outer bytes lines
    by zero content e o k = absurd (no_space content o (ap (λ t. is_gap t) (sym e) ∙ g))
    by (suc gap) content e o k =
        let n = got_inside line (Some column) column (column + 1 + suc gap) outer content lines (omega arith) k in
        (n.0, n.1, n.2, n.3, subst (λ bytes. SpellsItem column bytes n.0 n.2) (sym e) (item_beside column gap content n.0 n.2 n.4), n.5)

-- a dash with its item, and the items that follow
sequence_got : (column : ℕ) (outer : List Frame) (rest : List ℕ) (lines : Lines) → ItemGot column outer rest lines → Sequence column (At outer None) (45 ∷ rest) lines
sequence_got column outer rest lines g = by g.5
  where
    last : Follows (At outer None) g.1 → Sequence column (At outer None) (45 ∷ rest) lines
    last f = (g.0, g.1, g.2 ∷ [], g.3, last_item column rest g.0 g.2 g.4, f)

    by : Follows (AtItems column (At outer None)) g.1 → Sequence column (At outer None) (45 ∷ rest) lines
    by (inl n) = last (inl n)
    by (inr f) = on f.5
      where
        on : AtItems column (At outer None) f.0 f.1 f.2 → Sequence column (At outer None) (45 ∷ rest) lines
        on (inl m) =
            let same : f.0 ≡ column = m.0 in (
              g.0 ++ (spaces column ++ f.1) ∷ m.1.0,
              m.1.1,
              g.2 ∷ m.1.2,
              joined lines g.0 g.1 m.1.0 m.1.1 f.2 (spaces column ++ f.1) g.3 (f.3 ∙ ap (λ c. (spaces c ++ f.1) ∷ f.2) same) m.1.3,
              item column rest f.1 g.0 m.1.0 g.2 m.1.2 g.4 m.1.4,
              m.1.5,
            )
        on (inr a) = last (inr (f.0, f.1, f.2, f.3, f.4, a))

abbrev RestRead : List ℕ → Type 0
RestRead bytes = (line : ℕ) (owner : Option ℕ) (column : ℕ) (frames : List Frame) (o : Outcome) (lines : Lines) → items_at line owner column frames bytes ≡ Ok o → FitOutcome o lines → RestGot line owner column frames bytes o lines

dash_got : (line : ℕ) (owner : Option ℕ) (column : ℕ) (frames : List Frame) (bs : List ℕ) (o : Outcome) (lines : Lines) → is_gap bs ≡ true → (place_dash line column frames >>= λ placed. add_events placed.0 (items_at line (Some column) (column + 1) placed.1 bs)) ≡ Ok o → FitOutcome o lines → RestRead bs → DashGot line column frames (45 ∷ bs) lines
dash_got line owner column frames bs o lines g h f more =
    let p = bind_ok (place_dash line column frames) (λ placed. add_events placed.0 (items_at line (Some column) (column + 1) placed.1 bs)) o h in
    let e = bind_ok (items_at line (Some column) (column + 1) p.0.1 bs) (λ (q : Outcome). let r : Outcome = (p.0.0 ++ q.0, q.1) in Ok r) o p.2 in
    let d = dash_fits line column frames p.0 p.1 in
    let fit : FitOutcome e.0 lines = subst (λ (o : Outcome). FitOutcome o lines) (sym (ok_same e.2)) f in
    let there : items_at line (Some column) (column + 1) (Item column ∷ d.0) bs ≡ Ok e.0 = subst (λ fs. items_at line (Some column) (column + 1) fs bs ≡ Ok e.0) d.1 e.1 in
    (p.0, d.0, p.1, d.1, sequence_got column d.0 bs lines (item_got line column d.0 bs e.0 lines g fit (more line (Some column) (column + 1) (Item column ∷ d.0) e.0 lines there fit)))

spaced : (line : ℕ) (owner : Option ℕ) (column : ℕ) (frames : List Frame) (bs : List ℕ) (o : Outcome) (lines : Lines) → RestGot line owner (column + 1) frames bs o lines → RestGot line owner column frames (32 ∷ bs) o lines
spaced line owner column frames bs o lines (inl r) = inl (r.0, r.1)
spaced line owner column frames bs o lines (inr r) =
    let same : column + 1 + r.0 ≡ column + suc r.0 = omega arith in
    inr (suc r.0, r.1, ap (λ t. 32 ∷ t) r.2, r.3, subst (λ c. Got line owner c frames r.1 lines) same r.4)

here : (line : ℕ) (owner : Option ℕ) (column : ℕ) (frames : List Frame) (bytes : List ℕ) (o : Outcome) (lines : Lines) → OpensLine bytes → Got line owner column frames bytes lines → RestGot line owner column frames bytes o lines
here line owner column frames bytes o lines p g = let same : column ≡ column + 0 = omega arith in inr (0, bytes, refl, p, subst (λ c. Got line owner c frames bytes lines) same g)

rest_got : (bytes : List ℕ) → RestRead bytes
rest_got [] line owner column frames o lines h f = inl (refl, ap (λ (q : Outcome). q.1) (sym (ok_same h)))
rest_got (b ∷ bs) line owner column frames o lines h f = by (b == 32) (b == 45) (is_gap bs) (b == 35) refl refl refl refl h (rest_got bs)
  where
    dash_no_comment : (b : ℕ) → (b == 45) ≡ true → (b == 35) ≡ false
    dash_no_comment b h = grind (arith, nat_tests)

    by : (s d g c : Bool) → (b == 32) ≡ s → (b == 45) ≡ d → is_gap bs ≡ g → (b == 35) ≡ c
        → (if s then items_at line owner (column + 1) frames bs
        else if d && g then (place_dash line column frames >>= λ placed. add_events placed.0 (items_at line (Some column) (column + 1) placed.1 bs))
        else if c then Ok ([], (frames, None))
        else content_at line owner column frames (b ∷ bs)) ≡ Ok o → RestRead bs → RestGot line owner column frames (b ∷ bs) o lines
    by true d g c p q r t h more = rw (same_byte b 32 p) (spaced line owner column frames bs o lines (more line owner (column + 1) frames o lines h f))
    by false true true c p q r t h more =
        here line owner column frames (b ∷ bs) o lines (p, dash_no_comment b q) (inl (rw (same_byte b 45 q) (dash_got line owner column frames bs o lines r h f more)))
    by false true false true p q r t h more = inl (rw p t, ap (λ (q : Outcome). q.1) (sym (ok_same h)))
    by false false g true p q r t h more = inl (rw p t, ap (λ (q : Outcome). q.1) (sym (ok_same h)))
    by false true false false p q r t h more = here line owner column frames (b ∷ bs) o lines (p, t) (inr (content_got line owner column frames (b ∷ bs) o lines h f))
    by false false g false p q r t h more = here line owner column frames (b ∷ bs) o lines (p, t) (inr (content_got line owner column frames (b ∷ bs) o lines h f))

opened : (content : List ℕ) → OpensLine content → (skip_spaces content ≡ content) × (begins 9 content ≡ false → begins_content content ≡ true) × (is_comment content ≡ false)
opened [] o = absurd o
opened (b ∷ bs) o = (rw o.0 refl, (λ t. rw (o.0, t, o.1) refl), o.1)

-- a line with content
pub line_got : (line : ℕ) (frames : List Frame) (bytes : List ℕ) (o : Outcome) (lines : Lines) → is_blank bytes ≡ false → begins 9 (skip_spaces bytes) ≡ false → items_at line None 0 frames bytes ≡ Ok o → FitOutcome o lines → Closed (At frames None) (bytes ∷ lines)
line_got line frames bytes o lines b t h f = by (rest_got bytes line None 0 frames o lines h f)
  where
    by : RestGot line None 0 frames bytes o lines → Closed (At frames None) (bytes ∷ lines)
    by (inl r) = absurd (cc)
    by (inr r) =
        let s = opened r.1 r.3 in
        let skipped : skip_spaces bytes ≡ r.1 = ap (λ t. skip_spaces t) r.2 ∙ skip_indentation r.0 r.1 ∙ s.0 in
        let c : begins_content r.1 ≡ true = s.1 (ap (λ t. begins 9 t) (sym skipped) ∙ t) in
        let same : 0 + r.0 ≡ r.0 = omega arith in
        let a : At frames None r.0 r.1 lines = subst (λ c. At frames None c r.1 lines) same (got_at line None (0 + r.0) frames r.1 lines r.4) in
        ([], bytes ∷ lines, refl, tt, inr (r.0, r.1, lines, ap (λ l. l ∷ lines) r.2, c, a))
