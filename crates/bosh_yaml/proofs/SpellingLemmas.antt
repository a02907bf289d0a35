-- A text that is spelled is read, so it spells one tree.
use Rattle.std.proofs.Common.{◌≡◌, ◌≤◌, ◌<◌, ℕ, ◌+◌, Bool, true, false, List, [], ◌∷◌, ◌++◌, length, nat_lt, ℤ, Option, Some, None, Result, Ok, Err, append-nil, refl, ap, sym, ◌∙◌, subst, arith, ◌==◌, if◌then◌else◌, inl, inr, ◌⊎◌}
use Rattle.std.proofs.lemmas.Bool.Decides.{nat_tests}
use Rattle.bosh_yaml.specs.declared.block.Frame.TheVariants.{Whole, Done}
use Rattle.bosh_yaml.specs.declared.event.Event.{Event}
use Rattle.bosh_yaml.specs.declared.fault.ReadFault.{ReadFault}
use Rattle.bosh_yaml.specs.Block.{nothing as null_event, place_end}
use Rattle.bosh_yaml.specs.Events.{events_of, is_marker, start}
use Rattle.bosh_yaml.specs.Json.{json_events}
use Rattle.bosh_yaml.specs.Lines.{begins, is_blank, is_comment, lines_of, skip_spaces}
use Rattle.bosh_yaml.specs.Nodes.{tree_from}
use Rattle.bosh_yaml.specs.SpelledBlock.{Each, IsBlank}
use Rattle.bosh_yaml.specs.Spelling.{IsReadable, SpellsContent, nothing, content, is_marked, SpellsLines, marked, unmarked, SpellsJson, Spells, as_json, as_yaml, json_tree, json_items, json_members, number_tree}
use Rattle.bosh_yaml.specs.Tree.{Tree}
use Rattle.serde_json.specs.Data as json
use Rattle.serde_json.specs.Find.{as_i64}
use Rattle.bosh_yaml.specs.declared.fault.ReadFault.TheVariants.{Syntax, TooDeep, RepeatedKey, TooLarge, Number}
use Rattle.bosh_yaml.specs.Json.{has_integers, item_events, member_events, leaf_or_null}
use Rattle.bosh_yaml.specs.Limits.{depth, HasEachKeyOnce}
use Rattle.bosh_yaml.specs.Nodes.{line_of_repeat, nesting}
use Rattle.bosh_yaml.specs.Reading.{reading, yaml_reading, json_reading, checked_json_tree, checked_tree}
use Rattle.bosh_yaml.specs.Scalar.{leaf_tree}
use Rattle.bosh_yaml.proofs.FrameLemmas.{end_append, not_less, is_less}
use Rattle.bosh_yaml.proofs.MakesLemmas.{Makes, MakesItems, MakesEntries, makes_scalar, makes_list, makes_map, no_items, no_entries, more_items, more_entries, makes_whole, nests_whole, repeats_whole}
use Rattle.bosh_yaml.proofs.MoveLemmas.{Lines, Events, moves, readable_moves, after_lines, outside, blank_moves}
use Rattle.bosh_yaml.proofs.ResultLemmas.{ok_same}
use Rattle.bosh_yaml.proofs.SpelledBlockLemmas.{node_is_read}
use Rattle.bosh_yaml.proofs.SpelledFlowLemmas.{with_none}
use Rattle.bosh_yaml.specs.declared.plain.Leaf.TheVariants as leaf

-- lines that are read as events that make the tree
abbrev pub Read : Events → Tree → Type 0
Read read t = (events : List Event) × (read ≡ Ok events) × Makes events t

content_is_read : (line : ℕ) (lines : Lines) (t : Tree) → SpellsContent lines t → Read (moves line (outside (Whole ∷ [])) lines) t
content_is_read line lines t (nothing blanks h) =
    (null_event ∷ [], ap (λ ls. moves line (outside (Whole ∷ [])) ls) (sym (append-nil blanks)) ∙ blank_moves line (Whole ∷ []) blanks [] h, makes_scalar leaf.Null)
content_is_read line lines t (content ls u n) =
    let r = node_is_read 0 ls u n line (Whole ∷ []) tt in
    let ends : place_end (r.0 ++ Done ∷ []) ≡ place_end r.0 = end_append r.0 (Done ∷ []) ∙ append-nil (place_end r.0) in
    (r.1 ++ place_end r.0, ap (λ ls. moves line (outside (Whole ∷ [])) ls) (sym (append-nil ls)) ∙ r.4 [] tt ∙ ap (λ es. Ok (r.1 ++ es)) ends, r.3)

-- a blank line is no marker
blank_no_marker : (bytes : List ℕ) → is_blank bytes ≡ true → is_marker bytes ≡ false
blank_no_marker [] h = refl
blank_no_marker (a ∷ []) h = refl
blank_no_marker (a ∷ b ∷ []) h = refl
blank_no_marker (a ∷ b ∷ c ∷ rest) h = let n = by (a == 32) refl h in rw n refl
  where
    space_no_dash : (a : ℕ) → (a == 32) ≡ true → (a == 45) ≡ false
    space_no_dash a h = grind (arith, nat_tests)

    comment_no_dash : (a : ℕ) → (a == 35) ≡ true → (a == 45) ≡ false
    comment_no_dash a h = grind (arith, nat_tests)

    by : (s : Bool) → (a == 32) ≡ s → is_comment (if s then skip_spaces (b ∷ c ∷ rest) else a ∷ b ∷ c ∷ rest) ≡ true → (a == 45) ≡ false
    by true p h = space_no_dash a p
    by false p h = comment_no_dash a h

start_blank : (line : ℕ) (bytes : List ℕ) (lines : Lines) → is_blank bytes ≡ true → moves line start (bytes ∷ lines) ≡ moves (line + 1) start lines
start_blank line bytes lines h = rw (blank_no_marker bytes h, h) (with_none (moves (line + 1) start lines))

start_blanks : (line : ℕ) (blanks lines : Lines) → Each IsBlank blanks → moves line start (blanks ++ lines) ≡ moves (after_lines line blanks) start lines
start_blanks line [] lines h = refl
start_blanks line (bytes ∷ blanks) lines h = start_blank line bytes (blanks ++ lines) h.0 ∙ start_blanks (line + 1) blanks lines h.1

start_marker : (line : ℕ) (bytes : List ℕ) (lines : Lines) → is_marker bytes ≡ true → moves line start (bytes ∷ lines) ≡ moves (line + 1) (outside (Whole ∷ [])) lines
start_marker line bytes lines h = rw h (with_none (moves (line + 1) (outside (Whole ∷ [])) lines))

start_unmarked : (line : ℕ) (lines : Lines) → is_marked lines ≡ false → moves line start lines ≡ moves line (outside (Whole ∷ [])) lines
start_unmarked line [] h = refl
start_unmarked line (bytes ∷ lines) h = by (is_blank bytes) refl h (λ k. start_unmarked (line + 1) lines k)
  where
    by : (b : Bool) → is_blank bytes ≡ b → (if b then is_marked lines else is_marker bytes) ≡ false → (is_marked lines ≡ false → moves (line + 1) start lines ≡ moves (line + 1) (outside (Whole ∷ [])) lines) → moves line start (bytes ∷ lines) ≡ moves line (outside (Whole ∷ [])) (bytes ∷ lines)
    by true p h k = start_blank line bytes lines p ∙ k h ∙ sym (blank_moves line (Whole ∷ []) (bytes ∷ []) lines (p, tt))
    by false p h k = rw (h, p) refl

pub lines_are_read : (line : ℕ) (lines : Lines) (t : Tree) → SpellsLines lines t → Read (moves line start lines) t
lines_are_read line lines t (marked blanks marker ls u h m c) =
    let r = content_is_read (after_lines line blanks + 1) ls u c in
    (r.0, start_blanks line blanks (marker ∷ ls) h ∙ start_marker (after_lines line blanks) marker ls m ∙ r.1, r.2)
lines_are_read line lines t (unmarked ls u m c) =
    let r = content_is_read line ls u c in
    (r.0, start_unmarked line ls m ∙ r.1, r.2)

pub yaml_is_read : (text : List ℕ) (t : Tree) → Each IsReadable (lines_of text) → SpellsLines (lines_of text) t → Read (events_of text) t
yaml_is_read text t h s =
    let r = lines_are_read 1 (lines_of text) t s in
    (r.0, readable_moves 1 start (lines_of text) h ∙ r.1, r.2)

same_made : (read other : Events) (s t : Tree) → read ≡ other → Read read s → Read other t → s ≡ t
same_made read other s t e h k =
    let same : h.0 ≡ k.0 = ok_same (sym h.1 ∙ e ∙ k.1) in
    ok_same (sym (makes_whole h.0 s h.2) ∙ ap (λ es. tree_from None [] es) same ∙ makes_whole k.0 t k.2)

json_once : (text : List ℕ) (s t : Tree) → SpellsJson text s → SpellsJson text t → s ≡ t
json_once text s t h k =
    let same : h.0 ≡ k.0 = ok_same (sym h.1 ∙ k.1) in
    sym h.3 ∙ ap (λ d. json_tree d) same ∙ k.3

pub spells_once : (text : List ℕ) (s t : Tree) → Spells text s → Spells text t → s ≡ t
spells_once text s t (as_json b h) (as_json c k) = json_once text s t h k
spells_once text s t (as_json b h) (as_yaml c r k) = absurd (cc)
spells_once text s t (as_yaml b r h) (as_json c k) = absurd (cc)
spells_once text s t (as_yaml b r h) (as_yaml c q k) = same_made (events_of text) (events_of text) s t refl (yaml_is_read text s r h) (yaml_is_read text t q k)

number_leaf : (o : Option ℤ) → leaf_tree (leaf_or_null o) ≡ number_tree o
number_leaf None = refl
number_leaf (Some n) = refl

mutual
  pub json_makes : (d : json.Data) → Makes (json_events d) (json_tree d)
  json_makes json.null = makes_scalar leaf.Null
  json_makes (json.boolean b) = makes_scalar (leaf.Bool b)
  json_makes (json.number n) = subst (λ t. Makes (json_events (json.number n)) t) (number_leaf (as_i64 n)) (makes_scalar (leaf_or_null (as_i64 n)))
  json_makes (json.string s) = makes_scalar (leaf.Text s)
  json_makes (json.array ds) = makes_list (item_events ds) (json_items ds) (items_make ds)
  json_makes (json.object ms) = makes_map (member_events ms) (json_members ms) (members_make ms)

  items_make : (ds : json.Items) → MakesItems (item_events ds) (json_items ds)
  items_make json.no_items = no_items
  items_make (json.item d ds) = more_items (json_events d) (item_events ds) (json_tree d) (json_items ds) (json_makes d) (items_make ds)

  members_make : (ms : json.Members) → MakesEntries (member_events ms) (json_members ms)
  members_make json.no_members = no_entries
  members_make (json.member k d ms) = more_entries 0 (json_events d) (member_events ms) k (json_tree d) (json_members ms) (json_makes d) (members_make ms)

-- how a tree is checked whose events were read
checks : (events : List Event) (t : Tree) → Makes events t → HasEachKeyOnce t → (checked_tree (line_of_repeat [] events) events ≡ (if nat_lt 64 (depth t) then Err TooDeep else Ok t))
checks events t m once = rw (repeats_whole events t m once, nests_whole events t m, makes_whole events t m) refl

json_checks : (d : json.Data) (t : Tree) → has_integers d ≡ true → json_tree d ≡ t → HasEachKeyOnce t → checked_json_tree d (json_events d) ≡ (if nat_lt 64 (depth t) then Err TooDeep else Ok t)
json_checks d t i e once =
    let m : Makes (json_events d) t = subst (λ t. Makes (json_events d) t) e (json_makes d) in
    let c = checks (json_events d) t m once in
    rw (nests_whole (json_events d) t m, i, c) (twice (nat_lt 64 (depth t)) (Err TooDeep) (Ok t))
  where
    twice : (b : Bool) (x y : Result Tree ReadFault) → (if b then x else (if b then x else y)) ≡ (if b then x else y)
    twice true x y = refl
    twice false x y = refl

-- a text that is spelled reads as its tree, or nests too deep
within_size : (text : List ℕ) (t : Tree) → Spells text t → HasEachKeyOnce t → length text ≤ 1048576 → reading text ≡ (if nat_lt 64 (depth t) then Err TooDeep else Ok t)
within_size text t (as_json b h) once n =
    let small = not_less 1048576 (length text) n in
    rw (small, b, h.1) (json_checks h.0 t h.2 h.3 once)
within_size text t (as_yaml b r h) once n =
    let small = not_less 1048576 (length text) n in
    let y = yaml_is_read text t r h in
    rw (small, b, y.1) (checks y.0 t y.2 once)

pub spelled_is_read : (text : List ℕ) (t : Tree) → Spells text t → HasEachKeyOnce t → length text ≤ 1048576 → depth t ≤ 64 → reading text ≡ Ok t
spelled_is_read text t s once n d = let fits = not_less 64 (depth t) d in within_size text t s once n ∙ rw fits refl

pub spelled_too_deep : (text : List ℕ) (t : Tree) → Spells text t → HasEachKeyOnce t → length text ≤ 1048576 → 64 < depth t → reading text ≡ Err TooDeep
spelled_too_deep text t s once n d = let deep = is_less 64 (depth t) d in within_size text t s once n ∙ rw deep refl

checked_refuses : (found : Option ℕ) (events : List Event) (t : Tree) (fault : ReadFault) → tree_from None [] events ≡ Ok t → checked_tree found events ≡ Err fault → ((line : ℕ) × (found ≡ Some line) × (fault ≡ RepeatedKey line)) ⊎ (fault ≡ TooDeep)
checked_refuses (Some line) events t fault m h = inl (line, refl, cc)
checked_refuses None events t fault m h = by (nat_lt 64 (nesting 0 events)) h
  where
    by : (b : Bool) → (if b then Err TooDeep else tree_from None [] events) ≡ Err fault → ((line : ℕ) × (None ≡ Some line) × (fault ≡ RepeatedKey line)) ⊎ (fault ≡ TooDeep)
    by true h = inr (cc)
    by false h = absurd (cc)

-- a text that is spelled is refused for its size, a key that stands twice, or its depth, and for nothing else
yaml_refuses : (text : List ℕ) (t : Tree) (fault : ReadFault) → Each IsReadable (lines_of text) → SpellsLines (lines_of text) t → yaml_reading text ≡ Err fault → ((line : ℕ) × (HasEachKeyOnce t → ⊥) × (fault ≡ RepeatedKey line)) ⊎ (fault ≡ TooDeep)
yaml_refuses text t fault r s h =
    let y = yaml_is_read text t r s in
    by y.0 y.2 (checked_refuses (line_of_repeat [] y.0) y.0 t fault (makes_whole y.0 t y.2) (rw y.1 at h))
  where
    by : (events : List Event) → Makes events t → (((line : ℕ) × (line_of_repeat [] events ≡ Some line) × (fault ≡ RepeatedKey line)) ⊎ (fault ≡ TooDeep)) → ((line : ℕ) × (HasEachKeyOnce t → ⊥) × (fault ≡ RepeatedKey line)) ⊎ (fault ≡ TooDeep)
    by events m (inl f) = inl (f.0, (λ once. none (repeats_whole events t m once) f.1), f.2)
      where
        none : line_of_repeat [] events ≡ None → line_of_repeat [] events ≡ Some f.0 → ⊥
        none p q = cc
    by events m (inr f) = inr f

pub json_refuses : (text : List ℕ) (t : Tree) (fault : ReadFault) → SpellsJson text t → json_reading text ≡ Err fault → ((line : ℕ) × (HasEachKeyOnce t → ⊥) × (fault ≡ RepeatedKey line)) ⊎ (fault ≡ TooDeep)
json_refuses text t fault s h =
    let m : Makes (json_events s.0) t = subst (λ t. Makes (json_events s.0) t) s.3 (json_makes s.0) in
    by (nat_lt 64 (nesting 0 (json_events s.0))) m (rw (s.1, s.2) at h)
  where
    by : (b : Bool) → Makes (json_events s.0) t → (if b then Err TooDeep else checked_tree (line_of_repeat [] (json_events s.0)) (json_events s.0)) ≡ Err fault → ((line : ℕ) × (HasEachKeyOnce t → ⊥) × (fault ≡ RepeatedKey line)) ⊎ (fault ≡ TooDeep)
    by true m h = inr (cc)
    by false m h = on (checked_refuses (line_of_repeat [] (json_events s.0)) (json_events s.0) t fault (makes_whole (json_events s.0) t m) h)
      where
        none : (line : ℕ) → line_of_repeat [] (json_events s.0) ≡ None → line_of_repeat [] (json_events s.0) ≡ Some line → ⊥
        none line p q = cc

        on : (((line : ℕ) × (line_of_repeat [] (json_events s.0) ≡ Some line) × (fault ≡ RepeatedKey line)) ⊎ (fault ≡ TooDeep)) → ((line : ℕ) × (HasEachKeyOnce t → ⊥) × (fault ≡ RepeatedKey line)) ⊎ (fault ≡ TooDeep)
        on (inl f) = inl (f.0, (λ once. none f.0 (repeats_whole (json_events s.0) t m once) f.1), f.2)
        on (inr f) = inr f

refuses : (text : List ℕ) (t : Tree) (fault : ReadFault) → Spells text t → reading text ≡ Err fault → (fault ≡ TooLarge) ⊎ (((line : ℕ) × (HasEachKeyOnce t → ⊥) × (fault ≡ RepeatedKey line)) ⊎ (fault ≡ TooDeep))
refuses text t fault s h = by (nat_lt 1048576 (length text)) h s
  where
    read : (b : Bool) → (if b then json_reading text else yaml_reading text) ≡ Err fault → begins 123 text ≡ b → Spells text t → ((line : ℕ) × (HasEachKeyOnce t → ⊥) × (fault ≡ RepeatedKey line)) ⊎ (fault ≡ TooDeep)
    read true h b (as_json c k) = json_refuses text t fault k h
    read true h b (as_yaml c r k) = absurd (cc)
    read false h b (as_json c k) = absurd (cc)
    read false h b (as_yaml c r k) = yaml_refuses text t fault r k h

    by : (b : Bool) → (if b then Err TooLarge else if begins 123 text then json_reading text else yaml_reading text) ≡ Err fault → Spells text t → (fault ≡ TooLarge) ⊎ (((line : ℕ) × (HasEachKeyOnce t → ⊥) × (fault ≡ RepeatedKey line)) ⊎ (fault ≡ TooDeep))
    by true h s = inl (cc)
    by false h s = inr (read (begins 123 text) h refl s)

pub refused_syntax : (text : List ℕ) (line : ℕ) → reading text ≡ Err (Syntax line) → (t : Tree) → Spells text t → ⊥
refused_syntax text line h t s = by (refuses text t (Syntax line) s h)
  where
    by : (Syntax line ≡ TooLarge) ⊎ (((k : ℕ) × (HasEachKeyOnce t → ⊥) × (Syntax line ≡ RepeatedKey k)) ⊎ (Syntax line ≡ TooDeep)) → ⊥
    by (inl e) = cc
    by (inr (inl e)) = let f = e.2 in cc
    by (inr (inr e)) = cc

pub refused_number : (text : List ℕ) → reading text ≡ Err Number → (t : Tree) → Spells text t → ⊥
refused_number text h t s = by (refuses text t Number s h)
  where
    by : (Number ≡ TooLarge) ⊎ (((k : ℕ) × (HasEachKeyOnce t → ⊥) × (Number ≡ RepeatedKey k)) ⊎ (Number ≡ TooDeep)) → ⊥
    by (inl e) = cc
    by (inr (inl e)) = let f = e.2 in cc
    by (inr (inr e)) = cc

pub refused_key : (text : List ℕ) (line : ℕ) → reading text ≡ Err (RepeatedKey line) → (t : Tree) → Spells text t → HasEachKeyOnce t → ⊥
refused_key text line h t s once = by (refuses text t (RepeatedKey line) s h)
  where
    by : (RepeatedKey line ≡ TooLarge) ⊎ (((k : ℕ) × (HasEachKeyOnce t → ⊥) × (RepeatedKey line ≡ RepeatedKey k)) ⊎ (RepeatedKey line ≡ TooDeep)) → ⊥
    by (inl e) = cc
    by (inr (inl e)) = e.1 once
    by (inr (inr e)) = cc
