-- A node that is spelled by lines is read.
use Rattle.std.proofs.Common.{◌≡◌, ◌≤◌, ℕ, zero, suc, ◌+◌, Bool, true, false, not, ◌&&◌, ◌||◌, List, [], ◌∷◌, ◌++◌, Option, Some, None, Result, Ok, append_assoc, append-nil, refl, ap, sym, ◌∙◌, subst, arith, ◌==◌}
use Rattle.bosh_yaml.specs.declared.bare.Place.TheVariants.{Block}
use Rattle.bosh_yaml.specs.declared.block.Frame.{Frame}
use Rattle.bosh_yaml.specs.declared.block.Frame.TheVariants.{Item, List as ListAt, Entry, Map as MapAt}
use Rattle.bosh_yaml.specs.declared.event.Event.{Event}
use Rattle.bosh_yaml.specs.declared.event.Event.TheVariants.{OpenList, OpenMap, Key, Close}
use Rattle.bosh_yaml.specs.declared.fault.ReadFault.{ReadFault}
use Rattle.bosh_yaml.specs.declared.plain.Leaf.TheVariants.{Null}
use Rattle.bosh_yaml.specs.declared.word.Word.{Word}
use Rattle.bosh_yaml.specs.Block.{nothing, place_dash, place_key, place_end}
use Rattle.bosh_yaml.specs.Content.{Outcome, add_events, value_at, entry_at, key_or_scalar, items_at}
use Rattle.bosh_yaml.specs.Lines.{is_blank, is_comment, is_end, is_gap, skip_spaces}
use Rattle.bosh_yaml.specs.Literal.{indentation, is_spaces}
use Rattle.bosh_yaml.specs.Result.{with_front}
use Rattle.bosh_yaml.specs.SpelledBlock.{Each, spaces, IsBlank, begins_content, SpellsNode, SpellsAt, SpellsItems, SpellsItem, SpellsEntries, SpellsEntry, node, value, sequence, mapping, last_item, item, null_item, item_below, item_beside, last_entry, entry, null_value, value_below, items_level, value_beside}
use Rattle.bosh_yaml.specs.SpelledWord.{SpellsScalar, IsKey}
use Rattle.bosh_yaml.specs.Tree.{Tree, null, list, map, trees_of, fields_of}
use Rattle.bosh_yaml.proofs.FrameLemmas.{Within, Below, below_within, within_below, within_less, within_append, below_append, end_append, Accepts, filled, dash_placed, key_placed, dash_again, dash_after_none, key_again, key_after_none, dash_level}
use Rattle.bosh_yaml.proofs.MakesLemmas.{Makes, MakesItems, MakesEntries, makes_scalar, makes_list, makes_map, no_items, more_items, no_entries, more_entries}
use Rattle.bosh_yaml.proofs.MoveLemmas.{Lines, moves, after_lines, after_append, outside, after_outcome, after_add, blank_moves, content_moves, skip_indentation, items_spaces, items_end, Halts}
use Rattle.bosh_yaml.proofs.ResultLemmas.{with_front_twice}
use Rattle.bosh_yaml.proofs.SpelledFlowLemmas.{with_none}
use Rattle.bosh_yaml.proofs.SpelledValueLemmas.{OpensContent, word_content, items_content, Owns, ValueRead, word_is_read, value_is_read, value_opens}
use Rattle.bosh_yaml.proofs.SpelledWordLemmas.{word_opens, key_spelled}

-- the rest of a line from a column on, with the lines that follow
abbrev pub Runs : ℕ → ℕ → Lines → Result Outcome ReadFault → List Event → List Frame → Type 0
Runs line least lines read events frames =
    (rest : Lines) → Halts least rest → after_outcome line (lines ++ rest) read ≡ with_front events (moves (after_lines (line + 1) lines) (outside frames) rest)

abbrev pub AtRead : ℕ → Option ℕ → ℕ → ℕ → List Frame → List ℕ → Lines → Tree → Type 0
AtRead line owner least column frames bytes lines t =
    (inner : List Frame) × (events : List Event) × Within least inner × Makes (events ++ place_end inner) t × Runs line least lines (items_at line owner column frames bytes) events (inner ++ filled frames)

abbrev pub NodeRead : ℕ → ℕ → List Frame → Lines → Tree → Type 0
NodeRead line least frames lines t =
    (inner : List Frame) × (events : List Event) × Within least inner × Makes (events ++ place_end inner) t
    × ((rest : Lines) → Halts least rest → moves line (outside frames) (lines ++ rest) ≡ with_front events (moves (after_lines line lines) (outside (inner ++ filled frames)) rest))

-- a sequence from its first dash on, which was placed with these events
abbrev pub ItemsRead : ℕ → Option ℕ → ℕ → List Frame → List Frame → List Event → List ℕ → Lines → List Tree → Type 0
ItemsRead line owner column frames outer before bytes lines ts =
    (inner : List Frame) × (events : List Event) × (last : List Event) × Below column inner × (place_end inner ≡ last ++ Close ∷ []) × MakesItems (events ++ last) ts
    × Runs line (column + 1) lines (items_at line owner column frames bytes) (before ++ events) (inner ++ outer)

-- behind a dash
abbrev pub ItemRead : ℕ → ℕ → List Frame → List ℕ → Lines → Tree → Type 0
ItemRead line column outer bytes lines t =
    (inner : List Frame) × (events : List Event) × (last : List Event) × Below column inner × (place_end inner ≡ last ++ Close ∷ []) × Makes (events ++ last) t
    × ((next : ℕ) → place_dash next column (inner ++ outer) ≡ Ok (last, Item column ∷ outer)) × (is_gap bytes ≡ true)
    × Runs line (column + 1) lines (items_at line (Some column) (column + 1) (Item column ∷ outer) bytes) events (inner ++ outer)

-- a mapping from its first key on
abbrev pub EntriesRead : ℕ → Option ℕ → ℕ → List Frame → List Frame → List Event → List ℕ → Lines → List (List ℕ × Tree) → Type 0
EntriesRead line owner column frames outer before bytes lines ps =
    (inner : List Frame) × (events : List Event) × (last : List Event) × Within column inner × (place_end inner ≡ last ++ Close ∷ []) × MakesEntries (events ++ last) ps
    × Runs line (column + 1) lines (items_at line owner column frames bytes) (before ++ events) (inner ++ outer)

-- behind a key and its `:`
abbrev pub EntryRead : ℕ → ℕ → List Frame → List ℕ → Lines → Tree → Type 0
EntryRead line column outer bytes lines t =
    (inner : List Frame) × (events : List Event) × (last : List Event) × Within column inner × (place_end inner ≡ last ++ Close ∷ []) × Makes (events ++ last) t
    × ((next : ℕ) (key : List ℕ) → place_key next column key (inner ++ outer) ≡ Ok (last ++ Key next key ∷ [], Entry column ∷ outer)) × (is_gap bytes ≡ true)
    × Runs line (column + 1) lines (entry_at line column (Entry column ∷ outer) bytes) events (inner ++ outer)

halts_less : (least more : ℕ) (rest : Lines) → least ≤ more → Halts least rest → Halts more rest
halts_less least more [] n h = tt
halts_less least more (bytes ∷ rest) n h = let small = h.1 in (h.0, omega arith)

-- a line with content at a column
spaces_content : (n : ℕ) (bytes : List ℕ) → begins_content bytes ≡ true → (is_spaces (spaces n ++ bytes) ≡ false) × (indentation (spaces n ++ bytes) ≡ n)
spaces_content zero [] h = cc
spaces_content zero (b ∷ bs) h = by (b == 32) refl h
  where
    by : (s : Bool) → (b == 32) ≡ s → not (s || (b == 9 || b == 35)) ≡ true → (is_spaces (b ∷ bs) ≡ false) × (indentation (b ∷ bs) ≡ 0)
    by true p h = absurd (cc)
    by false p h = rw p (refl, refl)
spaces_content (suc n) bytes h = let r = spaces_content n bytes h in (r.0, ap suc r.1)

content_halts : (column : ℕ) (bytes : List ℕ) (lines : Lines) → begins_content bytes ≡ true → Halts (column + 1) ((spaces column ++ bytes) ∷ lines)
content_halts column bytes lines h = let r = spaces_content column bytes h in let same = r.1 in (r.0, omega arith)

end_gap : (bytes : List ℕ) → is_end bytes ≡ true → is_gap bytes ≡ true
end_gap [] h = refl
end_gap (b ∷ bs) h = by (b == 32) h
  where
    by : (s : Bool) → (s && is_blank bs) ≡ true → s ≡ true
    by true h = refl
    by false h = h

inner_outer : (inner outer : List Frame) (frame : Frame) → (inner ++ frame ∷ []) ++ outer ≡ inner ++ (frame ∷ outer)
inner_outer inner outer frame = append_assoc inner (frame ∷ []) outer

runs_frames : (line least : ℕ) (lines : Lines) (read : Result Outcome ReadFault) (events : List Event) (frames others : List Frame) → frames ≡ others → Runs line least lines read events frames → Runs line least lines read events others
runs_frames line least lines read events frames others e r rest h = r rest h ∙ ap (λ fs. with_front events (moves (after_lines (line + 1) lines) (outside fs) rest)) e

-- a line that ends here, and blank lines
end_runs : (line least : ℕ) (lines : Lines) (read : Result Outcome ReadFault) (frames : List Frame) → read ≡ Ok ([], (frames, None)) → Each IsBlank lines → Runs line least lines read [] frames
end_runs line least lines read frames e h rest halts =
    ap (λ r. after_outcome line (lines ++ rest) r) e ∙ ap (λ r. with_front [] r) (blank_moves (line + 1) frames lines rest h)

-- a line that ends here, and a node
node_runs : (line least : ℕ) (lines : Lines) (t : Tree) (read : Result Outcome ReadFault) (frames : List Frame) → read ≡ Ok ([], (frames, None)) → (r : NodeRead (line + 1) least frames lines t) → Runs line least lines read r.1 (r.0 ++ filled frames)
node_runs line least lines t read frames e r rest halts =
    ap (λ o. after_outcome line (lines ++ rest) o) e ∙ with_none (moves (line + 1) (outside frames) (lines ++ rest)) ∙ r.4 rest halts

null_item_read : (line column : ℕ) (outer : List Frame) (bytes : List ℕ) (lines : Lines) → is_end bytes ≡ true → Each IsBlank lines → ItemRead line column outer bytes lines null
null_item_read line column outer bytes lines e h = (
  Item column ∷ [],
  [],
  nothing ∷ [],
  (omega arith, tt),
  refl,
  makes_scalar Null,
  (λ next. dash_after_none next column outer),
  end_gap bytes e,
  end_runs line (column + 1) lines (items_at line (Some column) (column + 1) (Item column ∷ outer) bytes) (Item column ∷ outer) (items_end line (Some column) (column + 1) (Item column ∷ outer) bytes e) h,
)

-- an item whose node was read
item_filled : (line column : ℕ) (outer : List Frame) (bytes : List ℕ) (lines : Lines) (t : Tree) (inner : List Frame) (events : List Event) → Within (column + 1) inner → Makes (events ++ place_end inner) t → is_gap bytes ≡ true → Runs line (column + 1) lines (items_at line (Some column) (column + 1) (Item column ∷ outer) bytes) events (inner ++ (ListAt column ∷ outer)) → ItemRead line column outer bytes lines t
item_filled line column outer bytes lines t inner events w m g r =
    let same = inner_outer inner outer (ListAt column) in (
      inner ++ ListAt column ∷ [],
      events,
      place_end inner,
      below_append column inner (ListAt column ∷ []) (within_below column inner w) (omega arith, tt),
      end_append inner (ListAt column ∷ []),
      m,
      (λ next. ap (λ frames. place_dash next column frames) same ∙ dash_again next column inner outer w),
      g,
      runs_frames line (column + 1) lines (items_at line (Some column) (column + 1) (Item column ∷ outer) bytes) events (inner ++ (ListAt column ∷ outer)) ((inner ++ ListAt column ∷ []) ++ outer) (sym same) r,
    )

item_below_read : (line column : ℕ) (outer : List Frame) (bytes : List ℕ) (lines : Lines) (t : Tree) → is_end bytes ≡ true → NodeRead (line + 1) (column + 1) (Item column ∷ outer) lines t → ItemRead line column outer bytes lines t
item_below_read line column outer bytes lines t e r =
    item_filled line column outer bytes lines t r.0 r.1 r.2 r.3 (end_gap bytes e)
    (node_runs line (column + 1) lines t (items_at line (Some column) (column + 1) (Item column ∷ outer) bytes) (Item column ∷ outer) (items_end line (Some column) (column + 1) (Item column ∷ outer) bytes e) r)

item_beside_read : (line column gap : ℕ) (outer : List Frame) (bytes : List ℕ) (lines : Lines) (t : Tree) → AtRead line (Some column) (column + 1) (column + 1 + suc gap) (Item column ∷ outer) bytes lines t → ItemRead line column outer (spaces (suc gap) ++ bytes) lines t
item_beside_read line column gap outer bytes lines t r =
    let same = items_spaces line (Some column) (column + 1) (suc gap) (Item column ∷ outer) bytes in
    item_filled line column outer (spaces (suc gap) ++ bytes) lines t r.0 r.1 r.2 r.3 refl
    (λ rest halts. ap (λ o. after_outcome line (lines ++ rest) o) same ∙ r.4 rest halts)

null_entry_read : (line column : ℕ) (outer : List Frame) (bytes : List ℕ) (lines : Lines) → is_end bytes ≡ true → Each IsBlank lines → EntryRead line column outer bytes lines null
null_entry_read line column outer bytes lines e h = (
  Entry column ∷ [],
  [],
  nothing ∷ [],
  (omega arith, tt),
  refl,
  makes_scalar Null,
  (λ next key. key_after_none next column key outer),
  end_gap bytes e,
  end_runs line (column + 1) lines (entry_at line column (Entry column ∷ outer) bytes) (Entry column ∷ outer) (rw e refl) h,
)

-- an entry whose value was read
entry_filled : (line column : ℕ) (outer : List Frame) (bytes : List ℕ) (lines : Lines) (t : Tree) (inner : List Frame) (events : List Event) → Below column inner → Makes (events ++ place_end inner) t → is_gap bytes ≡ true → Runs line (column + 1) lines (entry_at line column (Entry column ∷ outer) bytes) events (inner ++ (MapAt column ∷ outer)) → EntryRead line column outer bytes lines t
entry_filled line column outer bytes lines t inner events w m g r =
    let same = inner_outer inner outer (MapAt column) in (
      inner ++ MapAt column ∷ [],
      events,
      place_end inner,
      within_append column inner (MapAt column ∷ []) (below_within column inner w) (omega arith, tt),
      end_append inner (MapAt column ∷ []),
      m,
      (λ next key. ap (λ frames. place_key next column key frames) same ∙ key_again next column key inner outer w),
      g,
      runs_frames line (column + 1) lines (entry_at line column (Entry column ∷ outer) bytes) events (inner ++ (MapAt column ∷ outer)) ((inner ++ MapAt column ∷ []) ++ outer) (sym same) r,
    )

entry_below_read : (line column : ℕ) (outer : List Frame) (bytes : List ℕ) (lines : Lines) (t : Tree) → is_end bytes ≡ true → NodeRead (line + 1) (column + 1) (Entry column ∷ outer) lines t → EntryRead line column outer bytes lines t
entry_below_read line column outer bytes lines t e r =
    entry_filled line column outer bytes lines t r.0 r.1 (within_below column r.0 r.2) r.3 (end_gap bytes e)
    (node_runs line (column + 1) lines t (entry_at line column (Entry column ∷ outer) bytes) (Entry column ∷ outer) (rw e refl) r)

runs_add : (line least : ℕ) (lines : Lines) (read other : Result Outcome ReadFault) (before events : List Event) (frames : List Frame) → other ≡ add_events before read → Runs line least lines read events frames → Runs line least lines other (before ++ events) frames
runs_add line least lines read other before events frames e r rest halts =
    ap (λ o. after_outcome line (lines ++ rest) o) e
    ∙ after_add line (lines ++ rest) before read
    ∙ ap (λ read. with_front before read) (r rest halts)
    ∙ sym (with_front_twice before events (moves (after_lines (line + 1) lines) (outside frames) rest))

-- lines, and a line with content at the column behind them
runs_more : (line column : ℕ) (inner : Lines) (bytes : List ℕ) (lines : Lines) (read : Result Outcome ReadFault) (first second : List Event) (between frames : List Frame) → begins_content bytes ≡ true → Runs line (column + 1) inner read first between → Runs (after_lines (line + 1) inner) (column + 1) lines (items_at (after_lines (line + 1) inner) None column between bytes) second frames → Runs line (column + 1) (inner ++ (spaces column ++ bytes) ∷ lines) read (first ++ second) frames
runs_more line column inner bytes lines read first second between frames c r k rest halts =
    ap (λ ls. after_outcome line ls read) (append_assoc inner ((spaces column ++ bytes) ∷ lines) rest)
    ∙ r ((spaces column ++ bytes) ∷ (lines ++ rest)) (content_halts column bytes (lines ++ rest) c)
    ∙ ap (λ read. with_front first read) (content_moves (after_lines (line + 1) inner) column between bytes (lines ++ rest) c ∙ k rest halts)
    ∙ sym (with_front_twice first second (moves (after_lines (after_lines (line + 1) inner + 1) lines) (outside frames) rest))
    ∙ ap (λ n. with_front (first ++ second) (moves n (outside frames) rest)) (sym (after_append (line + 1) inner ((spaces column ++ bytes) ∷ lines)))

runs_events : (line least : ℕ) (lines : Lines) (read : Result Outcome ReadFault) (events others : List Event) (frames : List Frame) → events ≡ others → Runs line least lines read events frames → Runs line least lines read others frames
runs_events line least lines read events others frames e r rest h = r rest h ∙ ap (λ es. with_front es (moves (after_lines (line + 1) lines) (outside frames) rest)) e

dash_step : (line column : ℕ) (owner : Option ℕ) (frames outer : List Frame) (before : List Event) (rest : List ℕ) → is_gap rest ≡ true → place_dash line column frames ≡ Ok (before, Item column ∷ outer) → items_at line owner column frames (45 ∷ rest) ≡ add_events before (items_at line (Some column) (column + 1) (Item column ∷ outer) rest)
dash_step line column owner frames outer before rest g p = rw (g, p) refl

four : (a b c d : List Event) → (a ++ b) ++ (c ++ d) ≡ (a ++ (b ++ c)) ++ d
four a b c d = append_assoc a b (c ++ d) ∙ ap (λ es. a ++ es) (sym (append_assoc b c d)) ∙ sym (append_assoc a (b ++ c) d)

one_item : (es : List Event) (t : Tree) → Makes es t → MakesItems es (t ∷ [])
one_item es t m = subst (λ es. MakesItems es (t ∷ [])) (append-nil es) (more_items es [] t [] m no_items)

last_item_read : (line column : ℕ) (owner : Option ℕ) (frames outer : List Frame) (before : List Event) (rest : List ℕ) (lines : Lines) (t : Tree) → place_dash line column frames ≡ Ok (before, Item column ∷ outer) → ItemRead line column outer rest lines t → ItemsRead line owner column frames outer before (45 ∷ rest) lines (t ∷ [])
last_item_read line column owner frames outer before rest lines t p i = (
  i.0,
  i.1,
  i.2,
  i.3,
  i.4,
  one_item (i.1 ++ i.2) t i.5,
  runs_add line (column + 1) lines (items_at line (Some column) (column + 1) (Item column ∷ outer) rest) (items_at line owner column frames (45 ∷ rest)) before i.1 (i.0 ++ outer) (dash_step line column owner frames outer before rest i.7 p) i.8,
)

more_items_read : (line column : ℕ) (owner : Option ℕ) (frames outer : List Frame) (before : List Event) (rest bytes : List ℕ) (inner lines : Lines) (t : Tree) (ts : List Tree) → place_dash line column frames ≡ Ok (before, Item column ∷ outer) → begins_content bytes ≡ true → (i : ItemRead line column outer rest inner t) → ItemsRead (after_lines (line + 1) inner) None column (i.0 ++ outer) outer i.2 bytes lines ts → ItemsRead line owner column frames outer before (45 ∷ rest) (inner ++ (spaces column ++ bytes) ∷ lines) (t ∷ ts)
more_items_read line column owner frames outer before rest bytes inner lines t ts p c i j =
    let read = items_at line (Some column) (column + 1) (Item column ∷ outer) rest in (
      j.0,
      i.1 ++ (i.2 ++ j.1),
      j.2,
      j.3,
      j.4,
      subst (λ es. MakesItems es (t ∷ ts)) (four i.1 i.2 j.1 j.2) (more_items (i.1 ++ i.2) (j.1 ++ j.2) t ts i.5 j.5),
      runs_add line (column + 1) (inner ++ (spaces column ++ bytes) ∷ lines) read (items_at line owner column frames (45 ∷ rest)) before (i.1 ++ (i.2 ++ j.1)) (j.0 ++ outer) (dash_step line column owner frames outer before rest i.7 p)
          (runs_more line column inner bytes lines read i.1 (i.2 ++ j.1) (i.0 ++ outer) (j.0 ++ outer) c i.8 j.6),
    )

key_step : (line column : ℕ) (owner : Option ℕ) (frames outer : List Frame) (before : List Event) (bytes rest : List ℕ) (word : Word) (key : List ℕ) → SpellsScalar Block bytes word (58 ∷ rest) → IsKey word key → is_gap rest ≡ true → place_key line column key frames ≡ Ok (before ++ Key line key ∷ [], Entry column ∷ outer) → items_at line owner column frames bytes ≡ add_events (before ++ Key line key ∷ []) (entry_at line column (Entry column ∷ outer) rest)
key_step line column owner frames outer before bytes rest word key w k g p =
    items_content line owner column frames bytes (word_content bytes (word_opens Block bytes (58 ∷ rest) word w))
    ∙ (word_is_read line owner column frames bytes (58 ∷ rest) word w).0
    ∙ by
  where
    by : key_or_scalar line column frames (word, 58 ∷ rest) ≡ add_events (before ++ Key line key ∷ []) (entry_at line column (Entry column ∷ outer) rest)
    by = rw (g, key_spelled line word key k, p) refl

one_entry : (line : ℕ) (es : List Event) (key : List ℕ) (t : Tree) → Makes es t → MakesEntries (Key line key ∷ es) ((key, t) ∷ [])
one_entry line es key t m = subst (λ es. MakesEntries (Key line key ∷ es) ((key, t) ∷ [])) (append-nil es) (more_entries line es [] key t [] m no_entries)

last_entry_read : (line column : ℕ) (owner : Option ℕ) (frames outer : List Frame) (before : List Event) (bytes rest : List ℕ) (word : Word) (key : List ℕ) (lines : Lines) (t : Tree) → SpellsScalar Block bytes word (58 ∷ rest) → IsKey word key → place_key line column key frames ≡ Ok (before ++ Key line key ∷ [], Entry column ∷ outer) → EntryRead line column outer rest lines t → EntriesRead line owner column frames outer before bytes lines ((key, t) ∷ [])
last_entry_read line column owner frames outer before bytes rest word key lines t w k p i = (
  i.0,
  Key line key ∷ i.1,
  i.2,
  i.3,
  i.4,
  one_entry line (i.1 ++ i.2) key t i.5,
  runs_events line (column + 1) lines (items_at line owner column frames bytes) ((before ++ Key line key ∷ []) ++ i.1) (before ++ Key line key ∷ i.1) (i.0 ++ outer) (append_assoc before (Key line key ∷ []) i.1)
      (runs_add line (column + 1) lines (entry_at line column (Entry column ∷ outer) rest) (items_at line owner column frames bytes) (before ++ Key line key ∷ []) i.1 (i.0 ++ outer) (key_step line column owner frames outer before bytes rest word key w k i.7 p) i.8),
)

more_entries_read : (line column : ℕ) (owner : Option ℕ) (frames outer : List Frame) (before : List Event) (bytes rest next : List ℕ) (word : Word) (key : List ℕ) (inner lines : Lines) (t : Tree) (ps : List (List ℕ × Tree)) → SpellsScalar Block bytes word (58 ∷ rest) → IsKey word key → place_key line column key frames ≡ Ok (before ++ Key line key ∷ [], Entry column ∷ outer) → begins_content next ≡ true → (i : EntryRead line column outer rest inner t) → EntriesRead (after_lines (line + 1) inner) None column (i.0 ++ outer) outer i.2 next lines ps → EntriesRead line owner column frames outer before bytes (inner ++ (spaces column ++ next) ∷ lines) ((key, t) ∷ ps)
more_entries_read line column owner frames outer before bytes rest next word key inner lines t ps w k p c i j =
    let all = inner ++ (spaces column ++ next) ∷ lines in
    let events = i.1 ++ (i.2 ++ j.1) in (
      j.0,
      Key line key ∷ events,
      j.2,
      j.3,
      j.4,
      subst (λ es. MakesEntries (Key line key ∷ es) ((key, t) ∷ ps)) (four i.1 i.2 j.1 j.2) (more_entries line (i.1 ++ i.2) (j.1 ++ j.2) key t ps i.5 j.5),
      runs_events line (column + 1) all (items_at line owner column frames bytes) ((before ++ Key line key ∷ []) ++ events) (before ++ Key line key ∷ events) (j.0 ++ outer) (append_assoc before (Key line key ∷ []) events)
          (runs_add line (column + 1) all (entry_at line column (Entry column ∷ outer) rest) (items_at line owner column frames bytes) (before ++ Key line key ∷ []) events (j.0 ++ outer) (key_step line column owner frames outer before bytes rest word key w k i.7 p)
          (runs_more line column inner next lines (entry_at line column (Entry column ∷ outer) rest) i.1 (i.2 ++ j.1) (i.0 ++ outer) (j.0 ++ outer) c i.8 j.6)),
    )

-- the events of a collection whose last frame is closed
closed_list : (events last ends : List Event) (ts : List Tree) → ends ≡ last ++ Close ∷ [] → MakesItems (events ++ last) ts → Makes ((OpenList ∷ events) ++ ends) (list (trees_of ts))
closed_list events last ends ts e m =
    subst (λ es. Makes (OpenList ∷ es) (list (trees_of ts))) (append_assoc events last (Close ∷ []) ∙ ap (λ es. events ++ es) (sym e)) (makes_list (events ++ last) ts m)

closed_map : (events last ends : List Event) (ps : List (List ℕ × Tree)) → ends ≡ last ++ Close ∷ [] → MakesEntries (events ++ last) ps → Makes ((OpenMap ∷ events) ++ ends) (map (fields_of ps))
closed_map events last ends ps e m =
    subst (λ es. Makes (OpenMap ∷ es) (map (fields_of ps))) (append_assoc events last (Close ∷ []) ∙ ap (λ es. events ++ es) (sym e)) (makes_map (events ++ last) ps m)

-- a sequence at the column of its key
level_read : (line column : ℕ) (outer : List Frame) (rest bytes : List ℕ) (blanks lines : Lines) (ts : List Tree) → is_end rest ≡ true → Each IsBlank blanks → begins_content bytes ≡ true → ItemsRead (after_lines (line + 1) blanks) None column (Entry column ∷ outer) (MapAt column ∷ outer) (OpenList ∷ []) bytes lines ts → EntryRead line column outer rest (blanks ++ (spaces column ++ bytes) ∷ lines) (list (trees_of ts))
level_read line column outer rest bytes blanks lines ts e h c j =
    entry_filled line column outer rest (blanks ++ (spaces column ++ bytes) ∷ lines) (list (trees_of ts)) j.0 (OpenList ∷ j.1) j.3 (closed_list j.1 j.2 (place_end j.0) ts j.4 j.5) (end_gap rest e)
    (runs_more line column blanks bytes lines (entry_at line column (Entry column ∷ outer) rest) [] (OpenList ∷ j.1) (Entry column ∷ outer) (j.0 ++ (MapAt column ∷ outer)) c
    (end_runs line (column + 1) blanks (entry_at line column (Entry column ∷ outer) rest) (Entry column ∷ outer) (rw e refl) h) j.6)

opens_skip : (bytes : List ℕ) → OpensContent bytes → (skip_spaces bytes ≡ bytes) × (is_comment bytes ≡ false)
opens_skip [] o = absurd o
opens_skip (b ∷ bs) o = rw o.0 (refl, o.2)

entry_value : (line column gap : ℕ) (frames : List Frame) (bytes : List ℕ) → OpensContent bytes → entry_at line column frames (spaces (suc gap) ++ bytes) ≡ value_at line (Some column) (column + 1) frames bytes
entry_value line column gap frames bytes o =
    let s = opens_skip bytes o in
    let skipped : skip_spaces (spaces gap ++ bytes) ≡ bytes = skip_indentation gap bytes ∙ s.0 in
    rw (skipped, s.1) refl

beside_read : (line column gap : ℕ) (outer : List Frame) (bytes : List ℕ) (lines : Lines) (t : Tree) → OpensContent bytes → ValueRead line (Some column) (column + 1) (column + 1) (Entry column ∷ outer) bytes lines t → EntryRead line column outer (spaces (suc gap) ++ bytes) lines t
beside_read line column gap outer bytes lines t o v =
    entry_filled line column outer (spaces (suc gap) ++ bytes) lines t [] v.1 tt (subst (λ es. Makes es t) (sym (append-nil v.1)) v.2) refl
    (λ rest halts. ap (λ o. after_outcome line (lines ++ rest) o) (entry_value line column gap (Entry column ∷ outer) bytes o ∙ v.4) ∙ v.5 rest halts)

value_at_read : (line : ℕ) (owner : Option ℕ) (least column : ℕ) (frames : List Frame) (bytes : List ℕ) (lines : Lines) (t : Tree) → OpensContent bytes → ValueRead line owner least column frames bytes lines t → AtRead line owner least column frames bytes lines t
value_at_read line owner least column frames bytes lines t o v = (
  [],
  v.1,
  tt,
  subst (λ es. Makes es t) (sym (append-nil v.1)) v.2,
  (λ rest halts. ap (λ o. after_outcome line (lines ++ rest) o) (items_content line owner column frames bytes o ∙ v.3) ∙ v.5 rest halts),
)

sequence_read : (line : ℕ) (owner : Option ℕ) (least column : ℕ) (frames : List Frame) (bytes : List ℕ) (lines : Lines) (ts : List Tree) → least ≤ column → ItemsRead line owner column frames (filled frames) (OpenList ∷ []) bytes lines ts → AtRead line owner least column frames bytes lines (list (trees_of ts))
sequence_read line owner least column frames bytes lines ts n j = (
  j.0,
  OpenList ∷ j.1,
  within_less least column j.0 n (below_within column j.0 j.3),
  closed_list j.1 j.2 (place_end j.0) ts j.4 j.5,
  (λ rest halts. j.6 rest (halts_less least (column + 1) rest (omega arith) halts)),
)

mapping_read : (line : ℕ) (owner : Option ℕ) (least column : ℕ) (frames : List Frame) (bytes : List ℕ) (lines : Lines) (ps : List (List ℕ × Tree)) → least ≤ column → EntriesRead line owner column frames (filled frames) (OpenMap ∷ []) bytes lines ps → AtRead line owner least column frames bytes lines (map (fields_of ps))
mapping_read line owner least column frames bytes lines ps n j = (
  j.0,
  OpenMap ∷ j.1,
  within_less least column j.0 n j.3,
  closed_map j.1 j.2 (place_end j.0) ps j.4 j.5,
  (λ rest halts. j.6 rest (halts_less least (column + 1) rest (omega arith) halts)),
)

lines_read : (line least column : ℕ) (frames : List Frame) (blanks : Lines) (bytes : List ℕ) (lines : Lines) (t : Tree) → Each IsBlank blanks → begins_content bytes ≡ true → AtRead (after_lines line blanks) None least column frames bytes lines t → NodeRead line least frames (blanks ++ (spaces column ++ bytes) ∷ lines) t
lines_read line least column frames blanks bytes lines t h c r = (
  r.0,
  r.1,
  r.2,
  r.3,
  (λ rest halts. ap (λ ls. moves line (outside frames) ls) (append_assoc blanks ((spaces column ++ bytes) ∷ lines) rest)
      ∙ blank_moves line frames blanks ((spaces column ++ bytes) ∷ (lines ++ rest)) h
      ∙ content_moves (after_lines line blanks) column frames bytes (lines ++ rest) c
      ∙ r.4 rest halts
      ∙ ap (λ n. with_front r.1 (moves n (outside (r.0 ++ filled frames)) rest)) (sym (after_append line blanks ((spaces column ++ bytes) ∷ lines)))),
)

items_begin : (column : ℕ) (bytes : List ℕ) (lines : Lines) (ts : List Tree) → SpellsItems column bytes lines ts → begins_content bytes ≡ true
items_begin column bytes lines ts (last_item c rest inner t i) = refl
items_begin column bytes lines ts (item c rest next inner more t us i j) = refl

mutual
  pub node_is_read : (least : ℕ) (lines : Lines) (t : Tree) → SpellsNode least lines t → (line : ℕ) (frames : List Frame) → Accepts least frames → NodeRead line least frames lines t
  node_is_read least lines t (node lo column blanks bytes inner u h n c s) line frames a =
      lines_read line lo column frames blanks bytes inner u h c (at_is_read None column bytes inner u s (after_lines line blanks) lo frames a n tt)

  at_is_read : (owner : Option ℕ) (column : ℕ) (bytes : List ℕ) (lines : Lines) (t : Tree) → SpellsAt owner column bytes lines t → (line least : ℕ) (frames : List Frame) → Accepts least frames → least ≤ column → Owns owner least → AtRead line owner least column frames bytes lines t
  at_is_read owner column bytes lines t (value own c by inner u v) line least frames a n o =
      value_at_read line own least c frames by inner u (value_opens own by inner u v) (value_is_read own by inner u v line least c frames a n o)
  at_is_read owner column bytes lines t (sequence own c by inner ts i) line least frames a n o =
      sequence_read line own least c frames by inner ts n (items_are_read c by inner ts i line own frames (filled frames) (OpenList ∷ []) (dash_placed line least c frames a n))
  at_is_read owner column bytes lines t (mapping own c by inner ps i) line least frames a n o =
      mapping_read line own least c frames by inner ps n (entries_are_read c by inner ps i line own frames (filled frames) (OpenMap ∷ []) (λ key. key_placed line least c key frames a n))

  items_are_read : (column : ℕ) (bytes : List ℕ) (lines : Lines) (ts : List Tree) → SpellsItems column bytes lines ts → (line : ℕ) (owner : Option ℕ) (frames outer : List Frame) (before : List Event) → place_dash line column frames ≡ Ok (before, Item column ∷ outer) → ItemsRead line owner column frames outer before bytes lines ts
  items_are_read column bytes lines ts (last_item c rest inner t i) line owner frames outer before p =
      last_item_read line c owner frames outer before rest inner t p (item_is_read c rest inner t i line outer)
  items_are_read column bytes lines ts (item c rest next inner more t us i j) line owner frames outer before p =
      let r = item_is_read c rest inner t i line outer in
      more_items_read line c owner frames outer before rest next inner more t us p (items_begin c next more us j) r
      (items_are_read c next more us j (after_lines (line + 1) inner) None (r.0 ++ outer) outer r.2 (r.6 (after_lines (line + 1) inner)))

  item_is_read : (column : ℕ) (bytes : List ℕ) (lines : Lines) (t : Tree) → SpellsItem column bytes lines t → (line : ℕ) (outer : List Frame) → ItemRead line column outer bytes lines t
  item_is_read column bytes lines t (null_item c rest inner e h) line outer = null_item_read line c outer rest inner e h
  item_is_read column bytes lines t (item_below c rest inner u e n) line outer =
      item_below_read line c outer rest inner u e (node_is_read (c + 1) inner u n (line + 1) (Item c ∷ outer) (omega arith))
  item_is_read column bytes lines t (item_beside c gap by inner u s) line outer =
      item_beside_read line c gap outer by inner u (at_is_read (Some c) (c + 1 + suc gap) by inner u s line (c + 1) (Item c ∷ outer) (omega arith) (omega arith) (omega arith))

  entries_are_read : (column : ℕ) (bytes : List ℕ) (lines : Lines) (ps : List (List ℕ × Tree)) → SpellsEntries column bytes lines ps → (line : ℕ) (owner : Option ℕ) (frames outer : List Frame) (before : List Event) → ((key : List ℕ) → place_key line column key frames ≡ Ok (before ++ Key line key ∷ [], Entry column ∷ outer)) → EntriesRead line owner column frames outer before bytes lines ps
  entries_are_read column bytes lines ps (last_entry c by rest word key inner t w k i) line owner frames outer before p =
      last_entry_read line c owner frames outer before by rest word key inner t w k (p key) (entry_is_read c rest inner t i line outer)
  entries_are_read column bytes lines ps (entry c by rest next word key inner more t us w k i b j) line owner frames outer before p =
      let r = entry_is_read c rest inner t i line outer in
      more_entries_read line c owner frames outer before by rest next word key inner more t us w k (p key) b r
      (entries_are_read c next more us j (after_lines (line + 1) inner) None (r.0 ++ outer) outer r.2 (r.6 (after_lines (line + 1) inner)))

  entry_is_read : (column : ℕ) (bytes : List ℕ) (lines : Lines) (t : Tree) → SpellsEntry column bytes lines t → (line : ℕ) (outer : List Frame) → EntryRead line column outer bytes lines t
  entry_is_read column bytes lines t (null_value c rest inner e h) line outer = null_entry_read line c outer rest inner e h
  entry_is_read column bytes lines t (value_below c rest inner u e n) line outer =
      entry_below_read line c outer rest inner u e (node_is_read (c + 1) inner u n (line + 1) (Entry c ∷ outer) (omega arith))
  entry_is_read column bytes lines t (items_level c rest by blanks inner ts e h i) line outer =
      level_read line c outer rest by blanks inner ts e h (items_begin c by inner ts i)
      (items_are_read c by inner ts i (after_lines (line + 1) blanks) None (Entry c ∷ outer) (MapAt c ∷ outer) (OpenList ∷ []) (dash_level (after_lines (line + 1) blanks) c outer))
  entry_is_read column bytes lines t (value_beside c gap by inner u v) line outer =
      beside_read line c gap outer by inner u (value_opens (Some c) by inner u v) (value_is_read (Some c) by inner u v line (c + 1) (c + 1) (Entry c ∷ outer) (omega arith) (omega arith) (omega arith))
