-- What the lines that follow spell, where these frames are open.
use Rattle.std.proofs.Common.{◌≡◌, ◌≤◌, ◌<◌, ℕ, Bool, true, false, List, [], ◌∷◌, ◌++◌, Option, None, Result, Ok, refl, ap, sym, ◌∙◌, subst, arith, nat_lt, nat_le, if◌then◌else◌, ◌==◌, inl, inr, ◌⊎◌}
use Rattle.std.proofs.lemmas.Bool.Decides.{nat_tests}
use Rattle.bosh_yaml.specs.declared.block.Frame.{Frame}
use Rattle.bosh_yaml.specs.declared.block.Frame.TheVariants.{Whole, Done, Item, List as ListAt, Entry, Map as MapAt}
use Rattle.bosh_yaml.specs.declared.event.Event.{Event}
use Rattle.bosh_yaml.specs.declared.event.Event.TheVariants.{OpenList, OpenMap, Key, Close}
use Rattle.bosh_yaml.specs.declared.fault.ReadFault.{ReadFault}
use Rattle.bosh_yaml.specs.Block.{Placed, after_events, nothing, place_dash, place_key, place_value}
use Rattle.bosh_yaml.specs.SpelledBlock.{Each, spaces, IsBlank, begins_content, SpellsAt, SpellsItems, SpellsEntries, sequence, mapping}
use Rattle.bosh_yaml.specs.Tree.{Tree, list, map, trees_of, fields_of}
use Rattle.bosh_yaml.proofs.MoveLemmas.{Lines}
use Rattle.bosh_yaml.proofs.ResultLemmas.{ok_same}
use Rattle.bosh_yaml.proofs.ReadWordLemmas.{bind_ok, if_ok}

-- lines that are none, or begin with content of which this holds, by its column, its bytes and the lines behind it
abbrev pub Follows : (ℕ → List ℕ → Lines → Type 0) → Lines → Type 0
Follows P lines = (lines ≡ []) ⊎ ((column : ℕ) × (bytes : List ℕ) × (more : Lines) × (lines ≡ (spaces column ++ bytes) ∷ more) × (begins_content bytes ≡ true) × P column bytes more)

-- blank lines first
abbrev pub Closed : (ℕ → List ℕ → Lines → Type 0) → Lines → Type 0
Closed P lines = (blanks : Lines) × (more : Lines) × (lines ≡ blanks ++ more) × Each IsBlank blanks × Follows P more

-- a sequence, a mapping, and any node, and what follows it
abbrev pub Sequence : ℕ → (ℕ → List ℕ → Lines → Type 0) → List ℕ → Lines → Type 0
Sequence column P bytes lines = (inner : Lines) × (more : Lines) × (ts : List Tree) × (lines ≡ inner ++ more) × SpellsItems column bytes inner ts × Follows P more

abbrev pub Mapping : ℕ → (ℕ → List ℕ → Lines → Type 0) → List ℕ → Lines → Type 0
Mapping column P bytes lines = (inner : Lines) × (more : Lines) × (ps : List (List ℕ × Tree)) × (lines ≡ inner ++ more) × SpellsEntries column bytes inner ps × Follows P more

abbrev pub Node : Option ℕ → ℕ → (ℕ → List ℕ → Lines → Type 0) → List ℕ → Lines → Type 0
Node owner column P bytes lines = (inner : Lines) × (more : Lines) × (t : Tree) × (lines ≡ inner ++ more) × SpellsAt owner column bytes inner t × Follows P more

-- further items of a sequence, or what follows it; and so of a mapping
abbrev pub AtItems : ℕ → (ℕ → List ℕ → Lines → Type 0) → ℕ → List ℕ → Lines → Type 0
AtItems at P column bytes lines = ((column ≡ at) × Sequence at P bytes lines) ⊎ P column bytes lines

abbrev pub AtEntries : ℕ → (ℕ → List ℕ → Lines → Type 0) → ℕ → List ℕ → Lines → Type 0
AtEntries at P column bytes lines = ((column ≡ at) × Mapping at P bytes lines) ⊎ P column bytes lines

abbrev pub nowhere : ℕ → List ℕ → Lines → Type 0
nowhere column bytes lines = ⊥

-- what content at a column, with the lines behind it, spells where these frames are open
abbrev pub At : List Frame → Option ℕ → ℕ → List ℕ → Lines → Type 0
At [] owner column bytes lines = ⊥
At (Whole ∷ frames) owner column bytes lines = Node owner column nowhere bytes lines
At (Done ∷ frames) owner column bytes lines = ⊥
At (Item at ∷ frames) owner column bytes lines = ((at < column) × Node owner column (AtItems at (At frames None)) bytes lines) ⊎ AtItems at (At frames None) column bytes lines
At (ListAt at ∷ frames) owner column bytes lines = AtItems at (At frames None) column bytes lines
At (Entry at ∷ frames) owner column bytes lines = ((at < column) × Node owner column (AtEntries at (At frames None)) bytes lines) ⊎ (((column ≡ at) × Sequence at (AtEntries at (At frames None)) bytes lines) ⊎ AtEntries at (At frames None) column bytes lines)
At (MapAt at ∷ frames) owner column bytes lines = AtEntries at (At frames None) column bytes lines

pub list_node : (owner : Option ℕ) (column : ℕ) (P : ℕ → List ℕ → Lines → Type 0) (bytes : List ℕ) (lines : Lines) → Sequence column P bytes lines → Node owner column P bytes lines
list_node owner column P bytes lines s = (s.0, s.1, list (trees_of s.2), s.3, sequence owner column bytes s.0 s.2 s.4, s.5)

pub map_node : (owner : Option ℕ) (column : ℕ) (P : ℕ → List ℕ → Lines → Type 0) (bytes : List ℕ) (lines : Lines) → Mapping column P bytes lines → Node owner column P bytes lines
map_node owner column P bytes lines s = (s.0, s.1, map (fields_of s.2), s.3, mapping owner column bytes s.0 s.2 s.4, s.5)

less : (a b : ℕ) → nat_lt a b ≡ true → a < b
less a b h = grind (arith, nat_tests)

at_most : (a b : ℕ) → nat_le a b ≡ true → a ≤ b
at_most a b h = grind (arith, nat_tests)

same : (a b : ℕ) → (a == b) ≡ true → a ≡ b
same a b h = grind (arith, nat_tests)

-- where a dash is placed, its sequence belongs
abbrev pub DashFits : ℕ → List Frame → List Frame → Type 0
DashFits column frames after =
    (outer : List Frame) × (after ≡ Item column ∷ outer) × ((owner : Option ℕ) (bytes : List ℕ) (lines : Lines) → Sequence column (At outer None) bytes lines → At frames owner column bytes lines)

dash_popped : (line column : ℕ) (frame : Frame) (frames : List Frame) (events : List Event) (placed : Placed) → after_events events (place_dash line column frames) ≡ Ok placed → ((p : Placed) → place_dash line column frames ≡ Ok p → DashFits column frames p.1) → ((owner : Option ℕ) (bytes : List ℕ) (lines : Lines) → At frames None column bytes lines → At (frame ∷ frames) owner column bytes lines) → DashFits column (frame ∷ frames) placed.1
dash_popped line column frame frames events placed h k up =
    let p = bind_ok (place_dash line column frames) (λ p. let q : Placed = (events ++ p.0, p.1) in Ok q) placed h in
    let d = k p.0 p.1 in
    let after : p.0.1 ≡ placed.1 = ap (λ (q : Placed). q.1) (ok_same p.2) in
    (d.0, sym after ∙ d.1, (λ owner bytes lines s. up owner bytes lines (d.2 None bytes lines s)))

dash_here : (column : ℕ) (frames outer : List Frame) (events : List Event) (placed : Placed) → ◌≡◌ {A = Result Placed ReadFault} (Ok (events, Item column ∷ outer)) (Ok placed) → ((owner : Option ℕ) (bytes : List ℕ) (lines : Lines) → Sequence column (At outer None) bytes lines → At frames owner column bytes lines) → DashFits column frames placed.1
dash_here column frames outer events placed h f = (outer, ap (λ (q : Placed). q.1) (sym (ok_same h)), f)

pub dash_fits : (line column : ℕ) (frames : List Frame) (placed : Placed) → place_dash line column frames ≡ Ok placed → DashFits column frames placed.1
dash_fits line column [] placed h = absurd (cc)
dash_fits line column (Whole ∷ frames) placed h = dash_here column (Whole ∷ frames) (Done ∷ frames) (OpenList ∷ []) placed h (λ owner bytes lines s. list_node owner column nowhere bytes lines s)
dash_fits line column (Done ∷ frames) placed h = absurd (cc)
dash_fits line column (Item at ∷ frames) placed h = by (nat_lt at column) (column == at) refl refl h (λ p k. dash_fits line column frames p k)
  where
    by : (l s : Bool) → nat_lt at column ≡ l → (column == at) ≡ s → (if l then Ok (OpenList ∷ [], Item column ∷ ListAt at ∷ frames) else if s then Ok (nothing ∷ [], Item at ∷ frames) else after_events (nothing ∷ Close ∷ []) (place_dash line column frames)) ≡ Ok placed → ((p : Placed) → place_dash line column frames ≡ Ok p → DashFits column frames p.1) → DashFits column (Item at ∷ frames) placed.1
    by true s p q h k = dash_here column (Item at ∷ frames) (ListAt at ∷ frames) (OpenList ∷ []) placed h (λ owner bytes lines s. inl (less at column p, list_node owner column (AtItems at (At frames None)) bytes lines s))
    by false true p q h k = let e = same column at q in dash_here column (Item at ∷ frames) frames (nothing ∷ []) placed (rw e h) (λ owner bytes lines s. inr (inl (e, rw e at s)))
    by false false p q h k = dash_popped line column (Item at) frames (nothing ∷ Close ∷ []) placed h k (λ owner bytes lines a. inr (inr a))
dash_fits line column (ListAt at ∷ frames) placed h = by (column == at) refl h (λ p k. dash_fits line column frames p k)
  where
    by : (s : Bool) → (column == at) ≡ s → (if s then Ok ([], Item at ∷ frames) else after_events (Close ∷ []) (place_dash line column frames)) ≡ Ok placed → ((p : Placed) → place_dash line column frames ≡ Ok p → DashFits column frames p.1) → DashFits column (ListAt at ∷ frames) placed.1
    by true q h k = let e = same column at q in dash_here column (ListAt at ∷ frames) frames [] placed (rw e h) (λ owner bytes lines s. inl (e, rw e at s))
    by false q h k = dash_popped line column (ListAt at) frames (Close ∷ []) placed h k (λ owner bytes lines a. inr a)
dash_fits line column (Entry at ∷ frames) placed h = by (nat_le at column) (nat_lt at column) refl refl h (λ p k. dash_fits line column frames p k)
  where
    level : (a b : ℕ) → nat_le a b ≡ true → nat_lt a b ≡ false → b ≡ a
    level a b h k = grind (arith, nat_tests)

    by : (l s : Bool) → nat_le at column ≡ l → nat_lt at column ≡ s → (if l then Ok (OpenList ∷ [], Item column ∷ MapAt at ∷ frames) else after_events (nothing ∷ Close ∷ []) (place_dash line column frames)) ≡ Ok placed → ((p : Placed) → place_dash line column frames ≡ Ok p → DashFits column frames p.1) → DashFits column (Entry at ∷ frames) placed.1
    by true true p q h k = dash_here column (Entry at ∷ frames) (MapAt at ∷ frames) (OpenList ∷ []) placed h (λ owner bytes lines s. inl (less at column q, list_node owner column (AtEntries at (At frames None)) bytes lines s))
    by true false p q h k = let e = level at column p q in dash_here column (Entry at ∷ frames) (MapAt at ∷ frames) (OpenList ∷ []) placed h (λ owner bytes lines s. inr (inl (e, subst (λ c. Sequence c (AtEntries at (At frames None)) bytes lines) e s)))
    by false s p q h k = dash_popped line column (Entry at) frames (nothing ∷ Close ∷ []) placed h k (λ owner bytes lines a. inr (inr (inr a)))
dash_fits line column (MapAt at ∷ frames) placed h = dash_popped line column (MapAt at) frames (Close ∷ []) placed h (λ p k. dash_fits line column frames p k) (λ owner bytes lines a. inr a)

-- where a key is placed, its mapping belongs
abbrev pub KeyFits : ℕ → List Frame → List Frame → Type 0
KeyFits column frames after =
    (outer : List Frame) × (after ≡ Entry column ∷ outer) × ((owner : Option ℕ) (bytes : List ℕ) (lines : Lines) → Mapping column (At outer None) bytes lines → At frames owner column bytes lines)

key_popped : (line column : ℕ) (key : List ℕ) (frame : Frame) (frames : List Frame) (events : List Event) (placed : Placed) → after_events events (place_key line column key frames) ≡ Ok placed → ((p : Placed) → place_key line column key frames ≡ Ok p → KeyFits column frames p.1) → ((owner : Option ℕ) (bytes : List ℕ) (lines : Lines) → At frames None column bytes lines → At (frame ∷ frames) owner column bytes lines) → KeyFits column (frame ∷ frames) placed.1
key_popped line column key frame frames events placed h k up =
    let p = bind_ok (place_key line column key frames) (λ p. let q : Placed = (events ++ p.0, p.1) in Ok q) placed h in
    let d = k p.0 p.1 in
    let after : p.0.1 ≡ placed.1 = ap (λ (q : Placed). q.1) (ok_same p.2) in
    (d.0, sym after ∙ d.1, (λ owner bytes lines s. up owner bytes lines (d.2 None bytes lines s)))

key_here : (column : ℕ) (frames outer : List Frame) (events : List Event) (placed : Placed) → ◌≡◌ {A = Result Placed ReadFault} (Ok (events, Entry column ∷ outer)) (Ok placed) → ((owner : Option ℕ) (bytes : List ℕ) (lines : Lines) → Mapping column (At outer None) bytes lines → At frames owner column bytes lines) → KeyFits column frames placed.1
key_here column frames outer events placed h f = (outer, ap (λ (q : Placed). q.1) (sym (ok_same h)), f)

pub key_fits : (line column : ℕ) (key : List ℕ) (frames : List Frame) (placed : Placed) → place_key line column key frames ≡ Ok placed → KeyFits column frames placed.1
key_fits line column key [] placed h = absurd (cc)
key_fits line column key (Whole ∷ frames) placed h = key_here column (Whole ∷ frames) (Done ∷ frames) (OpenMap ∷ Key line key ∷ []) placed h (λ owner bytes lines s. map_node owner column nowhere bytes lines s)
key_fits line column key (Done ∷ frames) placed h = absurd (cc)
key_fits line column key (Item at ∷ frames) placed h = by (nat_lt at column) refl h (λ p k. key_fits line column key frames p k)
  where
    by : (l : Bool) → nat_lt at column ≡ l → (if l then Ok (OpenMap ∷ Key line key ∷ [], Entry column ∷ ListAt at ∷ frames) else after_events (nothing ∷ Close ∷ []) (place_key line column key frames)) ≡ Ok placed → ((p : Placed) → place_key line column key frames ≡ Ok p → KeyFits column frames p.1) → KeyFits column (Item at ∷ frames) placed.1
    by true p h k = key_here column (Item at ∷ frames) (ListAt at ∷ frames) (OpenMap ∷ Key line key ∷ []) placed h (λ owner bytes lines s. inl (less at column p, map_node owner column (AtItems at (At frames None)) bytes lines s))
    by false p h k = key_popped line column key (Item at) frames (nothing ∷ Close ∷ []) placed h k (λ owner bytes lines a. inr (inr a))
key_fits line column key (ListAt at ∷ frames) placed h = key_popped line column key (ListAt at) frames (Close ∷ []) placed h (λ p k. key_fits line column key frames p k) (λ owner bytes lines a. inr a)
key_fits line column key (Entry at ∷ frames) placed h = by (nat_lt at column) (column == at) refl refl h (λ p k. key_fits line column key frames p k)
  where
    by : (l s : Bool) → nat_lt at column ≡ l → (column == at) ≡ s → (if l then Ok (OpenMap ∷ Key line key ∷ [], Entry column ∷ MapAt at ∷ frames) else if s then Ok (nothing ∷ Key line key ∷ [], Entry at ∷ frames) else after_events (nothing ∷ Close ∷ []) (place_key line column key frames)) ≡ Ok placed → ((p : Placed) → place_key line column key frames ≡ Ok p → KeyFits column frames p.1) → KeyFits column (Entry at ∷ frames) placed.1
    by true s p q h k = key_here column (Entry at ∷ frames) (MapAt at ∷ frames) (OpenMap ∷ Key line key ∷ []) placed h (λ owner bytes lines s. inl (less at column p, map_node owner column (AtEntries at (At frames None)) bytes lines s))
    by false true p q h k = let e = same column at q in key_here column (Entry at ∷ frames) frames (nothing ∷ Key line key ∷ []) placed (rw e h) (λ owner bytes lines s. inr (inr (inl (e, rw e at s))))
    by false false p q h k = key_popped line column key (Entry at) frames (nothing ∷ Close ∷ []) placed h k (λ owner bytes lines a. inr (inr (inr a)))
key_fits line column key (MapAt at ∷ frames) placed h = by (column == at) refl h (λ p k. key_fits line column key frames p k)
  where
    by : (s : Bool) → (column == at) ≡ s → (if s then Ok (Key line key ∷ [], Entry at ∷ frames) else after_events (Close ∷ []) (place_key line column key frames)) ≡ Ok placed → ((p : Placed) → place_key line column key frames ≡ Ok p → KeyFits column frames p.1) → KeyFits column (MapAt at ∷ frames) placed.1
    by true q h k = let e = same column at q in key_here column (MapAt at ∷ frames) frames (Key line key ∷ []) placed (rw e h) (λ owner bytes lines s. inl (e, rw e at s))
    by false q h k = key_popped line column key (MapAt at) frames (Close ∷ []) placed h k (λ owner bytes lines a. inr a)

-- where a value is placed, it belongs
pub value_belongs : (line column : ℕ) (frames after : List Frame) → place_value line column frames ≡ Ok after → (owner : Option ℕ) (bytes : List ℕ) (lines : Lines) → Node owner column (At after None) bytes lines → At frames owner column bytes lines
value_belongs line column [] after h owner bytes lines n = absurd (cc)
value_belongs line column (Whole ∷ frames) after h owner bytes lines n = subst (λ fs. Node owner column (At fs None) bytes lines) (sym (ok_same h)) n
value_belongs line column (Done ∷ frames) after h owner bytes lines n = absurd (cc)
value_belongs line column (Item at ∷ frames) after h owner bytes lines n =
    let t = if_ok (nat_lt at column) (Ok (ListAt at ∷ frames)) _ after h in
    inl (less at column t.0, subst (λ fs. Node owner column (At fs None) bytes lines) (sym (ok_same t.1)) n)
value_belongs line column (ListAt at ∷ frames) after h owner bytes lines n = absurd (cc)
value_belongs line column (Entry at ∷ frames) after h owner bytes lines n =
    let t = if_ok (nat_lt at column) (Ok (MapAt at ∷ frames)) _ after h in
    inl (less at column t.0, subst (λ fs. Node owner column (At fs None) bytes lines) (sym (ok_same t.1)) n)
value_belongs line column (MapAt at ∷ frames) after h owner bytes lines n = absurd (cc)
