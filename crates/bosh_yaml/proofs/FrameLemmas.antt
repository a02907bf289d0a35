-- A dash or a key closes the frames that stand further right, and a value, a dash or a key is taken where one may stand.
use Rattle.std.proofs.Common.{◌≡◌, ◌≤◌, ◌<◌, ℕ, ◌+◌, true, false, List, [], ◌∷◌, ◌++◌, Result, Ok, Err, append_assoc, append-nil, refl, ap, sym, ◌∙◌, arith, nat_lt, nat_le, ◌==◌}
use Rattle.std.proofs.lemmas.Bool.Decides.{nat_tests}
use Rattle.bosh_yaml.specs.declared.block.Frame.{Frame}
use Rattle.bosh_yaml.specs.declared.block.Frame.TheVariants.{Whole, Done, Item, List as ListAt, Entry, Map as MapAt}
use Rattle.bosh_yaml.specs.declared.event.Event.{Event}
use Rattle.bosh_yaml.specs.declared.event.Event.TheVariants.{OpenList, OpenMap, Key}
use Rattle.bosh_yaml.specs.declared.fault.ReadFault.{ReadFault}
use Rattle.bosh_yaml.specs.Block.{Placed, after_events, closing, nothing, place_dash, place_key, place_value, place_end}
use Rattle.bosh_yaml.proofs.LineLemmas.{differs}

pub not_less : (a b : ℕ) → b ≤ a → nat_lt a b ≡ false
not_less a b h = grind (arith, nat_tests)

pub is_less : (a b : ℕ) → a < b → nat_lt a b ≡ true
is_less a b h = grind (arith, nat_tests)

pub not_at_most : (a b : ℕ) → b < a → nat_le a b ≡ false
not_at_most a b h = grind (arith, nat_tests)

pub is_at_most : (a b : ℕ) → a ≤ b → nat_le a b ≡ true
is_at_most a b h = grind (arith, nat_tests)

pub is_same : (a : ℕ) → (a == a) ≡ true
is_same a = grind (arith, nat_tests)

-- frames of collections that stand at this column or further right
abbrev pub FrameWithin : ℕ → Frame → Type 0
FrameWithin least Whole = ⊥
FrameWithin least Done = ⊥
FrameWithin least (Item at) = least ≤ at
FrameWithin least (ListAt at) = least ≤ at
FrameWithin least (Entry at) = least ≤ at
FrameWithin least (MapAt at) = least ≤ at

abbrev pub Within : ℕ → List Frame → Type 0
Within least [] = Unit {0}
Within least (frame ∷ frames) = FrameWithin least frame × Within least frames

-- frames that a key at this column closes: sequences may stand at the column itself
abbrev pub FrameBelow : ℕ → Frame → Type 0
FrameBelow column Whole = ⊥
FrameBelow column Done = ⊥
FrameBelow column (Item at) = column ≤ at
FrameBelow column (ListAt at) = column ≤ at
FrameBelow column (Entry at) = column < at
FrameBelow column (MapAt at) = column < at

abbrev pub Below : ℕ → List Frame → Type 0
Below column [] = Unit {0}
Below column (frame ∷ frames) = FrameBelow column frame × Below column frames

frame_below_within : (column : ℕ) (frame : Frame) → FrameBelow column frame → FrameWithin column frame
frame_below_within column Whole h = h
frame_below_within column Done h = h
frame_below_within column (Item at) h = h
frame_below_within column (ListAt at) h = h
frame_below_within column (Entry at) h = omega arith
frame_below_within column (MapAt at) h = omega arith

pub below_within : (column : ℕ) (frames : List Frame) → Below column frames → Within column frames
below_within column [] h = tt
below_within column (frame ∷ frames) h = (frame_below_within column frame h.0, below_within column frames h.1)

frame_within_below : (column : ℕ) (frame : Frame) → FrameWithin (column + 1) frame → FrameBelow column frame
frame_within_below column Whole h = h
frame_within_below column Done h = h
frame_within_below column (Item at) h = omega arith
frame_within_below column (ListAt at) h = omega arith
frame_within_below column (Entry at) h = omega arith
frame_within_below column (MapAt at) h = omega arith

pub within_below : (column : ℕ) (frames : List Frame) → Within (column + 1) frames → Below column frames
within_below column [] h = tt
within_below column (frame ∷ frames) h = (frame_within_below column frame h.0, within_below column frames h.1)

frame_within_less : (least column : ℕ) (frame : Frame) → least ≤ column → FrameWithin column frame → FrameWithin least frame
frame_within_less least column Whole n h = h
frame_within_less least column Done n h = h
frame_within_less least column (Item at) n h = omega arith
frame_within_less least column (ListAt at) n h = omega arith
frame_within_less least column (Entry at) n h = omega arith
frame_within_less least column (MapAt at) n h = omega arith

pub within_less : (least column : ℕ) (frames : List Frame) → least ≤ column → Within column frames → Within least frames
within_less least column [] n h = tt
within_less least column (frame ∷ frames) n h = (frame_within_less least column frame n h.0, within_less least column frames n h.1)

pub within_append : (least : ℕ) (frames more : List Frame) → Within least frames → Within least more → Within least (frames ++ more)
within_append least [] more h k = k
within_append least (frame ∷ frames) more h k = (h.0, within_append least frames more h.1 k)

pub below_append : (column : ℕ) (frames more : List Frame) → Below column frames → Below column more → Below column (frames ++ more)
below_append column [] more h k = k
below_append column (frame ∷ frames) more h k = (h.0, below_append column frames more h.1 k)

pub end_append : (frames more : List Frame) → place_end (frames ++ more) ≡ place_end frames ++ place_end more
end_append [] more = refl
end_append (frame ∷ frames) more = ap (λ es. closing frame ++ es) (end_append frames more) ∙ sym (append_assoc (closing frame) (place_end frames) (place_end more))

after_none : (read : Result Placed ReadFault) → after_events [] read ≡ read
after_none (Ok p) = refl
after_none (Err e) = refl

after_twice : (a b : List Event) (read : Result Placed ReadFault) → after_events a (after_events b read) ≡ after_events (a ++ b) read
after_twice a b (Ok p) = ap (λ es. Ok (es, p.1)) (sym (append_assoc a b p.0))
after_twice a b (Err e) = refl

closes : (a b : List Event) (read more : Result Placed ReadFault) → more ≡ after_events b read → after_events a more ≡ after_events (a ++ b) read
closes a b read more h = ap (λ r. after_events a r) h ∙ after_twice a b read

dash_frame : (line column : ℕ) (frame : Frame) (frames : List Frame) → FrameWithin (column + 1) frame → place_dash line column (frame ∷ frames) ≡ after_events (closing frame) (place_dash line column frames)
dash_frame line column Whole frames h = absurd h
dash_frame line column Done frames h = absurd h
dash_frame line column (Item at) frames h = rw (not_less at column (omega arith), differs column at (omega arith)) refl
dash_frame line column (ListAt at) frames h = rw (differs column at (omega arith)) refl
dash_frame line column (Entry at) frames h = rw (not_at_most at column (omega arith)) refl
dash_frame line column (MapAt at) frames h = refl

-- a dash closes what stands further right
pub dash_closes : (line column : ℕ) (frames more : List Frame) → Within (column + 1) frames → place_dash line column (frames ++ more) ≡ after_events (place_end frames) (place_dash line column more)
dash_closes line column [] more h = sym (after_none (place_dash line column more))
dash_closes line column (frame ∷ frames) more h =
    dash_frame line column frame (frames ++ more) h.0 ∙ closes (closing frame) (place_end frames) (place_dash line column more) (place_dash line column (frames ++ more)) (dash_closes line column frames more h.1)

key_frame : (line column : ℕ) (key : List ℕ) (frame : Frame) (frames : List Frame) → FrameBelow column frame → place_key line column key (frame ∷ frames) ≡ after_events (closing frame) (place_key line column key frames)
key_frame line column key Whole frames h = absurd h
key_frame line column key Done frames h = absurd h
key_frame line column key (Item at) frames h = rw (not_less at column (omega arith)) refl
key_frame line column key (ListAt at) frames h = refl
key_frame line column key (Entry at) frames h = rw (not_less at column (omega arith), differs column at (omega arith)) refl
key_frame line column key (MapAt at) frames h = rw (differs column at (omega arith)) refl

-- and so does a key, with the sequences at its own column
pub key_closes : (line column : ℕ) (key : List ℕ) (frames more : List Frame) → Below column frames → place_key line column key (frames ++ more) ≡ after_events (place_end frames) (place_key line column key more)
key_closes line column key [] more h = sym (after_none (place_key line column key more))
key_closes line column key (frame ∷ frames) more h =
    key_frame line column key frame (frames ++ more) h.0 ∙ closes (closing frame) (place_end frames) (place_key line column key more) (place_key line column key (frames ++ more)) (key_closes line column key frames more h.1)

-- a node at this column or further right may stand here
abbrev pub Accepts : ℕ → List Frame → Type 0
Accepts least [] = ⊥
Accepts least (Whole ∷ frames) = Unit {0}
Accepts least (Done ∷ frames) = ⊥
Accepts least (Item at ∷ frames) = at < least
Accepts least (ListAt at ∷ frames) = ⊥
Accepts least (Entry at ∷ frames) = at < least
Accepts least (MapAt at ∷ frames) = ⊥

-- the frames behind that node
abbrev pub filled : List Frame → List Frame
filled [] = []
filled (Whole ∷ frames) = Done ∷ frames
filled (Done ∷ frames) = Done ∷ frames
filled (Item at ∷ frames) = ListAt at ∷ frames
filled (ListAt at ∷ frames) = ListAt at ∷ frames
filled (Entry at ∷ frames) = MapAt at ∷ frames
filled (MapAt at ∷ frames) = MapAt at ∷ frames

pub value_placed : (line least column : ℕ) (frames : List Frame) → Accepts least frames → least ≤ column → place_value line column frames ≡ Ok (filled frames)
value_placed line least column [] h n = absurd h
value_placed line least column (Whole ∷ frames) h n = refl
value_placed line least column (Done ∷ frames) h n = absurd h
value_placed line least column (Item at ∷ frames) h n = rw (is_less at column (omega arith)) refl
value_placed line least column (ListAt at ∷ frames) h n = absurd h
value_placed line least column (Entry at ∷ frames) h n = rw (is_less at column (omega arith)) refl
value_placed line least column (MapAt at ∷ frames) h n = absurd h

pub dash_placed : (line least column : ℕ) (frames : List Frame) → Accepts least frames → least ≤ column → place_dash line column frames ≡ Ok (OpenList ∷ [], Item column ∷ filled frames)
dash_placed line least column [] h n = absurd h
dash_placed line least column (Whole ∷ frames) h n = refl
dash_placed line least column (Done ∷ frames) h n = absurd h
dash_placed line least column (Item at ∷ frames) h n = rw (is_less at column (omega arith)) refl
dash_placed line least column (ListAt at ∷ frames) h n = absurd h
dash_placed line least column (Entry at ∷ frames) h n = rw (is_at_most at column (omega arith)) refl
dash_placed line least column (MapAt at ∷ frames) h n = absurd h

pub key_placed : (line least column : ℕ) (key : List ℕ) (frames : List Frame) → Accepts least frames → least ≤ column → place_key line column key frames ≡ Ok (OpenMap ∷ Key line key ∷ [], Entry column ∷ filled frames)
key_placed line least column key [] h n = absurd h
key_placed line least column key (Whole ∷ frames) h n = refl
key_placed line least column key (Done ∷ frames) h n = absurd h
key_placed line least column key (Item at ∷ frames) h n = rw (is_less at column (omega arith)) refl
key_placed line least column key (ListAt at ∷ frames) h n = absurd h
key_placed line least column key (Entry at ∷ frames) h n = rw (is_less at column (omega arith)) refl
key_placed line least column key (MapAt at ∷ frames) h n = absurd h

-- the next item of a sequence at a column, and the next key of a mapping there
pub dash_again : (line column : ℕ) (inner frames : List Frame) → Within (column + 1) inner → place_dash line column (inner ++ ListAt column ∷ frames) ≡ Ok (place_end inner, Item column ∷ frames)
dash_again line column inner frames h =
    dash_closes line column inner (ListAt column ∷ frames) h ∙ rw (is_same column) (ap (λ es. Ok (es, Item column ∷ frames)) (append-nil (place_end inner)))

pub dash_after_none : (line column : ℕ) (frames : List Frame) → place_dash line column (Item column ∷ frames) ≡ Ok (nothing ∷ [], Item column ∷ frames)
dash_after_none line column frames = rw (not_less column column (omega arith), is_same column) refl

pub key_again : (line column : ℕ) (key : List ℕ) (inner frames : List Frame) → Below column inner → place_key line column key (inner ++ MapAt column ∷ frames) ≡ Ok (place_end inner ++ Key line key ∷ [], Entry column ∷ frames)
key_again line column key inner frames h =
    key_closes line column key inner (MapAt column ∷ frames) h ∙ rw (is_same column) refl

pub key_after_none : (line column : ℕ) (key : List ℕ) (frames : List Frame) → place_key line column key (Entry column ∷ frames) ≡ Ok (nothing ∷ Key line key ∷ [], Entry column ∷ frames)
key_after_none line column key frames = rw (not_less column column (omega arith), is_same column) refl

pub dash_level : (line column : ℕ) (frames : List Frame) → place_dash line column (Entry column ∷ frames) ≡ Ok (OpenList ∷ [], Item column ∷ MapAt column ∷ frames)
dash_level line column frames = rw (is_at_most column column (omega arith)) refl
