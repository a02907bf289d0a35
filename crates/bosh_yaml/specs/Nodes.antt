-- What the events of a text say: the first key that stands a second time in its mapping, how deep collections nest, and the tree.
use Rattle.std.specs.Prelude.{◌≡◌, ℕ, ◌+◌, ◌-◌, max, Bool, true, false, ◌||◌, List, [], ◌∷◌, ◌++◌, Option, Some, None, Result, Ok}
use Rattle.std.specs.Str.{bytes_eq}
use Rattle.bosh_yaml.specs.declared.build.Open.{Open}
use Rattle.bosh_yaml.specs.declared.build.Open.TheVariants.{List as ListOf, Map as MapOf, Entry as EntryOf}
use Rattle.bosh_yaml.specs.declared.event.Event.{Event}
use Rattle.bosh_yaml.specs.declared.event.Event.TheVariants.{Scalar, OpenList, OpenMap, Key, Close}
use Rattle.bosh_yaml.specs.declared.fault.ReadFault.{ReadFault}
use Rattle.bosh_yaml.specs.Result.{◌>>=◌}
use Rattle.bosh_yaml.specs.Scalar.{leaf_tree}
use Rattle.bosh_yaml.specs.Keys.{has_key}
use Rattle.bosh_yaml.specs.Tree.{Tree, list, map, trees_of, fields_of}
use Rattle.bosh_yaml.specs.Word.{syntax_fault}

-- the keys of a collection so far, as a test
abbrev pub Keys : Type 0
Keys = List ℕ → Bool

abbrev pub no_keys : Keys
no_keys key = false

abbrev pub with_new : Keys → List ℕ → Keys
with_new keys new key = keys key || bytes_eq new key

abbrev pub line_or : Bool → ℕ → Option ℕ → Option ℕ
line_or true line rest = Some line
line_or false line rest = rest

-- the line of the first key that stands a second time in its mapping, where the open collections have these keys, the innermost first
abbrev pub line_of_repeat : List Keys → List Event → Option ℕ
line_of_repeat all [] = None
line_of_repeat all (Scalar leaf ∷ events) = line_of_repeat all events
line_of_repeat all (OpenList ∷ events) = line_of_repeat (no_keys ∷ all) events
line_of_repeat all (OpenMap ∷ events) = line_of_repeat (no_keys ∷ all) events
line_of_repeat [] (Key line key ∷ events) = line_of_repeat [] events
line_of_repeat (keys ∷ all) (Key line key ∷ events) = line_or (keys key) line (line_of_repeat (with_new keys key ∷ all) events)
line_of_repeat [] (Close ∷ events) = line_of_repeat [] events
line_of_repeat (keys ∷ all) (Close ∷ events) = line_of_repeat all events

-- how many collections are open after an event
abbrev pub open_after : ℕ → Event → ℕ
open_after before (Scalar leaf) = before
open_after before OpenList = before + 1
open_after before OpenMap = before + 1
open_after before (Key line key) = before
open_after before Close = before - 1

-- how deep collections nest, where so many are open
abbrev pub nesting : ℕ → List Event → ℕ
nesting before [] = before
nesting before (event ∷ events) = max before (nesting (open_after before event) events)

-- after a value: the whole tree, where no collection is open, and the open collections
abbrev pub Step : Type 0
Step = Option Tree × List Open

abbrev pub with_value : Tree → List Open → Result Step ReadFault
with_value t [] = Ok (Some t, [])
with_value t (ListOf ts ∷ all) = Ok (None, ListOf (ts ++ t ∷ []) ∷ all)
with_value t (EntryOf ps key ∷ all) = Ok (None, MapOf (ps ++ (key, t) ∷ []) ∷ all)
with_value t (MapOf ps ∷ all) = syntax_fault 0

-- a key in the innermost collection
abbrev pub with_key : List ℕ → List Open → Result Step ReadFault
with_key key [] = syntax_fault 0
with_key key (MapOf ps ∷ all) = Ok (None, EntryOf ps key ∷ all)
with_key key (ListOf ts ∷ all) = syntax_fault 0
with_key key (EntryOf ps k ∷ all) = syntax_fault 0

-- the innermost collection is whole
abbrev pub with_close : List Open → Result Step ReadFault
with_close [] = syntax_fault 0
with_close (ListOf ts ∷ all) = with_value (list (trees_of ts)) all
with_close (MapOf ps ∷ all) = with_value (map (fields_of ps)) all
with_close (EntryOf ps k ∷ all) = syntax_fault 0

abbrev pub with_event : Event → List Open → Result Step ReadFault
with_event (Scalar leaf) all = with_value (leaf_tree leaf) all
with_event OpenList all = Ok (None, ListOf [] ∷ all)
with_event OpenMap all = Ok (None, MapOf [] ∷ all)
with_event (Key line key) all = with_key key all
with_event Close all = with_close all

-- the tree that events make, from the open collections on
abbrev pub tree_from : Option Tree → List Open → List Event → Result Tree ReadFault
tree_from None all [] = syntax_fault 0
tree_from (Some t) all [] = Ok t
tree_from None all (event ∷ events) = do
  next ← with_event event all
  tree_from next.0 next.1 events
tree_from (Some t) all (event ∷ events) = syntax_fault 0

-- each key whose value has not come is new
abbrev pub AreNew : List Open → Type 0
AreNew [] = Unit {0}
AreNew (ListOf ts ∷ all) = AreNew all
AreNew (MapOf ps ∷ all) = AreNew all
AreNew (EntryOf ps key ∷ all) = (has_key key ps ≡ false) × AreNew all

abbrev pub IsNewIn : Event → List Open → Type 0
IsNewIn (Key line key) (MapOf ps ∷ all) = has_key key ps ≡ false
IsNewIn event all = Unit {0}

-- the keys of an open collection
abbrev pub keys_of_open : Open → Keys
keys_of_open (ListOf ts) key = false
keys_of_open (MapOf ps) key = has_key key ps
keys_of_open (EntryOf ps k) key = has_key key ps || bytes_eq k key
