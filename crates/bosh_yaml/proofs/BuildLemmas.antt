-- One more event of a node, where no key stands twice.
use Rattle.std.proofs.Common.{◌≡◌, ℕ, Bool, true, false, List, [], ◌∷◌, ◌++◌, map, Option, Some, None, Result, Ok, refl, ap, sym, ◌∙◌, subst}
use Rattle.std.specs.Option.{is_some, option_map}
use Rattle.bosh_yaml.specs.declared.build.Open.{Open}
use Rattle.bosh_yaml.specs.declared.build.Open.TheVariants.{List as ListOf, Map as MapOf, Entry as EntryOf}
use Rattle.bosh_yaml.specs.declared.event.Event.{Event}
use Rattle.bosh_yaml.specs.declared.event.Event.TheVariants.{Scalar, OpenList, OpenMap, Key, Close}
use Rattle.bosh_yaml.specs.declared.fault.ReadFault.{ReadFault}
use Rattle.bosh_yaml.specs.Keys.{has_key}
use Rattle.bosh_yaml.specs.Nodes.{Keys, Step, line_or, line_of_repeat, with_value, with_key, with_close, with_event, tree_from, IsNewIn, keys_of_open}
use Rattle.bosh_yaml.specs.Result.{Refuses}
use Rattle.bosh_yaml.specs.Scalar.{leaf_tree}
use Rattle.bosh_yaml.specs.Tree.{Tree, list, map as map_tree, trees_of, fields_of}
use Rattle.bosh_yaml.proofs.KeyLemmas.{has_key-push}
use Rattle.bosh_yaml.proofs.ResultLemmas.{Refuses-bind, ok_same}
use Rattle.bosh_yaml.proofs.SeenLemmas.{same_keys}

abbrev keys_of_all : List Open → List Keys
keys_of_all all = map keys_of_open all

-- a value leaves the keys of the open collections
value_keys : (t : Tree) (all : List Open) (next : Step) → with_value t all ≡ Ok next → keys_of_all next.1 ≡ keys_of_all all
value_keys t [] next h = ap (λ (n : Step). keys_of_all n.1) (sym (ok_same h))
value_keys t (ListOf ts ∷ all) next h = ap (λ (n : Step). keys_of_all n.1) (sym (ok_same h))
value_keys t (MapOf ps ∷ all) next h = cc
value_keys t (EntryOf ps k ∷ all) next h =
    let pushed : keys_of_open (MapOf (ps ++ (k, t) ∷ [])) ≡ keys_of_open (EntryOf ps k) = same_keys _ _ (λ q. has_key-push q ps (k, t)) in
    ap (λ (n : Step). keys_of_all n.1) (sym (ok_same h)) ∙ ap (λ (keys : Keys). keys ∷ keys_of_all all) pushed

not_repeated : (b : Bool) (line : ℕ) (rest : Option ℕ) → line_or b line rest ≡ None → (b ≡ false) × (rest ≡ None)
not_repeated true line rest h = cc
not_repeated false line rest h = (refl, h)

close_keys : (all : List Open) (next : Step) (rest : List Event) → line_of_repeat (keys_of_all all) (Close ∷ rest) ≡ None → with_close all ≡ Ok next → line_of_repeat (keys_of_all next.1) rest ≡ None
close_keys [] next rest r h = cc
close_keys (ListOf ts ∷ all) next rest r h = rw (value_keys (list (trees_of ts)) all next h) r
close_keys (MapOf ps ∷ all) next rest r h = rw (value_keys (map_tree (fields_of ps)) all next h) r
close_keys (EntryOf ps k ∷ all) next rest r h = cc

key_keys : (line : ℕ) (key : List ℕ) (all : List Open) (next : Step) (rest : List Event) → line_of_repeat (keys_of_all all) (Key line key ∷ rest) ≡ None → with_key key all ≡ Ok next → line_of_repeat (keys_of_all next.1) rest ≡ None
key_keys line key [] next rest r h = cc
key_keys line key (ListOf ts ∷ all) next rest r h = cc
key_keys line key (EntryOf ps k ∷ all) next rest r h = cc
key_keys line key (MapOf ps ∷ all) next rest r h =
    let e = ap (λ (n : Step). line_of_repeat (keys_of_all n.1) rest) (sym (ok_same h)) in
    e ∙ (not_repeated (has_key key ps) line _ r).1

pub event_keys : (event : Event) (all : List Open) (next : Step) (rest : List Event) → line_of_repeat (keys_of_all all) (event ∷ rest) ≡ None → with_event event all ≡ Ok next → line_of_repeat (keys_of_all next.1) rest ≡ None
event_keys (Scalar leaf) all next rest r h = rw (value_keys (leaf_tree leaf) all next h) r
event_keys OpenList all next rest r h = ap (λ (n : Step). line_of_repeat (keys_of_all n.1) rest) (sym (ok_same h)) ∙ r
event_keys OpenMap all next rest r h = ap (λ (n : Step). line_of_repeat (keys_of_all n.1) rest) (sym (ok_same h)) ∙ r
event_keys (Key line key) all next rest r h = key_keys line key all next rest r h
event_keys Close all next rest r h = close_keys all next rest r h

-- a key that comes is new in its map
pub is_new_in : (event : Event) (all : List Open) (rest : List Event) → line_of_repeat (keys_of_all all) (event ∷ rest) ≡ None → IsNewIn event all
is_new_in (Scalar leaf) all rest r = tt
is_new_in OpenList all rest r = tt
is_new_in OpenMap all rest r = tt
is_new_in Close all rest r = tt
is_new_in (Key line key) [] rest r = tt
is_new_in (Key line key) (ListOf ts ∷ all) rest r = tt
is_new_in (Key line key) (EntryOf ps k ∷ all) rest r = tt
is_new_in (Key line key) (MapOf ps ∷ all) rest r = (not_repeated (has_key key ps) line _ r).0

-- a refused event is a refusal of all
pub event_refused : (e : ReadFault) (whole : Result Tree ReadFault) (event : Event) (all : List Open) (rest left : List Event) → left ≡ event ∷ rest → tree_from None all left ≡ whole → Refuses e (with_event event all) → Refuses e whole
event_refused e whole event all rest left p i h = subst (Refuses e) (rw p at i) (Refuses-bind e (with_event event all) _ h)

pub event_more : (whole : Result Tree ReadFault) (event : Event) (all : List Open) (next : Step) (rest left : List Event) → left ≡ event ∷ rest → tree_from None all left ≡ whole → with_event event all ≡ Ok next → tree_from next.0 next.1 rest ≡ whole
event_more whole event all next rest left p i h = rw (p, h) at i

pub none_mapped : {A B : Type 0} (f : A → B) (o : Option A) → false ≡ is_some o → option_map f o ≡ None
none_mapped f None h = refl
none_mapped f (Some x) h = cc
