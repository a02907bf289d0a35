-- The trees of the nodes of a list and of a map are trees of a node.
use Rattle.std.proofs.Common.{◌≡◌, ◌≤◌, ◌<◌, ℕ, ◌+◌, false, List, [], ◌∷◌, map, length, drop, get_or, IsUtf8, sym, subst}
use Rattle.std.specs.Str.{bytes_eq}
use Rattle.std.proofs.lemmas.List.{drop_all}
use Rattle.bosh_yaml.specs.Keys.{has_key, HasDistinctKeys}
use Rattle.bosh_yaml.specs.Limits.{HaveEachKeyOnce, KeysAreNew}
use Rattle.bosh_yaml.specs.Nodes.{Keys, no_keys, with_new}
use Rattle.bosh_yaml.specs.Order.{AreWritable, HaveWritable, IsOfNode}
use Rattle.bosh_yaml.specs.SpelledBlock.{Each}
use Rattle.bosh_yaml.specs.Tree.{Tree, fields_of, list, map as map_tree, trees_of}
use Rattle.bosh_yaml.proofs.KeyLemmas.{bytes_eq_flips, or_both, or_parts}
use Rattle.bosh_yaml.proofs.NestingLemmas.{next_item}
use Rattle.bosh_yaml.proofs.OrderLemmas.{AreUnknown, none_known}

-- ---- P holds of each, where it holds of those that are left

pub each_more : {A B : Type 0} (P : B → Type 0) (f : A → B) (xs : List A) (i : ℕ) (x : A) → i < length xs → x ≡ get_or xs i x → (Each P (map f (drop i xs)) → Each P (map f xs)) → P (f x)
    → Each P (map f (drop (i + 1) xs)) → Each P (map f xs)
each_more P f xs i x h g all holds rest = all (subst (λ ys. Each P (map f ys)) (sym (next_item xs i x h g)) (holds, rest))

pub each_done : {A B : Type 0} (P : B → Type 0) (f : A → B) (xs : List A) (i : ℕ) → length xs ≤ i → (Each P (map f (drop i xs)) → Each P (map f xs)) → Each P (map f xs)
each_done P f xs i past all = all (subst (λ ys. Each P (map f ys)) (sym (drop_all i xs past)) tt)

-- ---- lists and maps

are_writable : (ts : List Tree) → Each IsOfNode ts → AreWritable (trees_of ts)
are_writable [] h = tt
are_writable (t ∷ ts) h = (h.0.0, are_writable ts h.1)

have_each_once : (ts : List Tree) → Each IsOfNode ts → HaveEachKeyOnce (trees_of ts)
have_each_once [] h = tt
have_each_once (t ∷ ts) h = (h.0.1, have_each_once ts h.1)

pub list_of_node : (ts : List Tree) → Each IsOfNode ts → IsOfNode (list (trees_of ts))
list_of_node ts h = (are_writable ts h, have_each_once ts h)

abbrev Pair : Type 0
Pair = List ℕ × Tree

abbrev pub IsPairOfNode : Pair → Type 0
IsPairOfNode p = IsUtf8 p.0 × IsOfNode p.1

have_writable : (ps : List Pair) → Each IsPairOfNode ps → HaveWritable (fields_of ps)
have_writable [] h = tt
have_writable (p ∷ ps) h = (h.0.0, h.0.1.0, have_writable ps h.1)

still_unknown : (keys : Keys) (k : List ℕ) (ps : List Pair) → AreUnknown keys (fields_of ps) → has_key k ps ≡ false → AreUnknown (with_new keys k) (fields_of ps)
still_unknown keys k [] u h = tt
still_unknown keys k (p ∷ ps) u h =
    let parts = or_parts (bytes_eq p.0 k) (has_key k ps) h in
    (or_both (keys p.0) (bytes_eq k p.0) u.0 (bytes_eq_flips p.0 k parts.0), still_unknown keys k ps u.1 parts.1)

keys_are_new : (keys : Keys) (ps : List Pair) → AreUnknown keys (fields_of ps) → HasDistinctKeys ps → Each IsPairOfNode ps → KeysAreNew keys (fields_of ps)
keys_are_new keys [] u d h = tt
keys_are_new keys (p ∷ ps) u d h = (u.0, h.0.1.1, keys_are_new (with_new keys p.0) ps (still_unknown keys p.0 ps u.1 d.0) d.1 h.1)

pub map_of_node : (ps : List Pair) → HasDistinctKeys ps → Each IsPairOfNode ps → IsOfNode (map_tree (fields_of ps))
map_of_node ps d h = (have_writable ps h, keys_are_new no_keys ps (none_known (fields_of ps)) d h)
