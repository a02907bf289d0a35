-- A node as JSON data: the items of a list, one more key of a map, and that no float is in it.
use Rattle.std.proofs.Common.{◌≡◌, ℕ, ◌+◌, ◌<◌, false, List, [], ◌∷◌, ◌++◌, map, length, take, drop, arith, ◌≤◌, get_or, String, Global, Ordering, Less, Equal, Greater, string_bytes, string_cmp, nat_cmp, ℤ, pos, negsuc, refl, ap, ◌∙◌}
use Rattle.std.specs.Ordering.{match_ordering}
use Rattle.std.specs.BTreeMap.{insert_entry}
use Rattle.std.specs.Cmp.Lexicographic.{slice_cmp}
use Rattle.serde_json.specs.Data as json
use Rattle.serde_json.specs.Find.{of_integer, is_float}
use Rattle.serde_json.specs.View.{items_of, members_view, view}
use Rattle.serde_json.specs.Written.{has_float, items_have_float, members_have_float}
use Rattle.serde_json.specs.declared.value.Value.{Value}
use Rattle.serde_json.proofs.Views.{Entry, members_view-insert_entry}
use Rattle.bosh_yaml.specs.declared.node.Node.{Node}
use Rattle.bosh_yaml.specs.Canon.{data_of, data_items, data_members}
use Rattle.bosh_yaml.specs.Tree.{Tree, Trees, Fields, null, boolean, integer, text, list, map as map_tree, no_trees, tree, no_fields, field, trees_of, fields_of}
use Rattle.bosh_yaml.specs.View.{pair_of, tree_of}
use Rattle.std.proofs.lemmas.Grind.{common_steps}
use Rattle.bosh_yaml.proofs.KeyLemmas.{or_parts, or_both}
use Rattle.bosh_yaml.proofs.NestingLemmas.{next_item}

pub items_of-map : (nodes : List Node) → items_of (map (λ n. data_of (tree_of n)) nodes) ≡ data_items (trees_of (map tree_of nodes))
items_of-map [] = refl
items_of-map (n ∷ nodes) = ap (json.item (data_of (tree_of n))) (items_of-map nodes)

pub value_more : (values new : List Value) (v : Value) (nodes : List Node) (i : ℕ) (n : Node) → i < length nodes → n ≡ get_or nodes i n → map view values ≡ map (λ m. data_of (tree_of m)) (take i nodes) → new ≡ values ++ v ∷ [] → view v ≡ data_of (tree_of n)
    → map view new ≡ map (λ m. data_of (tree_of m)) (take (i + 1) nodes)
value_more values new v nodes i n h g so_far more seen = grind (arith, common_steps)

pub member_more : (whole : json.Members) (items : List (List ℕ × Node)) (i : ℕ) (e : List ℕ × Node) (es es' : List Entry) (k : String Global) (v : Value) → i < length items → e ≡ get_or items i e → data_members (fields_of (map pair_of (drop i items))) (members_view es) ≡ whole → es' ≡ insert_entry string_cmp es k v → string_bytes k ≡ e.0 → view v ≡ data_of (tree_of e.1) → data_members (fields_of (map pair_of (drop (i + 1) items))) (members_view es') ≡ whole
member_more whole items i e es es' k v h g w n key value =
    let put_in : members_view es' ≡ json.put e.0 (data_of (tree_of e.1)) (members_view es) = ap members_view n ∙ members_view-insert_entry es k v ∙ rw (key, value) refl in
    rw put_in (rw (next_item items i e h g) at w)

no_float_chosen : (o : Ordering) (a b c : json.Members) → members_have_float a ≡ false → members_have_float b ≡ false → members_have_float c ≡ false → members_have_float (match_ordering o a b c) ≡ false
no_float_chosen Less a b c p q r = p
no_float_chosen Equal a b c p q r = q
no_float_chosen Greater a b c p q r = r

pub take_all : {A : Type 0} (n : ℕ) (xs : List A) → length xs ≤ n → take n xs ≡ xs
take_all n xs h = grind (arith, common_steps)

no_float_put : (k : List ℕ) (d : json.Data) (ms : json.Members) → has_float d ≡ false → members_have_float ms ≡ false → members_have_float (json.put k d ms) ≡ false
no_float_put k d json.no_members p q = rw p refl
no_float_put k d (json.member l e ms) p q =
    let parts = or_parts (has_float e) (members_have_float ms) q in
    no_float_chosen (slice_cmp nat_cmp k l) _ _ _ (or_both (has_float d) _ p q) (or_both (has_float d) _ p parts.1) (or_both (has_float e) _ parts.0 (no_float_put k d ms p parts.1))

no_float_integer : (n : ℤ) → is_float (of_integer n) ≡ false
no_float_integer (pos n) = refl
no_float_integer (negsuc n) = refl

mutual
  pub no_float : (t : Tree) → has_float (data_of t) ≡ false
  no_float null = refl
  no_float (boolean b) = refl
  no_float (integer n) = no_float_integer n
  no_float (text s) = refl
  no_float (list ts) = no_float_items ts
  no_float (map_tree fs) = no_float_members fs json.no_members refl

  no_float_items : (ts : Trees) → items_have_float (data_items ts) ≡ false
  no_float_items no_trees = refl
  no_float_items (tree t ts) = or_both _ _ (no_float t) (no_float_items ts)

  no_float_members : (fs : Fields) (found : json.Members) → members_have_float found ≡ false → members_have_float (data_members fs found) ≡ false
  no_float_members no_fields found h = h
  no_float_members (field k t fs) found h = no_float_members fs (json.put k (data_of t) found) (no_float_put k (data_of t) found (no_float t) h)
