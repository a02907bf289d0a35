-- A tree in the order of its keys: what the tree's data is as a tree, no deeper than the tree, and with the same values at its keys.
use Rattle.std.proofs.Common.{◌≡◌, ◌≤◌, ℕ, Bool, true, false, ◌||◌, List, Option, Some, None, option_map, Ordering, Less, Equal, Greater, nat_cmp, refl, sym, ap, ◌∙◌, arith, cond, true≢false}
use Rattle.std.specs.Cmp.Lexicographic.{slice_cmp}
use Rattle.std.specs.List.{AllByRecursion}
use Rattle.std.specs.List.Sorted.{IsStrictlySortedBy}
use Rattle.std.specs.Ordering.{is_eq, match_ordering, ordering_reverse}
use Rattle.std.specs.Str.{bytes_eq}
use Rattle.std.proofs.lemmas.Cmp.{nat_list_cmp_total}
use Rattle.std.proofs.lemmas.Map.Lookups.{exact_bytes}
use Rattle.std.proofs.lemmas.Map.Text.{is_eq-slice_cmp}
use Rattle.std.proofs.lemmas.Slice.Eq.{bytes_eq-Decides}
use Rattle.std.proofs.Math.Bool.{or-true}
use Rattle.serde_json.specs.Data as json
use Rattle.bosh_yaml.specs.Canon.{data_items, data_members, data_of}
use Rattle.bosh_yaml.specs.Keys.{field_value, value_of_key}
use Rattle.bosh_yaml.specs.Limits.{depth, depth_all, depth_keyed, HasEachKeyOnce, HaveEachKeyOnce, KeysAreNew}
use Rattle.bosh_yaml.specs.Nodes.{Keys, no_keys, with_new}
use Rattle.bosh_yaml.specs.Order.{AreInKeyOrder, AreWritable, each_in_key_order, HaveKeyOrder, HaveWritable, in_key_order, IsInKeyOrder, IsWritable, keys_of, put_field, put_fields}
use Rattle.bosh_yaml.specs.Spelling.{json_items, json_members, json_tree, number_tree}
use Rattle.bosh_yaml.specs.Tree.{Tree, Trees, Fields, null, boolean, integer, list, map, no_trees, no_fields, field, trees_of, fields_of}
use Rattle.bosh_yaml.specs.Tree as yaml
use Rattle.bosh_yaml.proofs.CanonicalLemmas.{as_i64-of_integer}
use Rattle.bosh_yaml.proofs.KeyLemmas.{or_both}

-- ---- the data of a tree, as a tree

abbrev pub as_fields : json.Members → Fields
as_fields ms = fields_of (json_members ms)

fields_chosen : (o : Ordering) (a b c : json.Members) → as_fields (match_ordering o a b c) ≡ match_ordering o (as_fields a) (as_fields b) (as_fields c)
fields_chosen Less a b c = refl
fields_chosen Equal a b c = refl
fields_chosen Greater a b c = refl

pub as_fields-put : (k : List ℕ) (d : json.Data) (ms : json.Members) → as_fields (json.put k d ms) ≡ put_field k (json_tree d) (as_fields ms)
as_fields-put k d json.no_members = refl
as_fields-put k d (json.member l e ms) =
    fields_chosen (slice_cmp nat_cmp k l) _ _ _
    ∙ ap (λ (fs : Fields). match_ordering (slice_cmp nat_cmp k l) (field k (json_tree d) (field l (json_tree e) (as_fields ms))) (field l (json_tree d) (as_fields ms)) (field l (json_tree e) fs)) (as_fields-put k d ms)

mutual
  pub data_in_order : (t : Tree) → IsWritable t → json_tree (data_of t) ≡ in_key_order t
  data_in_order null h = refl
  data_in_order (boolean b) h = refl
  data_in_order (integer n) h = ap number_tree (as_i64-of_integer n h)
  data_in_order (yaml.text s) h = refl
  data_in_order (list ts) h = ap list (items_in_order ts h)
  data_in_order (map fs) h = ap map (members_in_order fs json.no_members h)

  items_in_order : (ts : Trees) → AreWritable ts → trees_of (json_items (data_items ts)) ≡ each_in_key_order ts
  items_in_order no_trees h = refl
  items_in_order (yaml.tree t ts) h = rw (data_in_order t h.0, items_in_order ts h.1) refl

  members_in_order : (fs : Fields) (found : json.Members) → HaveWritable fs → as_fields (data_members fs found) ≡ put_fields fs (as_fields found)
  members_in_order no_fields found h = refl
  members_in_order (field k t fs) found h =
      members_in_order fs (json.put k (data_of t) found) h.2
      ∙ ap (λ before. put_fields fs before) (as_fields-put k (data_of t) found ∙ ap (λ u. put_field k u (as_fields found)) (data_in_order t h.1))

-- ---- it nests no deeper

depth_chosen : (o : Ordering) (a b c : Fields) (n : ℕ) → depth_keyed a ≤ n → depth_keyed b ≤ n → depth_keyed c ≤ n → depth_keyed (match_ordering o a b c) ≤ n
depth_chosen Less a b c n p q r = p
depth_chosen Equal a b c n p q r = q
depth_chosen Greater a b c n p q r = r

depth_put : (k : List ℕ) (t : Tree) (fs : Fields) (n : ℕ) → depth t ≤ n → depth_keyed fs ≤ n → depth_keyed (put_field k t fs) ≤ n
depth_put k t no_fields n p q = omega arith
depth_put k t (field l u fs) n p q =
    depth_chosen (slice_cmp nat_cmp k l) (field k t (field l u fs)) (field l t fs) (field l u (put_field k t fs)) n (omega arith) (omega arith) (omega (arith, depth_put k t fs n p (omega arith)))

mutual
  pub depth_in_order : (t : Tree) (n : ℕ) → depth t ≤ n → depth (in_key_order t) ≤ n
  depth_in_order null n h = h
  depth_in_order (boolean b) n h = h
  depth_in_order (integer z) n h = h
  depth_in_order (yaml.text s) n h = h
  depth_in_order (list ts) n h = omega (arith, depth_all_in_order ts (depth_all ts) (omega arith))
  depth_in_order (map fs) n h = omega (arith, depth_fields fs no_fields (depth_keyed fs) (omega arith) (omega arith))

  depth_all_in_order : (ts : Trees) (n : ℕ) → depth_all ts ≤ n → depth_all (each_in_key_order ts) ≤ n
  depth_all_in_order no_trees n h = h
  depth_all_in_order (yaml.tree t ts) n h = omega (arith, depth_in_order t n (omega arith), depth_all_in_order ts n (omega arith))

  depth_fields : (fs before : Fields) (n : ℕ) → depth_keyed fs ≤ n → depth_keyed before ≤ n → depth_keyed (put_fields fs before) ≤ n
  depth_fields no_fields before n h b = b
  depth_fields (field k t fs) before n h b = depth_fields fs (put_field k (in_key_order t) before) n (omega arith) (depth_put k (in_key_order t) before n (depth_in_order t n (omega arith)) b)

-- ---- its keys ascend

-- a key is below each key of these fields
abbrev pub IsBelow : List ℕ → Fields → Type 0
IsBelow k fs = AllByRecursion (λ l. slice_cmp nat_cmp k l ≡ Less) (keys_of fs)

abbrev pub Ascend : Fields → Type 0
Ascend fs = IsStrictlySortedBy (slice_cmp nat_cmp) (keys_of fs)

pub none_ascends : Ascend no_fields
unfolding IsStrictlySortedBy
none_ascends = tt

below_more : (k l : List ℕ) (fs : Fields) → slice_cmp nat_cmp k l ≡ Less → IsBelow l fs → IsBelow k fs
below_more k l no_fields h b = tt
below_more k l (field m t fs) h b = (nat_list_cmp_total.trans k l m h b.0, below_more k l fs h b.1)

greater_turns : (k l : List ℕ) → slice_cmp nat_cmp k l ≡ Greater → slice_cmp nat_cmp l k ≡ Less
greater_turns k l h = nat_list_cmp_total.antisymm l k ∙ ap ordering_reverse h

pub less_turns : (k l : List ℕ) → slice_cmp nat_cmp k l ≡ Less → slice_cmp nat_cmp l k ≡ Greater
less_turns k l h = nat_list_cmp_total.antisymm l k ∙ ap ordering_reverse h

below_chosen : (o : Ordering) (j k l : List ℕ) (t u : Tree) (fs put : Fields) → slice_cmp nat_cmp j k ≡ Less → IsBelow j (field l u fs) → IsBelow j put
    → IsBelow j (match_ordering o (field k t (field l u fs)) (field l t fs) (field l u put))
below_chosen Less j k l t u fs put h b p = (h, b)
below_chosen Equal j k l t u fs put h b p = b
below_chosen Greater j k l t u fs put h b p = (b.0, p)

below_put : (j k : List ℕ) (t : Tree) (fs : Fields) → slice_cmp nat_cmp j k ≡ Less → IsBelow j fs → IsBelow j (put_field k t fs)
below_put j k t no_fields h b = (h, tt)
below_put j k t (field l u fs) h b = below_chosen (slice_cmp nat_cmp k l) j k l t u fs (put_field k t fs) h b (below_put j k t fs h b.1)

ascend_chosen : (o : Ordering) (k l : List ℕ) (t u : Tree) (fs put : Fields) → slice_cmp nat_cmp k l ≡ o → Ascend (field l u fs) → Ascend put → (slice_cmp nat_cmp l k ≡ Less → IsBelow l put)
    → Ascend (match_ordering o (field k t (field l u fs)) (field l t fs) (field l u put))
unfolding IsStrictlySortedBy
ascend_chosen Less k l t u fs put is h p b = ((is, below_more k l fs is h.0), h)
ascend_chosen Equal k l t u fs put is h p b = h
ascend_chosen Greater k l t u fs put is h p b = (b (greater_turns k l is), p)

pub ascend_put : (k : List ℕ) (t : Tree) (fs : Fields) → Ascend fs → Ascend (put_field k t fs)
unfolding IsStrictlySortedBy
ascend_put k t no_fields h = (tt, tt)
ascend_put k t (field l u fs) h = ascend_chosen (slice_cmp nat_cmp k l) k l t u fs (put_field k t fs) refl h (ascend_put k t fs h.1) (λ less. below_put l k t fs less h.0)

order_chosen : (o : Ordering) (k l : List ℕ) (t u : Tree) (fs put : Fields) → IsInKeyOrder t → HaveKeyOrder (field l u fs) → HaveKeyOrder put → HaveKeyOrder (match_ordering o (field k t (field l u fs)) (field l t fs) (field l u put))
order_chosen Less k l t u fs put i h p = (i, h)
order_chosen Equal k l t u fs put i h p = (i, h.1)
order_chosen Greater k l t u fs put i h p = (h.0, p)

pub order_put : (k : List ℕ) (t : Tree) (fs : Fields) → IsInKeyOrder t → HaveKeyOrder fs → HaveKeyOrder (put_field k t fs)
order_put k t no_fields i h = (i, tt)
order_put k t (field l u fs) i h = order_chosen (slice_cmp nat_cmp k l) k l t u fs (put_field k t fs) i h (order_put k t fs i h.1)

mutual
  unfolding IsStrictlySortedBy

  pub keys_ascend : (t : Tree) → IsInKeyOrder (in_key_order t)
  keys_ascend null = tt
  keys_ascend (boolean b) = tt
  keys_ascend (integer n) = tt
  keys_ascend (yaml.text s) = tt
  keys_ascend (list ts) = each_ascend ts
  keys_ascend (map fs) = fields_ascend fs no_fields tt tt

  each_ascend : (ts : Trees) → AreInKeyOrder (each_in_key_order ts)
  each_ascend no_trees = tt
  each_ascend (yaml.tree t ts) = (keys_ascend t, each_ascend ts)

  fields_ascend : (fs before : Fields) → Ascend before → HaveKeyOrder before → Ascend (put_fields fs before) × HaveKeyOrder (put_fields fs before)
  fields_ascend no_fields before a h = (a, h)
  fields_ascend (field k t fs) before a h =
      fields_ascend fs (put_field k (in_key_order t) before) (ascend_put k (in_key_order t) before a) (order_put k (in_key_order t) before (keys_ascend t) h)

-- ---- keys that ascend stand once in their map

-- none of these keys is there already
abbrev pub AreUnknown : Keys → Fields → Type 0
AreUnknown keys no_fields = Unit {0}
AreUnknown keys (field k t fs) = (keys k ≡ false) × AreUnknown keys fs

pub none_known : (fs : Fields) → AreUnknown no_keys fs
none_known no_fields = tt
none_known (field k t fs) = (refl, none_known fs)

less_differs : (k l : List ℕ) → slice_cmp nat_cmp k l ≡ Less → bytes_eq k l ≡ false
less_differs k l h = sym (is_eq-slice_cmp k l) ∙ ap is_eq h

still_unknown : (keys : Keys) (k : List ℕ) (fs : Fields) → AreUnknown keys fs → IsBelow k fs → AreUnknown (with_new keys k) fs
still_unknown keys k no_fields u b = tt
still_unknown keys k (field l t fs) u b = (or_both (keys l) (bytes_eq k l) u.0 (less_differs k l b.0), still_unknown keys k fs u.1 b.1)

mutual
  unfolding IsStrictlySortedBy

  pub in_order_once : (t : Tree) → IsInKeyOrder t → HasEachKeyOnce t
  in_order_once null h = tt
  in_order_once (boolean b) h = tt
  in_order_once (integer n) h = tt
  in_order_once (yaml.text s) h = tt
  in_order_once (list ts) h = all_in_order_once ts h
  in_order_once (map fs) h = ascending_are_new no_keys fs (none_known fs) h.0 h.1

  all_in_order_once : (ts : Trees) → AreInKeyOrder ts → HaveEachKeyOnce ts
  all_in_order_once no_trees h = tt
  all_in_order_once (yaml.tree t ts) h = (in_order_once t h.0, all_in_order_once ts h.1)

  ascending_are_new : (keys : Keys) (fs : Fields) → AreUnknown keys fs → Ascend fs → HaveKeyOrder fs → KeysAreNew keys fs
  ascending_are_new keys no_fields u a h = tt
  ascending_are_new keys (field k t fs) u a h =
      (u.0, in_order_once t h.0, ascending_are_new (with_new keys k) fs (still_unknown keys k fs u.1 a.0) a.1 h.1)

-- ---- the values at its keys

same_bytes : (a b : List ℕ) → bytes_eq a b ≡ true → a ≡ b
same_bytes a b h = (bytes_eq-Decides a b).0 h

hidden : (b : Bool) (x y z : Option Tree) → cond b x y ≡ cond b x (cond b z y)
hidden true x y z = refl
hidden false x y z = refl

swaps : (a b : Bool) (x y z : Option Tree) → (a ≡ true → b ≡ true → ⊥) → cond b y (cond a x z) ≡ cond a x (cond b y z)
swaps true true x y z h = absurd (h refl refl)
swaps true false x y z h = refl
swaps false true x y z h = refl
swaps false false x y z h = refl

greater_differs : (k l key : List ℕ) → slice_cmp nat_cmp k l ≡ Greater → bytes_eq k key ≡ true → bytes_eq l key ≡ true → ⊥
greater_differs k l key is p q =
    let same : k ≡ l = same_bytes k key p ∙ sym (same_bytes l key q) in
    true≢false (sym ((bytes_eq-Decides k l).1 same) ∙ sym (is_eq-slice_cmp k l) ∙ ap is_eq is)

found_chosen : (o : Ordering) (key k l : List ℕ) (t u : Tree) (fs put : Fields) → slice_cmp nat_cmp k l ≡ o → field_value key put ≡ cond (bytes_eq k key) (Some t) (field_value key fs)
    → field_value key (match_ordering o (field k t (field l u fs)) (field l t fs) (field l u put)) ≡ cond (bytes_eq k key) (Some t) (field_value key (field l u fs))
found_chosen Less key k l t u fs put is p = refl
found_chosen Equal key k l t u fs put is p =
    let same : bytes_eq l key ≡ bytes_eq k key = ap (λ m. bytes_eq m key) (sym (exact_bytes k l is)) in
    rw same (hidden (bytes_eq k key) (Some t) (field_value key fs) (Some u))
found_chosen Greater key k l t u fs put is p =
    rw p (swaps (bytes_eq k key) (bytes_eq l key) (Some t) (Some u) (field_value key fs) (greater_differs k l key is))

found_put : (key k : List ℕ) (t : Tree) (fs : Fields) → field_value key (put_field k t fs) ≡ cond (bytes_eq k key) (Some t) (field_value key fs)
found_put key k t no_fields = refl
found_put key k t (field l u fs) = found_chosen (slice_cmp nat_cmp k l) key k l t u fs (put_field k t fs) refl (found_put key k t fs)

-- a key that was there before is none of new ones
absent_here : (b : Bool) (keys : Keys) (k key : List ℕ) (t : Tree) (rest : Option Tree) → bytes_eq k key ≡ b → keys k ≡ false → keys key ≡ true → rest ≡ None → cond b (Some t) rest ≡ None
absent_here true keys k key t rest e new there none = absurd (true≢false (sym there ∙ ap keys (sym (same_bytes k key e)) ∙ new))
absent_here false keys k key t rest e new there none = none

absent : (keys : Keys) (key : List ℕ) (fs : Fields) → KeysAreNew keys fs → keys key ≡ true → field_value key fs ≡ None
absent keys key no_fields n there = refl
absent keys key (field k t fs) n there =
    absent_here (bytes_eq k key) keys k key t (field_value key fs) refl n.0 there (absent (with_new keys k) key fs n.2 (ap (λ b. b || bytes_eq k key) there))

-- the first value, or the second where there is none
abbrev first_of : Option Tree → Option Tree → Option Tree
first_of None o = o
first_of (Some t) o = Some t

first_of_none : (o : Option Tree) → first_of o None ≡ o
first_of_none None = refl
first_of_none (Some t) = refl

found_step : (b : Bool) (t : Tree) (rest before : Option Tree) → (b ≡ true → rest ≡ None)
    → first_of (option_map in_key_order rest) (cond b (Some (in_key_order t)) before) ≡ first_of (option_map in_key_order (cond b (Some t) rest)) before
found_step true t rest before none = ap (λ o. first_of (option_map in_key_order o) (Some (in_key_order t))) (none refl)
found_step false t rest before none = refl

known : (keys : Keys) (k key : List ℕ) → bytes_eq k key ≡ true → with_new keys k key ≡ true
known keys k key h = rw h (or-true (keys key))

found_fields : (key : List ℕ) (keys : Keys) (fs before : Fields) → KeysAreNew keys fs → field_value key (put_fields fs before) ≡ first_of (option_map in_key_order (field_value key fs)) (field_value key before)
found_fields key keys no_fields before n = refl
found_fields key keys (field k t fs) before n =
    found_fields key (with_new keys k) fs (put_field k (in_key_order t) before) n.2
    ∙ ap (λ o. first_of (option_map in_key_order (field_value key fs)) o) (found_put key k (in_key_order t) before)
    ∙ found_step (bytes_eq k key) t (field_value key fs) (field_value key before) (λ e. absent (with_new keys k) key fs n.2 (known keys k key e))

pub same_values : (t : Tree) → HasEachKeyOnce t → (key : List ℕ) → value_of_key key (in_key_order t) ≡ option_map in_key_order (value_of_key key t)
same_values null once key = refl
same_values (boolean b) once key = refl
same_values (integer n) once key = refl
same_values (yaml.text s) once key = refl
same_values (list ts) once key = refl
same_values (map fs) once key = found_fields key no_keys fs no_fields once ∙ first_of_none (option_map in_key_order (field_value key fs))
