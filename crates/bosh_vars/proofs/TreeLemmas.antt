-- The filled nodes that are left, behind those that are filled; and that keys stay distinct.
use Rattle.std.proofs.Common.{◌≡◌, ℕ, zero, suc, ◌<◌, ◌≤◌, false, ◌||◌, List, [], ◌∷◌, ◌++◌, map, length, get_or, Result, Ok, Err, arith, ap, ◌∙◌, subst, refl}
use Rattle.std.specs.Str.{bytes_eq}
use Rattle.bosh_yaml.specs.Code.{node_count, nodes_in_list, nodes_in_pairs}
use Rattle.bosh_yaml.specs.Keys.{has_key, HasDistinctKeys}
use Rattle.bosh_yaml.specs.Tree.{Tree, Trees, Fields, no_trees, tree, no_fields, field, trees_of, fields_of}
use Rattle.bosh_yaml.specs.View.{tree_of, pair_of}
use Rattle.bosh_yaml.specs.declared.node.Node.{Node}
use Rattle.bosh_yaml.proofs.KeyLemmas.{bytes_eq_flips, or_parts, or_both}
use Rattle.bosh_vars.specs.declared.fault.VarsFault.{VarsFault}
use Rattle.bosh_vars.specs.Filled.{Values, filled, filled_items, filled_fields}
use Rattle.bosh_vars.specs.Result.{◌>>=◌, Gives, Refuses}
use Rattle.bosh_vars.proofs.JoinedLemmas.{Refuses-bind}

abbrev pub Pair : Type 0
Pair = List ℕ × Tree

-- trees before others
abbrev pub trees_before : List Tree → Trees → Trees
trees_before [] ts = ts
trees_before (u ∷ us) ts = tree u (trees_before us ts)

abbrev pub items_behind : List Tree → Result Trees VarsFault → Result Trees VarsFault
items_behind us r = r >>= λ ts. Ok (trees_before us ts)

pub items_behind-nil : (r : Result Trees VarsFault) → items_behind [] r ≡ r
items_behind-nil (Ok ts) = refl
items_behind-nil (Err e) = refl

trees_before-push : (us : List Tree) (u : Tree) (ts : Trees) → trees_before us (tree u ts) ≡ trees_before (us ++ u ∷ []) ts
trees_before-push [] u ts = refl
trees_before-push (v ∷ us) u ts = ap (tree v) (trees_before-push us u ts)

pub trees_before-none : (us : List Tree) → trees_before us no_trees ≡ trees_of us
trees_before-none [] = refl
trees_before-none (u ∷ us) = ap (tree u) (trees_before-none us)

items_behind-step : (us : List Tree) (u : Tree) (r : Result Trees VarsFault) → items_behind us (r >>= λ ts. Ok (tree u ts)) ≡ items_behind (us ++ u ∷ []) r
items_behind-step us u (Ok ts) = ap Ok (trees_before-push us u ts)
items_behind-step us u (Err e) = refl

pub items-step : (values : Values) (us : List Tree) (u t : Tree) (ts : Trees) → filled values t ≡ Ok u → items_behind us (filled_items values (tree t ts)) ≡ items_behind (us ++ u ∷ []) (filled_items values ts)
items-step values us u t ts is =
    ap (λ r. items_behind us (r >>= λ x. filled_items values ts >>= λ more. Ok (tree x more))) is ∙ items_behind-step us u (filled_items values ts)

pub items-refused : (values : Values) (us : List Tree) (t : Tree) (ts : Trees) (e : VarsFault) → Refuses e (filled values t) → Refuses e (items_behind us (filled_items values (tree t ts)))
items-refused values us t ts e h =
    Refuses-bind e (filled_items values (tree t ts)) (λ more. Ok (trees_before us more)) (Refuses-bind e (filled values t) (λ x. filled_items values ts >>= λ more. Ok (tree x more)) h)

-- keys and values before others
abbrev pub fields_before : List Pair → Fields → Fields
fields_before [] fs = fs
fields_before (p ∷ ps) fs = field p.0 p.1 (fields_before ps fs)

abbrev pub fields_behind : List Pair → Result Fields VarsFault → Result Fields VarsFault
fields_behind ps r = r >>= λ fs. Ok (fields_before ps fs)

pub fields_behind-nil : (r : Result Fields VarsFault) → fields_behind [] r ≡ r
fields_behind-nil (Ok fs) = refl
fields_behind-nil (Err e) = refl

fields_before-push : (ps : List Pair) (key : List ℕ) (u : Tree) (fs : Fields) → fields_before ps (field key u fs) ≡ fields_before (ps ++ (key, u) ∷ []) fs
fields_before-push [] key u fs = refl
fields_before-push (p ∷ ps) key u fs = ap (field p.0 p.1) (fields_before-push ps key u fs)

pub fields_before-none : (ps : List Pair) → fields_before ps no_fields ≡ fields_of ps
fields_before-none [] = refl
fields_before-none (p ∷ ps) = ap (field p.0 p.1) (fields_before-none ps)

fields_behind-step : (ps : List Pair) (key : List ℕ) (u : Tree) (r : Result Fields VarsFault) → fields_behind ps (r >>= λ fs. Ok (field key u fs)) ≡ fields_behind (ps ++ (key, u) ∷ []) r
fields_behind-step ps key u (Ok fs) = ap Ok (fields_before-push ps key u fs)
fields_behind-step ps key u (Err e) = refl

pub fields-step : (values : Values) (ps : List Pair) (key : List ℕ) (u t : Tree) (fs : Fields) → filled values t ≡ Ok u → fields_behind ps (filled_fields values (field key t fs)) ≡ fields_behind (ps ++ (key, u) ∷ []) (filled_fields values fs)
fields-step values ps key u t fs is =
    ap (λ r. fields_behind ps (r >>= λ x. filled_fields values fs >>= λ more. Ok (field key x more))) is ∙ fields_behind-step ps key u (filled_fields values fs)

pub fields-refused : (values : Values) (ps : List Pair) (key : List ℕ) (t : Tree) (fs : Fields) (e : VarsFault) → Refuses e (filled values t) → Refuses e (fields_behind ps (filled_fields values (field key t fs)))
fields-refused values ps key t fs e h =
    Refuses-bind e (filled_fields values (field key t fs)) (λ more. Ok (fields_before ps more)) (Refuses-bind e (filled values t) (λ x. filled_fields values fs >>= λ more. Ok (field key x more)) h)

-- keys of pairs one after another
has_key-between : (key : List ℕ) (ps : List Pair) (p : Pair) (qs : List Pair) → has_key key (ps ++ p ∷ qs) ≡ false → bytes_eq p.0 key ≡ false
has_key-between key [] p qs h = (or_parts (bytes_eq p.0 key) (has_key key qs) h).0
has_key-between key (q ∷ ps) p qs h = has_key-between key ps p qs (or_parts (bytes_eq q.0 key) (has_key key (ps ++ p ∷ qs)) h).1

-- the next key is none of those before it
pub next_is_new : (ps : List Pair) (p : Pair) (qs : List Pair) → HasDistinctKeys (ps ++ p ∷ qs) → has_key p.0 ps ≡ false
next_is_new [] p qs d = refl
next_is_new (q ∷ ps) p qs d =
    or_both (bytes_eq q.0 p.0) (has_key p.0 ps) (bytes_eq_flips p.0 q.0 (has_key-between q.0 ps p qs d.0)) (next_is_new ps p qs d.1)

has_key-other : (key : List ℕ) (ps : List Pair) (k : List ℕ) (t u : Tree) (qs : List Pair) → has_key key ((ps ++ (k, u) ∷ []) ++ qs) ≡ has_key key (ps ++ (k, t) ∷ qs)
has_key-other key [] k t u qs = refl
has_key-other key (q ∷ ps) k t u qs = ap (λ b. bytes_eq q.0 key || b) (has_key-other key ps k t u qs)

-- another value changes no key
pub distinct_with : (ps : List Pair) (k : List ℕ) (t u : Tree) (qs : List Pair) → HasDistinctKeys (ps ++ (k, t) ∷ qs) → HasDistinctKeys ((ps ++ (k, u) ∷ []) ++ qs)
distinct_with [] k t u qs d = d
distinct_with (q ∷ ps) k t u qs d = (has_key-other q.0 ps k t u qs ∙ d.0, distinct_with ps k t u qs d.1)

-- no node of a list or a map outweighs it
pub weight_at : (ns : List Node) (i : ℕ) (n : Node) → i < length ns → n ≡ get_or ns i n → node_count (tree_of n) ≤ nodes_in_list (map tree_of ns)
weight_at [] i n h e = absurd (omega arith)
weight_at (m ∷ ns) zero n h e = rw e (omega arith)
weight_at (m ∷ ns) (suc i) n h e = omega (arith, weight_at ns i n (omega arith) e)

pub weight_at_key : (es : List (List ℕ × Node)) (i : ℕ) (e : List ℕ × Node) → i < length es → e ≡ get_or es i e → node_count (tree_of e.1) ≤ nodes_in_pairs (map pair_of es)
weight_at_key [] i e h is = absurd (omega arith)
weight_at_key (m ∷ es) zero e h is = rw is (omega arith)
weight_at_key (m ∷ es) (suc i) e h is = omega (arith, weight_at_key es i e (omega arith) is)

-- values that are alike fill alike
pub filled_alike : (r : Result Node VarsFault) (f g : Values) (t : Tree) → ((name : List ℕ) → f name ≡ g name) → Gives tree_of r (filled f t) → Gives tree_of r (filled g t)
filled_alike r f g t same h =
    let path : f ≡ g = λ k. λ name. same name k in
    subst (λ values. Gives tree_of r (filled values t)) path h
