-- Keys stay distinct when a new one is added at the end, and a key is found where it is.
use Rattle.std.proofs.Common.{◌≡◌, ℕ, Bool, true, false, ◌||◌, List, [], ◌∷◌, ◌++◌, map, refl, sym, ◌∙◌, ap, Option, Some, None, cond}
use Rattle.std.specs.Option.{is_some, option_map}
use Rattle.std.proofs.lemmas.List.{map_push}
use Rattle.bosh_yaml.specs.declared.node.Node.{Node}
use Rattle.bosh_yaml.specs.View.{pair_of}
use Rattle.std.specs.Str.{bytes_eq}
use Rattle.std.proofs.lemmas.Slice.Eq.{bytes_eq-Decides}
use Rattle.std.proofs.Math.Bool.{or-false}
use Rattle.bosh_yaml.specs.Tree.{Tree, fields_of}
use Rattle.bosh_yaml.specs.Keys.{has_key, HasDistinctKeys, value_at, field_value}

abbrev Pair : Type 0
Pair = List ℕ × Tree

pub not_true : (b : Bool) → (b ≡ true → ⊥) → b ≡ false
not_true true h = absurd (h refl)
not_true false h = refl

pub bytes_eq_flips : (a b : List ℕ) → bytes_eq a b ≡ false → bytes_eq b a ≡ false
bytes_eq_flips a b h =
    not_true (bytes_eq b a) (λ e. let t : bytes_eq a b ≡ true = (bytes_eq-Decides a b).1 (sym ((bytes_eq-Decides b a).0 e)) in cc)

pub or_parts : (a b : Bool) → (a || b) ≡ false → (a ≡ false) × (b ≡ false)
or_parts true b h = cc
or_parts false b h = (refl, h)

pub or_both : (a b : Bool) → a ≡ false → b ≡ false → (a || b) ≡ false
or_both a b p q = rw p q

or_regroup : (a b c : Bool) → (a || (b || c)) ≡ ((a || b) || c)
or_regroup true b c = refl
or_regroup false b c = refl

pub has_key-push : (key : List ℕ) (ps : List Pair) (p : Pair) → has_key key (ps ++ p ∷ []) ≡ (has_key key ps || bytes_eq p.0 key)
has_key-push key [] p = or-false (bytes_eq p.0 key)
has_key-push key (q ∷ ps) p =
    ap (λ x. bytes_eq q.0 key || x) (has_key-push key ps p) ∙ or_regroup (bytes_eq q.0 key) (has_key key ps) (bytes_eq p.0 key)

pub HasDistinctKeys-push : (ps : List Pair) (p : Pair) → HasDistinctKeys ps → has_key p.0 ps ≡ false → HasDistinctKeys (ps ++ p ∷ [])
HasDistinctKeys-push [] p d f = (refl, tt)
HasDistinctKeys-push (q ∷ ps) p d f =
    let parts = or_parts (bytes_eq q.0 p.0) (has_key p.0 ps) f in (
      has_key-push q.0 ps p ∙ or_both (has_key q.0 ps) (bytes_eq p.0 q.0) d.0 (bytes_eq_flips q.0 p.0 parts.0),
      HasDistinctKeys-push ps p d.1 parts.1,
    )

found_here : (b : Bool) (t : Tree) (rest : Option Tree) (more : Bool) → is_some rest ≡ more → is_some (cond b (Some t) rest) ≡ (b || more)
found_here true t rest more h = refl
found_here false t rest more h = h

pub is_some-value_at : (key : List ℕ) (ps : List Pair) → is_some (value_at key ps) ≡ has_key key ps
is_some-value_at key [] = refl
is_some-value_at key (p ∷ ps) = found_here (bytes_eq p.0 key) p.1 (value_at key ps) (has_key key ps) (is_some-value_at key ps)

pub found_field-fields_of : (key : List ℕ) (ps : List Pair) → field_value key (fields_of ps) ≡ value_at key ps
found_field-fields_of key [] = refl
found_field-fields_of key (p ∷ ps) = ap (λ x. cond (bytes_eq p.0 key) (Some p.1) x) (found_field-fields_of key ps)

pub is_some-option_map : {A B : Type 0} (f : A → B) (o : Option A) → is_some (option_map f o) ≡ is_some o
is_some-option_map f None = refl
is_some-option_map f (Some x) = refl

pub HasDistinctKeys-pushed : (added : Bool) (es : List (List ℕ × Node)) (e : List ℕ × Node) → HasDistinctKeys (map pair_of es) → has_key e.0 (map pair_of es) ≡ false → HasDistinctKeys (map pair_of (cond added (es ++ e ∷ []) es))
HasDistinctKeys-pushed true es e d f = rw map_push (HasDistinctKeys-push (map pair_of es) (pair_of e) d f)
HasDistinctKeys-pushed false es e d f = d
