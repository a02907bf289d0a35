-- Where a key of a map stands.
use Rattle.std.proofs.Common.{◌≡◌, ◌≤◌, ◌<◌, ℕ, zero, suc, ◌+◌, Bool, true, false, List, [], ◌∷◌, ◌++◌, Option, Some, None, length, map, take, drop, if◌then◌else◌, refl, ap, sym, ◌∙◌, subst, arith}
use Rattle.std.specs.Prelude.{slice_get}
use Rattle.std.proofs.Common.{append_assoc, nat_lt, cond}
use Rattle.std.specs.Ordering.{nat_cmp, is_eq, eq_by_cmp}
use Rattle.std.specs.Cmp.{eq_by_cmp_equiv}
use Rattle.std.specs.Map.{AreApart, IsKeyTest, KeepsOthers, lookup}
use Rattle.std.specs.Cmp.Lexicographic.{nat_list_cmp_total, slice_cmp}
use Rattle.std.proofs.lemmas.Map.Text.{is_eq-slice_cmp}
use Rattle.std.proofs.Common.{get_or, min}
use Rattle.std.specs.Prelude.{OnOk}
use Rattle.std.specs.Result.{is_err}
use Rattle.std.specs.Option.{option_map}
use Rattle.std.proofs.Common.{Result, Ok, Err}
use Rattle.std.proofs.lemmas.List.{length_push, map_push}
use Rattle.std.proofs.lemmas.Option.{slice_get-get_or, slice_get-map, slice_get_past}
use Rattle.bosh_yaml.specs.declared.node.Node.{Node}
use Rattle.bosh_yaml.specs.declared.places.Places.{Places}
use Rattle.bosh_yaml.specs.View.{pair_of, tree_of}
use Rattle.std.proofs.lemmas.Bool.Decides.{nat_tests}
use Rattle.std.specs.Str.{bytes_eq}
use Rattle.std.proofs.lemmas.Slice.Eq.{bytes_eq-Decides}
use Rattle.bosh_yaml.specs.Keys.{has_key, HasDistinctKeys, value_at}
use Rattle.bosh_yaml.specs.Places.{ArePlaced, IsNoted, place_in}
use Rattle.bosh_yaml.specs.Tree.{Tree}
use Rattle.bosh_yaml.proofs.KeyLemmas.{bytes_eq_flips, not_true, or_parts}

abbrev Pair : Type 0
Pair = List ℕ × Tree

abbrev Noted : Type 0
Noted = List ℕ → Option ℕ

-- each other key keeps its place
abbrev pub Keeps : Noted → Noted → List ℕ → Type 0
Keeps place next key = (other : List ℕ) (at : ℕ) → bytes_eq key other ≡ false → place other ≡ Some at → next other ≡ Some at

-- ---- one more key

placed_others : (place next : Noted) (key : List ℕ) (at : ℕ) (ps : List Pair) → Keeps place next key → has_key key ps ≡ false → ArePlaced place at ps → ArePlaced next at ps
placed_others place next key at [] same new h = tt
placed_others place next key at (p ∷ ps) same new h =
    let parts = or_parts (bytes_eq p.0 key) (has_key key ps) new in
    (same p.0 at (bytes_eq_flips p.0 key parts.0) h.0, placed_others place next key (suc at) ps same parts.1 h.1)

placed_push : (place : Noted) (at : ℕ) (ps : List Pair) (p : Pair) → ArePlaced place at ps → place p.0 ≡ Some (at + length ps) → ArePlaced place at (ps ++ p ∷ [])
placed_push place at [] p h n = let g : at + 0 ≡ at = omega arith in (n ∙ ap (λ k. Some k) g, tt)
placed_push place at (q ∷ ps) p h n = (h.0, placed_push place (suc at) ps p h.1 (let g : at + suc (length ps) ≡ suc at + length ps = omega arith in n ∙ ap (λ k. Some k) g))

has_none_behind : (n : ℕ) (key : List ℕ) (ps : List Pair) → has_key key ps ≡ false → has_key key (drop n ps) ≡ false
has_none_behind zero key ps h = h
has_none_behind (suc n) key [] h = refl
has_none_behind (suc n) key (p ∷ ps) h = has_none_behind n key ps (or_parts (bytes_eq p.0 key) (has_key key ps) h).1

drop_short : (n : ℕ) (ps : List Pair) (p : Pair) → length ps < n → drop n (ps ++ p ∷ []) ≡ []
drop_short zero ps p h = absurd (omega arith)
drop_short (suc zero) [] p h = refl
drop_short (suc (suc n)) [] p h = refl
drop_short (suc n) (q ∷ ps) p h = drop_short n ps p (omega arith)

drop_long : (n : ℕ) (ps : List Pair) (p : Pair) → n ≤ length ps → (drop n (ps ++ p ∷ []) ≡ drop n ps ++ p ∷ []) × (n + length (drop n ps) ≡ length ps)
drop_long zero ps p h = (refl, omega arith)
drop_long (suc n) [] p h = absurd (omega arith)
drop_long (suc n) (q ∷ ps) p h = let more = drop_long n ps p (omega arith) in (more.0, omega (arith, more.1))

-- the places of a map stay noted where a new key has noted its own
pub placed_noted : (n : ℕ) (place next : Noted) (ps : List Pair) (p : Pair) → Keeps place next p.0 → (n ≤ length ps → next p.0 ≡ Some (length ps)) → has_key p.0 ps ≡ false → ArePlaced place n (drop n ps) → ArePlaced next n (drop n ps) × ArePlaced next n (drop n (ps ++ p ∷ []))
placed_noted n place next ps p same noted new h = (kept, by (nat_lt (length ps) n) refl)
  where
    kept : ArePlaced next n (drop n ps)
    kept = placed_others place next p.0 n (drop n ps) same (has_none_behind n p.0 ps new) h

    by : (b : Bool) → nat_lt (length ps) n ≡ b → ArePlaced next n (drop n (ps ++ p ∷ []))
    by true e = rw (drop_short n ps p (grind (arith, nat_tests))) tt
    by false e =
        let long : n ≤ length ps = grind (arith, nat_tests) in
        let d = drop_long n ps p long in
        rw d.0 (placed_push next n (drop n ps) p kept (noted long ∙ ap (λ k. Some k) (sym d.1)))

pub placed_still : (n : ℕ) (place next : Noted) (ps : List Pair) (key : List ℕ) → Keeps place next key → has_key key ps ≡ false → ArePlaced place n (drop n ps) → ArePlaced next n (drop n ps)
placed_still n place next ps key same new h = placed_others place next key n (drop n ps) same (has_none_behind n key ps new) h

-- one note, as a map of keys tells it
pub noted_here : (next : Noted) (key : List ℕ) (at : ℕ) (before : Option ℕ) → next key ≡ cond (is_eq (slice_cmp nat_cmp key key)) (Some at) before → next key ≡ Some at
noted_here next key at before h = h ∙ rw (is_eq-slice_cmp key key, (bytes_eq-Decides key key).1 refl) refl

keeps : {K X : Type 0} (eq : K → K → Bool) (test : K → Bool) (old new : List (K × X)) → KeepsOthers eq test old new → (other : K → Bool) → IsKeyTest eq other → AreApart test other → lookup other new ≡ lookup other old
unfolding KeepsOthers
keeps eq test old new h = h

apart_key : (key other k : List ℕ) → bytes_eq key other ≡ false → is_eq (slice_cmp nat_cmp key k) ≡ true → is_eq (slice_cmp nat_cmp other k) ≡ false
apart_key key other k e y =
    is_eq-slice_cmp other k ∙ subst (λ x. bytes_eq other x ≡ false) ((bytes_eq-Decides key k).0 (sym (is_eq-slice_cmp key k) ∙ y)) (bytes_eq_flips key other e)

-- another key keeps its place
pub noted_elsewhere : {K : Type 0} (old new : List (K × ℕ)) (text : K → List ℕ) (key other : List ℕ) → KeepsOthers (eq_by_cmp (λ x y. slice_cmp nat_cmp (text x) (text y))) (λ k. is_eq (slice_cmp nat_cmp key (text k))) old new → bytes_eq key other ≡ false → lookup (λ k. is_eq (slice_cmp nat_cmp other (text k))) new ≡ lookup (λ k. is_eq (slice_cmp nat_cmp other (text k))) old
noted_elsewhere old new text key other h e =
    keeps _ _ old new h _ (λ x y. (eq_by_cmp_equiv nat_list_cmp_total).congr other (text x) (text y)) (λ k. apart_key key other (text k) e)

-- ---- a key is looked for

-- one that has no place is none of them
placed_none : (place : Noted) (key : List ℕ) (at : ℕ) (ps : List Pair) → ArePlaced place at ps → place key ≡ None → value_at key ps ≡ None
placed_none place key at [] h n = refl
placed_none place key at (p ∷ ps) h n = rw (other, placed_none place key (suc at) ps h.1 n) refl
  where
    other : bytes_eq p.0 key ≡ false
    other = not_true (bytes_eq p.0 key) (λ e. let same : p.0 ≡ key = (bytes_eq-Decides p.0 key).0 e in let k : place p.0 ≡ None = ap place same ∙ n in cc)

value_behind : (n : ℕ) (key : List ℕ) (ps : List Pair) → value_at key (take n ps) ≡ None → value_at key ps ≡ value_at key (drop n ps)
value_behind zero key ps h = refl
value_behind (suc n) key [] h = refl
value_behind (suc n) key (p ∷ ps) h = by (bytes_eq p.0 key) h (λ k. value_behind n key ps k)
  where
    by : (b : Bool) → (if b then Some p.1 else value_at key (take n ps)) ≡ None → (value_at key (take n ps) ≡ None → value_at key ps ≡ value_at key (drop n ps)) → (if b then Some p.1 else value_at key ps) ≡ value_at key (drop n ps)
    by true h more = absurd (cc)
    by false h more = more h

pub unplaced : (n : ℕ) (place : Noted) (key : List ℕ) (ps : List Pair) → ArePlaced place n (drop n ps) → value_at key (take n ps) ≡ None → place key ≡ None → value_at key ps ≡ None
unplaced n place key ps h t k = value_behind n key ps t ∙ placed_none place key n (drop n ps) h k

-- one that has a place stands there or nowhere
at_front : (front : List Pair) (p : Pair) (ps : List Pair) → slice_get (front ++ p ∷ ps) (length front) ≡ Some p
at_front [] p ps = refl
at_front (q ∷ front) p ps = at_front front p ps

placed_there : (place : Noted) (key : List ℕ) (there : ℕ) (all front ps : List Pair) → all ≡ front ++ ps → ArePlaced place (length front) ps → place key ≡ Some there → ((p : Pair) → slice_get all there ≡ Some p → bytes_eq p.0 key ≡ false) → value_at key ps ≡ None
placed_there place key there all front [] a h k none = refl
placed_there place key there all front (p ∷ ps) a h k none = rw (other, placed_there place key there all (front ++ p ∷ []) ps (a ∙ sym (append_assoc front (p ∷ []) ps)) (let g : suc (length front) ≡ length (front ++ p ∷ []) = grind (arith, length_push front p) in subst (λ n. ArePlaced place n ps) g h.1) k none) refl
  where
    other : bytes_eq p.0 key ≡ false
    other = not_true (bytes_eq p.0 key) (λ e.
        let same : p.0 ≡ key = (bytes_eq-Decides p.0 key).0 e in
        let here : Some (length front) ≡ Some there = sym h.0 ∙ ap place same ∙ k in
        let at : length front ≡ there = cc in
        let no = none p (ap (λ k. slice_get all k) (sym at) ∙ ap (λ xs. slice_get xs (length front)) a ∙ at_front front p ps) in
        absurd (cc))

take_front : (n : ℕ) (ps : List Pair) → n ≤ length ps → (ps ≡ take n ps ++ drop n ps) × (length (take n ps) ≡ n)
take_front zero ps h = (refl, refl)
take_front (suc n) [] h = absurd (omega arith)
take_front (suc n) (p ∷ ps) h = let more = take_front n ps (omega arith) in (ap (λ qs. p ∷ qs) more.0, ap (λ k. suc k) more.1)

drop_all : (n : ℕ) (ps : List Pair) → length ps < n → drop n ps ≡ []
drop_all zero ps h = absurd (omega arith)
drop_all (suc n) [] h = refl
drop_all (suc n) (p ∷ ps) h = drop_all n ps (omega arith)

pub misplaced : (n : ℕ) (place : Noted) (key : List ℕ) (there : ℕ) (ps : List Pair) → ArePlaced place n (drop n ps) → value_at key (take n ps) ≡ None → place key ≡ Some there → ((p : Pair) → slice_get ps there ≡ Some p → bytes_eq p.0 key ≡ false) → value_at key ps ≡ None
misplaced n place key there ps h t k none = value_behind n key ps t ∙ by (nat_lt (length ps) n) refl
  where
    by : (b : Bool) → nat_lt (length ps) n ≡ b → value_at key (drop n ps) ≡ None
    by true e = rw (drop_all n ps (grind (arith, nat_tests))) refl
    by false e =
        let f = take_front n ps (grind (arith, nat_tests)) in
        placed_there place key there ps (take n ps) (drop n ps) f.0 (rw f.1 h) k none

apart : (key : List ℕ) (i : ℕ) (ps : List Pair) (p : Pair) → has_key key ps ≡ false → slice_get ps i ≡ Some p → bytes_eq p.0 key ≡ false
apart key i [] p h g = absurd (cc)
apart key zero (r ∷ ps) p h g = let same : r ≡ p = cc in rw same at (or_parts (bytes_eq r.0 key) (has_key key ps) h).0
apart key (suc i) (r ∷ ps) p h g = apart key i ps p (or_parts (bytes_eq r.0 key) (has_key key ps) h).1 g

-- keys are distinct, so the value at a key is wherever the key stands
pub value_there : (key : List ℕ) (ps : List Pair) (there : ℕ) (p : Pair) → HasDistinctKeys ps → slice_get ps there ≡ Some p → bytes_eq p.0 key ≡ true → value_at key ps ≡ Some p.1
value_there key [] there p d g e = absurd (cc)
value_there key (q ∷ ps) zero p d g e = let same : q ≡ p = cc in rw (same, e) refl
value_there key (q ∷ ps) (suc there) p d g e = rw (other (apart q.0 there ps p d.0 g)) (value_there key ps there p d.1 g e)
  where
    other : bytes_eq p.0 q.0 ≡ false → bytes_eq q.0 key ≡ false
    other apart_so = not_true (bytes_eq q.0 key) (λ f.
        let one : p.0 ≡ key = (bytes_eq-Decides p.0 key).0 e in
        let two : q.0 ≡ key = (bytes_eq-Decides q.0 key).0 f in
        let both : bytes_eq p.0 q.0 ≡ true = (bytes_eq-Decides p.0 q.0).1 (one ∙ sym two) in
        absurd (cc))

-- a key stands not among those before it
pub distinct_before : (ps : List Pair) (i : ℕ) (p : Pair) → HasDistinctKeys ps → slice_get ps i ≡ Some p → has_key p.0 (take i ps) ≡ false
distinct_before [] i p d g = absurd (cc)
distinct_before (q ∷ ps) zero p d g = refl
distinct_before (q ∷ ps) (suc i) p d g = rw (bytes_eq_flips p.0 q.0 (apart q.0 i ps p d.0 g), distinct_before ps i p d.1 g) refl

-- ---- the entries that hold them

abbrev Entry : Type 0
Entry = List ℕ × Node

pair_within : (ds : List Entry) (k : ℕ) (e : Entry) → k < length ds → e ≡ get_or ds k e → slice_get (map pair_of ds) k ≡ Some (pair_of e)
pair_within ds k e l g =
    let at : slice_get ds k ≡ Some e = slice_get-get_or ds k e l ∙ ap (λ x. Some x) (sym g) in
    slice_get-map pair_of ds k ∙ ap (λ o. option_map pair_of o) at

pub pair_got : (es ds : List Entry) (all : List Pair) (k : ℕ) (e : Entry) → ds ≡ es → map pair_of es ≡ all → true ≡ nat_lt k (length ds) → e ≡ get_or ds k e → slice_get all k ≡ Some (pair_of e)
pair_got es ds all k e d v l g =
    let within : k < length ds = grind (arith, nat_tests) in
    ap (λ ps. slice_get ps k) (sym v) ∙ ap (λ xs. slice_get (map pair_of xs) k) (sym d) ∙ pair_within ds k e within g

pub pair_missed : (es ds : List Entry) (all : List Pair) (k : ℕ) → ds ≡ es → map pair_of es ≡ all → false ≡ nat_lt k (length ds) → slice_get all k ≡ None
pair_missed es ds all k d v l =
    let past : length ds ≤ k = grind (arith, nat_tests) in
    ap (λ ps. slice_get ps k) (sym v) ∙ ap (λ xs. slice_get (map pair_of xs) k) (sym d) ∙ slice_get-map pair_of ds k ∙ ap (λ o. option_map pair_of o) (slice_get_past ds k past)

noted_all : (places : Places) (es : List Entry) (all : List Pair) → map pair_of es ≡ all → IsNoted places 8 (map pair_of es) → ArePlaced (place_in places) 8 (drop 8 all)
noted_all places es all v h = subst (λ ps. ArePlaced (place_in places) 8 (drop 8 ps)) v h.noted

pub finds_no_place : (places : Places) (key : List ℕ) (es : List Entry) (all : List Pair) → map pair_of es ≡ all → IsNoted places 8 (map pair_of es) → value_at key (take 8 all) ≡ None → None ≡ place_in places key → None ≡ value_at key all
finds_no_place places key es all v h t k = sym (unplaced 8 (place_in places) key all (noted_all places es all v h) t (sym k))

pub finds_past : (places : Places) (key : List ℕ) (there : ℕ) (es ds : List Entry) (all : List Pair) → ds ≡ es → map pair_of es ≡ all → IsNoted places 8 (map pair_of es) → value_at key (take 8 all) ≡ None → Some there ≡ place_in places key → false ≡ nat_lt there (length ds) → None ≡ value_at key all
finds_past places key there es ds all d v h t k l =
    let missed = pair_missed es ds all there d v l in
    sym (misplaced 8 (place_in places) key there all (noted_all places es all v h) t (sym k) (λ p g. absurd (both p g missed)))
  where
    both : (p : Pair) → slice_get all there ≡ Some p → slice_get all there ≡ None → ⊥
    both p g m = cc

pub finds_other : (places : Places) (key : List ℕ) (there : ℕ) (es ds : List Entry) (all : List Pair) (e : Entry) → ds ≡ es → map pair_of es ≡ all → IsNoted places 8 (map pair_of es) → value_at key (take 8 all) ≡ None → Some there ≡ place_in places key → true ≡ nat_lt there (length ds) → e ≡ get_or ds there e → false ≡ bytes_eq e.0 key → None ≡ value_at key all
finds_other places key there es ds all e d v h t k l g b =
    let got = pair_got es ds all there e d v l g in
    sym (misplaced 8 (place_in places) key there all (noted_all places es all v h) t (sym k) (λ p q. other p q got))
  where
    other : (p : Pair) → slice_get all there ≡ Some p → slice_get all there ≡ Some (pair_of e) → bytes_eq p.0 key ≡ false
    other p q got = let same : pair_of e ≡ p = cc in subst (λ (r : Pair). bytes_eq r.0 key ≡ false) same (sym b)

pub finds_it : (key : List ℕ) (there : ℕ) (es ds : List Entry) (all : List Pair) (e : Entry) → ds ≡ es → map pair_of es ≡ all → HasDistinctKeys (map pair_of es) → true ≡ nat_lt there (length ds) → e ≡ get_or ds there e → true ≡ bytes_eq e.0 key → Some (tree_of e.1) ≡ value_at key all
finds_it key there es ds all e d v h l g b =
    sym (value_there key all there (pair_of e) (subst HasDistinctKeys v h) (pair_got es ds all there e d v l g) (sym b))

-- the first few
take_min : (n : ℕ) (es : List Entry) → take (min (length es) n) es ≡ take n es
take_min zero es = let g : min (length es) 0 ≡ 0 = omega arith in rw g refl
take_min (suc n) [] = let g : min 0 (suc n) ≡ 0 = omega arith in rw g refl
take_min (suc n) (e ∷ es) = let g : min (suc (length es)) (suc n) ≡ suc (min (length es) n) = omega arith in rw g (ap (λ fs. e ∷ fs) (take_min n es))

map_take : (n : ℕ) (es : List Entry) → map pair_of (take n es) ≡ take n (map pair_of es)
map_take zero es = refl
map_take (suc n) [] = refl
map_take (suc n) (e ∷ es) = ap (λ ps. pair_of e ∷ ps) (map_take n es)

few : (n few : ℕ) (es ds : List Entry) (all : List Pair) → ds ≡ es → map pair_of es ≡ all → few ≡ min (length es) n → map pair_of (take few ds) ≡ take n all
few n m es ds all d v f =
    ap (λ xs. map pair_of (take m xs)) d ∙ ap (λ k. map pair_of (take k es)) f ∙ ap (λ xs. map pair_of xs) (take_min n es) ∙ map_take n es ∙ ap (λ ps. take n ps) v

pub none_of_few : (n m : ℕ) (key : List ℕ) (es ds : List Entry) (all : List Pair) → ds ≡ es → map pair_of es ≡ all → m ≡ min (length es) n → None ≡ value_at key (map pair_of (take m ds)) → value_at key (take n all) ≡ None
none_of_few n m key es ds all d v f h = ap (λ ps. value_at key ps) (sym (few n m es ds all d v f)) ∙ sym h

value_in_front : (n : ℕ) (key : List ℕ) (ps : List Pair) (t : Tree) → value_at key (take n ps) ≡ Some t → value_at key ps ≡ Some t
value_in_front zero key ps t h = absurd (cc)
value_in_front (suc n) key [] t h = absurd (cc)
value_in_front (suc n) key (p ∷ ps) t h = by (bytes_eq p.0 key) h (λ k. value_in_front n key ps t k)
  where
    by : (b : Bool) → (if b then Some p.1 else value_at key (take n ps)) ≡ Some t → (value_at key (take n ps) ≡ Some t → value_at key ps ≡ Some t) → (if b then Some p.1 else value_at key ps) ≡ Some t
    by true h more = h
    by false h more = more h

pub one_of_few : (n m : ℕ) (key : List ℕ) (es ds : List Entry) (all : List Pair) (t : Tree) → ds ≡ es → map pair_of es ≡ all → m ≡ min (length es) n → Some t ≡ value_at key (map pair_of (take m ds)) → Some t ≡ value_at key all
one_of_few n m key es ds all t d v f h = sym (value_in_front n key all t (ap (λ ps. value_at key ps) (sym (few n m es ds all d v f)) ∙ sym h))

-- a new entry
on_ok : {A : Type 0} {E : Type 0} (P : Type 0) (r : Result A E) → is_err r ≡ false → OnOk r P → P
on_ok P (Ok x) e h = h
on_ok P (Err x) e h = absurd (cc)

pub noted_still : (places next : Places) (key : List ℕ) (es : List Entry) → Keeps (place_in places) (place_in next) key → has_key key (map pair_of es) ≡ false → IsNoted places 8 (map pair_of es) → IsNoted next 8 (map pair_of es)
noted_still places next key es same new h = record { noted = placed_still 8 (place_in places) (place_in next) (map pair_of es) key same new h.noted }

length_pairs : (es : List Entry) → length (map pair_of es) ≡ length es
length_pairs [] = refl
length_pairs (e ∷ es) = ap (λ n. suc n) (length_pairs es)

pub noted_pushed : {A : Type 0} {E : Type 0} (added : Bool) (places next : Places) (at : ℕ) (es : List Entry) (e : Entry) (r : Result A E) → Keeps (place_in places) (place_in next) e.0 → is_err r ≡ false → OnOk r (8 ≤ at → place_in next e.0 ≡ Some at) → at ≡ length es → has_key e.0 (map pair_of es) ≡ false → IsNoted places 8 (map pair_of es) → IsNoted next 8 (map pair_of (cond added (es ++ e ∷ []) es))
noted_pushed added places next at es e r same ok noted a new h =
    let n : at ≡ length (map pair_of es) = a ∙ sym (length_pairs es) in
    let here : 8 ≤ length (map pair_of es) → place_in next e.0 ≡ Some (length (map pair_of es)) = subst (λ k. 8 ≤ k → place_in next e.0 ≡ Some k) n (on_ok (8 ≤ at → place_in next e.0 ≡ Some at) r ok noted) in
    by added (placed_noted 8 (place_in places) (place_in next) (map pair_of es) (pair_of e) same here new h.noted)
  where
    by : (b : Bool) → ArePlaced (place_in next) 8 (drop 8 (map pair_of es)) × ArePlaced (place_in next) 8 (drop 8 (map pair_of es ++ pair_of e ∷ [])) → IsNoted next 8 (map pair_of (cond b (es ++ e ∷ []) es))
    by true q = rw map_push (record { noted = q.1 })
    by false q = record { noted = q.0 }

-- a key that is copied is none of those before it
pub copies_new : (es ds : List Entry) (i : ℕ) (e : Entry) (copied : List Pair) → HasDistinctKeys (map pair_of es) → ds ≡ es → i < length ds → e ≡ get_or ds i e → copied ≡ map pair_of (take i ds) → has_key e.0 copied ≡ false
copies_new es ds i e copied h d l g c =
    let distinct : HasDistinctKeys (map pair_of ds) = subst (λ (xs : List Entry). HasDistinctKeys (map pair_of xs)) (sym d) h in
    ap (λ ps. has_key e.0 ps) (c ∙ map_take i ds) ∙ distinct_before (map pair_of ds) i (pair_of e) distinct (pair_within ds i e l g)
