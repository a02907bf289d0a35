-- Names in order, and how one is found among them.
use Rattle.std.proofs.Common.{◌≡◌, ⊎_elim, ◌∙◌, ap, refl, sym, subst, arith, ℕ, suc, ◌+◌, ◌-◌, ◌<◌, ◌≤◌, true, false, List, [], ◌∷◌, Option, Some, None, is_some, Result, Ok, Err, length, get_or}
use Rattle.std.specs.Cmp.Lexicographic.{slice_cmp}
use Rattle.std.specs.List.{Contains, HoldsAt}
use Rattle.std.specs.List.Sorted.{IsBinarySearchResult, IsNonDecreasingBy, IsPartitionPoint, IsSearchInRange}
use Rattle.std.specs.Ordering.{is_eq, is_lt, nat_cmp, ordering_index, ordering_reverse}
use Rattle.std.specs.Prelude.{IfNone, IfSome}
use Rattle.std.specs.Result.{result_ok}
use Rattle.std.specs.declared.cmp.Ordering.{Ordering}
use Rattle.std.specs.declared.cmp.Ordering.TheVariants.{Less, Equal, Greater}
use Rattle.std.proofs.lemmas.Bool.{cases_lt}
use Rattle.std.proofs.lemmas.Cmp.{nat_list_cmp_total}
use Rattle.std.proofs.lemmas.List.{get_or-map, get_or_default, length-map}
use Rattle.std.proofs.lemmas.List.Elements.{All-cons, All-nil, All-weaker}
use Rattle.std.proofs.lemmas.Map.Text.{is_eq-slice_cmp}
use Rattle.std.proofs.lemmas.Slice.Eq.{bytes_eq-Decides}
use denote.Ref.{Bor}
use Rattle.bosh_release_files.specs.Sources.{IsInOrder}
use Rattle.bosh_release_files.proofs.OrderLemmas.{ascends}
use Rattle.bosh_sound.specs.Places.{name_at, texts_of}

abbrev compare : List ℕ → List ℕ → Ordering
compare = slice_cmp nat_cmp

abbrev Follows : List ℕ → List ℕ → Type 0
Follows text later = compare text later ≡ Less

abbrev Names : Type 0
Names = List (Bor (List ℕ))

same_text : (x y : List ℕ) → compare x y ≡ Equal → x ≡ y
same_text x y h = (bytes_eq-Decides x y).0 (sym (is_eq-slice_cmp x y) ∙ ap is_eq h)

never_itself : (x : List ℕ) → Follows x x → ⊥
never_itself x h =
    let turned : Less ≡ Greater = sym h ∙ nat_list_cmp_total.antisymm x x ∙ ap ordering_reverse h in
    cc

never_above : (x : List ℕ) → compare x x ≡ Greater → ⊥
never_above x h =
    let turned : Greater ≡ Less = sym h ∙ nat_list_cmp_total.antisymm x x ∙ ap ordering_reverse h in
    cc

count : (names : Names) → length (texts_of names) ≡ length names
count names = length-map names (λ (name : Bor (List ℕ)). name.now)

text_at :
    (names : Names) (k : ℕ) (d : Bor (List ℕ)) → k < length names
    → name_at (texts_of names) k ≡ (get_or names k d).now
text_at names k d low = get_or-map (λ (name : Bor (List ℕ)). name.now) names k d [] low

-- the text at a place of which a name was read
read_at :
    (names : Names) (k : ℕ) (name : Bor (List ℕ)) → k < length names → name ≡ get_or names k name
    → name_at (texts_of names) k ≡ name.now
read_at names k name low at = text_at names k name low ∙ ap (λ (n : Bor (List ℕ)). n.now) (sym at)

-- ---- neighbours

-- each of the first texts is less than the next
abbrev pub Rise : List (List ℕ) → ℕ → Type 0
Rise texts n = (k : ℕ) → suc k < n → Follows (name_at texts k) (name_at texts (suc k))

pub in_order : (texts : List (List ℕ)) → Rise texts (length texts) → IsInOrder texts
in_order [] h = tt
in_order (text ∷ []) h = (All-nil (Follows text), tt)
in_order (text ∷ next ∷ texts) h =
    let first : Follows text next = h 0 (omega arith) in
    let later = in_order (next ∷ texts) (λ k low. h (suc k) (omega arith)) in
    let beyond = λ (last : List ℕ). nat_list_cmp_total.trans text next last first in
    (All-cons (Follows text) next texts first (All-weaker (Follows next) (Follows text) beyond texts later.0), later)

is_less : (o : Ordering) → is_lt o ≡ true → o ≡ Less
is_less Less h = refl
is_less Equal h = absurd cc
is_less Greater h = absurd cc

pub rise_more :
    (names : Names) (place : ℕ) (name next : Bor (List ℕ)) → 1 ≤ place → place < length names
    → name ≡ get_or names (place - 1) name → next ≡ get_or names place next
    → is_lt (compare name.now next.now) ≡ true → Rise (texts_of names) place → Rise (texts_of names) (place + 1)
rise_more names place name next first low at at_next less before k within =
    ⊎_elim
    (λ (lt : suc k < place). before k lt)
    (λ (ge : place ≤ suc k).
    let here : place - 1 ≡ k = omega arith in
    let there : place ≡ suc k = omega arith in
    let one : name_at (texts_of names) k ≡ name.now =
    ap (name_at (texts_of names)) (sym here) ∙ read_at names (place - 1) name (omega arith) at in
    let other : name_at (texts_of names) (suc k) ≡ next.now =
    ap (name_at (texts_of names)) (sym there) ∙ read_at names place next low at_next in
    ap (λ text. compare text (name_at (texts_of names) (suc k))) one ∙ ap (compare name.now) other
    ∙ is_less (compare name.now next.now) less)
    (cases_lt (suc k) place)

pub all_rise :
    (names : Names) (place : ℕ) → length names ≤ place → Rise (texts_of names) place → IsInOrder (texts_of names)
all_rise names place past h =
    in_order (texts_of names) (λ k within. h k (omega (arith, count names)))

pub out_of_order :
    (names : Names) (place : ℕ) (name next : Bor (List ℕ)) → 1 ≤ place → place < length names
    → name ≡ get_or names (place - 1) name → next ≡ get_or names place next
    → is_lt (compare name.now next.now) ≡ false → IsInOrder (texts_of names) → ⊥
out_of_order names place name next first low at at_next less order =
    let rises = ascends (texts_of names) (place - 1) place [] order (omega arith) (omega (arith, count names)) in
    let is : compare name.now next.now ≡ Less =
    ap (λ text. compare text next.now) (sym (read_at names (place - 1) name (omega arith) at))
    ∙ ap (compare (name_at (texts_of names) (place - 1))) (sym (read_at names place next low at_next)) ∙ rises in
    let never : true ≡ false = sym (ap is_lt is) ∙ less in
    cc

names_differ :
    (texts : List (List ℕ)) (i j : ℕ) → IsInOrder texts → i < j → j < length texts
    → name_at texts i ≡ name_at texts j → ⊥
names_differ texts i j order less within same =
    never_itself (name_at texts j)
    (subst (λ x. Follows x (name_at texts j)) same (ascends texts i j [] order less within))

-- one name stands at one place
pub one_place :
    (texts : List (List ℕ)) (i j : ℕ) → IsInOrder texts → i < length texts → j < length texts
    → name_at texts i ≡ name_at texts j → i ≡ j
one_place texts i j order low high same =
    ⊎_elim
    (λ (less : i < j). absurd (names_differ texts i j order less high same))
    (λ (le : j ≤ i).
    ⊎_elim
    (λ (less : j < i). absurd (names_differ texts j i order less low (sym same)))
    (λ (ge : i ≤ j). omega arith)
    (cases_lt j i))
    (cases_lt i j)

-- ---- a search among names in order

abbrev index_of : List ℕ → Bor (List ℕ) → ℕ
index_of name other = ordering_index (compare other.now name)

found :
    (names : Names) (name : List ℕ) (place : ℕ) → place < length names
    → HoldsAt (λ other. compare other.now name ≡ Equal) names place → name_at (texts_of names) place ≡ name
found names name place low is =
    let d : Bor (List ℕ) = record { ref_ptr = (0, 0); now = [] } in
    text_at names place d low ∙ same_text (get_or names place d).now name (is d)

not_lower : (x y name : List ℕ) → Follows x y → ordering_index (compare x name) ≤ ordering_index (compare y name)
not_lower x y name less = at (compare y name) refl
  where
    at : (o : Ordering) → compare y name ≡ o → ordering_index (compare x name) ≤ ordering_index o
    at Less is =
        let below = nat_list_cmp_total.trans x y name less is in
        subst (λ o. ordering_index o ≤ 0) (sym below) (omega arith)
    at Equal is =
        let below : compare x name ≡ Less = ap (compare x) (sym (same_text y name is)) ∙ less in
        subst (λ o. ordering_index o ≤ 1) (sym below) (omega arith)
    at Greater is = most (compare x name)
      where
        most : (o : Ordering) → ordering_index o ≤ 2
        most Less = omega arith
        most Equal = omega arith
        most Greater = omega arith

never_falls : (names : Names) (name : List ℕ) → IsInOrder (texts_of names) → IsNonDecreasingBy (index_of name) names
never_falls names name order i j d le low =
    ⊎_elim
    (λ (lt : i < j).
    let rises = ascends (texts_of names) i j [] order lt (omega (arith, count names)) in
    not_lower (get_or names i d).now (get_or names j d).now name
    (ap (λ text. compare text (get_or names j d).now) (sym (text_at names i d (omega arith)))
    ∙ ap (compare (name_at (texts_of names) i)) (sym (text_at names j d low)) ∙ rises))
    (λ (ge : j ≤ i). let same : i ≡ j = omega arith in omega (arith, ap (λ k. index_of name (get_or names k d)) same))
    (cases_lt i j)

missing :
    (names : Names) (name : List ℕ) (place : ℕ) → IsInOrder (texts_of names)
    → (IsNonDecreasingBy (index_of name) names
    → IsPartitionPoint (λ other. compare other.now name ≡ Less) (λ other. compare other.now name ≡ Greater) names place)
    → Contains (texts_of names) name → ⊥
missing names name place order parts (k, within, is) =
    let low : k < length names = omega (arith, within, count names) in
    let d : Bor (List ℕ) = record { ref_ptr = (0, 0); now = [] } in
    let here : (get_or names k d).now ≡ name =
    sym (text_at names k d low) ∙ get_or_default (texts_of names) k [] name within ∙ is in
    let (before, after) = parts (never_falls names name order) in
    ⊎_elim
    (λ (lt : k < place).
    never_itself name (subst (λ text. compare text name ≡ Less) here (before k d (omega arith) lt)))
    (λ (ge : place ≤ k). never_above name (subst (λ text. compare text name ≡ Greater) here (after k d ge low)))
    (cases_lt k place)

abbrev Searched : Names → List ℕ → Result ℕ ℕ → Type 0
Searched names name r =
    IsSearchInRange r (length names) × IsBinarySearchResult (λ other. compare other.now name) names r

-- the place of the name
abbrev IsAt : List (List ℕ) → List ℕ → ℕ → Type 0
IsAt texts name place = (place < length texts) × (name_at texts place ≡ name)

pub place_found :
    (names : Names) (name : List ℕ) (r : Result ℕ ℕ) (o : Option ℕ) → o ≡ result_ok r
    → Searched names name r
    → IfSome o (IsAt (texts_of names) name)
place_found names name (Ok place) o is (within, h) =
    subst (λ o. IfSome o (IsAt (texts_of names) name)) (sym is)
    (omega (arith, within, count names), found names name place within h)
place_found names name (Err place) o is h = subst (λ o. IfSome o (IsAt (texts_of names) name)) (sym is) tt

pub place_missing :
    (names : Names) (name : List ℕ) (r : Result ℕ ℕ) (o : Option ℕ) → o ≡ result_ok r
    → Searched names name r
    → IsInOrder (texts_of names) → IfNone o (¬ Contains (texts_of names) name)
place_missing names name (Ok place) o is h order =
    subst (λ o. IfNone o (¬ Contains (texts_of names) name)) (sym is) tt
place_missing names name (Err place) o is (within, h) order =
    subst (λ o. IfNone o (¬ Contains (texts_of names) name)) (sym is) (missing names name place order h)

pub known :
    (texts : List (List ℕ)) (name : List ℕ) (o : Option ℕ) → is_some o ≡ true
    → IfSome o (IsAt texts name) → Contains texts name
known texts name (Some place) h (within, is) = (place, within, get_or_default texts place name [] within ∙ is)
known texts name None h is = absurd cc

pub unknown :
    (texts : List (List ℕ)) (name : List ℕ) (o : Option ℕ) → is_some o ≡ false
    → IfNone o (¬ Contains texts name) → Contains texts name → ⊥
unknown texts name (Some place) h none = absurd cc
unknown texts name None h none = none
