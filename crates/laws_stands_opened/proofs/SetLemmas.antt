-- Tables in which each of several items is told its place.
use Rattle.std.proofs.Common.{◌≡◌, ◌∙◌, ℕ, ◌+◌, Bool, true, false, ◌&&◌, ◌||◌, not, List, [], ◌∷◌, filter, map}
use Rattle.std.proofs.Common.{Option, Some, None}
use Rattle.std.proofs.Common.{ap, arith, refl, sym}
use Rattle.std.specs.Prelude.{cond, eqb, fold, is_some, option_map, suc, if◌then◌else◌}
use Rattle.std.specs.BTreeMap.{is_at}
use Rattle.std.specs.List.{enumerate_from}
use Rattle.std.specs.Option.{option_and_then}
use Rattle.std.specs.Ordering.{nat_cmp}
use Rattle.std.specs.declared.cmp.Ordering.{Ordering}
use Rattle.std.proofs.lemmas.Bool.{and_parts, eqb-true, false≢true, not-true, true≢false}
use Rattle.bosh_history.specs.Words.{is_among}
use Rattle.bosh_progress.specs.Tree.{first_marked}
use Rattle.bosh_records.specs.Table.{altered, found, put_at, thing_in}
use Rattle.bosh_rows.specs.SoundSnapshot.{are_distinct}
use Rattle.laws_stands.specs.LineStands.{place_of}
use Rattle.laws_stands.specs.Once.{IsOnce}
use Rattle.laws_stands_on.proofs.TableLemmas.{TellsKeys, found_altered, nat_at, nat_keys}

-- a place counted from nothing is that place
pub from_zero : (o : Option ℕ) → option_map (λ p. 0 + p) o ≡ o
from_zero (Some p) = ap Some (none p)
  where
    none : (p : ℕ) → 0 + p ≡ p
    none p = omega arith
from_zero None = refl

pub shifted : (n : ℕ) (o : Option ℕ) → option_map (λ p. n + 1 + p) o ≡ option_map (λ p. n + p) (option_map suc o)
shifted n (Some p) = ap Some (moved p)
  where
    moved : (p : ℕ) → n + 1 + p ≡ n + suc p
    moved p = omega arith
shifted n None = refl

pub same_list : {A : Type 0} (xs : List A) → map (λ x. x) xs ≡ xs
same_list [] = refl
same_list (x ∷ xs) = ap (λ ys. x ∷ ys) (same_list xs)

-- one that is not listed has no place
pub no_place : {A : Type 0} (same : A → A → Bool) (x : A) (xs : List A) → is_among same x xs ≡ false
    → place_of same x xs ≡ None
no_place same x [] none = refl
no_place same x (y ∷ xs) none = by (same x y) none (no_place same x xs)
  where
    by : (b : Bool) → (b || is_among same x xs) ≡ false → (is_among same x xs ≡ false → place_of same x xs ≡ None)
        → first_marked (b ∷ map (same x) xs) ≡ None
    by true none more = absurd (true≢false none)
    by false none more = ap (option_map suc) (more none)

-- .. and one that has a place is listed
pub place_among : {A : Type 0} (same : A → A → Bool) (x : A) (xs : List A) → is_some (place_of same x xs) ≡ true
    → is_among same x xs ≡ true
place_among same x xs is = by (is_among same x xs) refl
  where
    by : (b : Bool) → is_among same x xs ≡ b → b ≡ true
    by true among = refl
    by false none = absurd (false≢true (sym (ap is_some (no_place same x xs none)) ∙ is))

module _ {A K X : Type 0} (cmp : K → K → Ordering) (tells : TellsKeys cmp) (test : K → K → Bool)
    (same_as : (a b : K) → is_at (cmp a) b ≡ test b a) (key : A → K) (change : ℕ → X → X) where
  -- each item is told its place, from a number on
  abbrev pub sets : ℕ → List A → List (K × X) → List (K × X)
  sets n items es = fold (λ es item. altered cmp (key item.1) (change item.0) es) es (enumerate_from n items)

  -- something is said at a place, where there is one
  abbrev pub placed : Option ℕ → Option X → Option X
  placed None o = o
  placed (Some p) o = option_map (change p) o

  -- the first place of a key
  abbrev pub place_in : K → List A → Option ℕ
  place_in k items = first_marked (map (λ item. test k (key item)) items)

  nowhere : (k : K) (items : List A) → is_among test k (map key items) ≡ false → place_in k items ≡ None
  nowhere k [] none = refl
  nowhere k (item ∷ items) none = by (test k (key item)) none (nowhere k items)
    where
      by : (b : Bool) → (b || is_among test k (map key items)) ≡ false
          → (is_among test k (map key items) ≡ false → place_in k items ≡ None)
          → first_marked (b ∷ map (λ item. test k (key item)) items) ≡ None
      by true none more = absurd (true≢false none)
      by false none more = ap (option_map suc) (more none)

  one_set : (n : ℕ) (item : A) (es : List (K × X)) (k : K) → found cmp (altered cmp (key item) (change n) es) k
      ≡ (if test k (key item) then option_map (change n) (found cmp es k) else found cmp es k)
  one_set n item es k = found_altered cmp tells (key item) (change n) es k
      ∙ (λ j. if same_as (key item) k j then option_map (change n) (found cmp es k) else found cmp es k)

  -- just what stands at its keys changes
  pub found_set : (n : ℕ) (items : List A) (es : List (K × X)) (k : K) → are_distinct test (map key items) ≡ true
      → found cmp (sets n items es) k ≡ placed (option_map (λ p. n + p) (place_in k items)) (found cmp es k)
  found_set n [] es k apart = refl
  found_set n (item ∷ items) es k apart =
      let (first, rest) = and_parts (not (is_among test (key item) (map key items))) (are_distinct test (map key items)) apart in
      found_set (n + 1) items (altered cmp (key item) (change n) es) k rest
      ∙ by (test k (key item)) refl (not-true (is_among test (key item) (map key items)) first)
    where
      by : (b : Bool) → test k (key item) ≡ b → is_among test (key item) (map key items) ≡ false
          → placed (option_map (λ p. n + 1 + p) (place_in k items)) (found cmp (altered cmp (key item) (change n) es) k)
          ≡ placed (option_map (λ p. n + p) (first_marked (b ∷ map (λ item. test k (key item)) items))) (found cmp es k)
      by true same first =
          (λ j. placed (option_map (λ p. n + 1 + p) (none j)) (one_set n item es k j))
          ∙ (λ j. if same j then option_map (change n) (found cmp es k) else found cmp es k)
          ∙ ap (λ m. option_map (change m) (found cmp es k)) zero
        where
          none : place_in k items ≡ None
          none = nowhere k items (ap (λ k. is_among test k (map key items))
              (sym (tells (key item) k (same_as (key item) k ∙ same))) ∙ first)

          zero : n ≡ n + 0
          zero = omega arith
      by false other first =
          (λ j. placed (option_map (λ p. n + 1 + p) (place_in k items)) (one_set n item es k j))
          ∙ (λ j. placed (option_map (λ p. n + 1 + p) (place_in k items))
          (if other j then option_map (change n) (found cmp es k) else found cmp es k))
          ∙ ap (λ o. placed o (found cmp es k)) (shifted n (place_in k items))

  -- what no place changes is read as before
  pub placed_kept : {Y : Type 0} (read : X → Option Y) → ((p : ℕ) (x : X) → read (change p x) ≡ read x)
      → (o : Option ℕ) (x : Option X) → option_and_then read (placed o x) ≡ option_and_then read x
  placed_kept read same (Some p) (Some x) = same p x
  placed_kept read same (Some p) None = refl
  placed_kept read same None x = refl

-- items that are keys themselves
module _ {K X : Type 0} (cmp : K → K → Ordering) (tells : TellsKeys cmp) (test : K → K → Bool)
    (same_as : (a b : K) → is_at (cmp a) b ≡ test b a) (change : ℕ → X → X) where
  pub found_placed : (items : List K) (es : List (K × X)) (k : K) → are_distinct test items ≡ true
      → found cmp (sets cmp tells test same_as (λ key. key) change 0 items es) k
      ≡ placed cmp tells test same_as (λ (key : K). key) change (place_of test k items) (found cmp es k)
  found_placed items es k apart =
      found_set cmp tells test same_as (λ key. key) change 0 items es k (ap (are_distinct test) (same_list items) ∙ apart)
      ∙ ap (λ o. placed cmp tells test same_as (λ (key : K). key) change o (found cmp es k)) (from_zero (place_of test k items))

-- .. in a table whose places may be free
module _ {K V : Type 0} (cmp : K → K → Ordering) (tells : TellsKeys cmp) (test : K → K → Bool)
    (same_as : (a b : K) → is_at (cmp a) b ≡ test b a) (change : ℕ → V → V) where
  -- each item is told its place, where its place is not free
  abbrev pub things_set : List K → List (K × Option V) → List (K × Option V)
  things_set items places = sets cmp tells test same_as (λ key. key) (λ p. option_map (change p)) 0 items places

  -- something is said of a thing, where it has a place
  abbrev pub thing_placed : Option ℕ → Option V → Option V
  thing_placed None o = o
  thing_placed (Some p) o = option_map (change p) o

  pub thing_found : (items : List K) (places : List (K × Option V)) (k : K) → are_distinct test items ≡ true
      → thing_in cmp (things_set items places) k ≡ thing_placed (place_of test k items) (thing_in cmp places k)
  thing_found items places k apart =
      ap (option_and_then (λ place. place)) (found_placed cmp tells test same_as (λ p. option_map (change p)) items places k apart)
      ∙ by (place_of test k items) (found cmp places k)
    where
      by : (place : Option ℕ) (o : Option (Option V))
          → option_and_then (λ place. place)
          (placed cmp tells test same_as (λ (key : K). key) (λ p. option_map (change p)) place o)
          ≡ thing_placed place (option_and_then (λ place. place) o)
      by (Some p) (Some (Some v)) = refl
      by (Some p) (Some None) = refl
      by (Some p) None = refl
      by None o = refl

  -- what no place changes is read as before
  pub thing_kept : {Y : Type 0} (read : V → Option Y) → ((p : ℕ) (v : V) → read (change p v) ≡ read v)
      → (place : Option ℕ) (o : Option V) → option_and_then read (thing_placed place o) ≡ option_and_then read o
  thing_kept read same (Some p) (Some v) = same p v
  thing_kept read same (Some p) None = refl
  thing_kept read same None o = refl

-- ---- the things of a table that pass a test, by their keys

module _ {K V : Type 0} (cmp : K → K → Ordering) (test : K → K → Bool) (same_at : (a b : K) → is_at (cmp a) b ≡ test a b)
    (passes : Option V → Bool) where
  -- the keys at which something stands that passes
  abbrev pub keys_passing : List (K × Option V) → List K
  keys_passing places = map (λ place. place.0) (filter (λ place. passes place.1) places)

  none_passing : (k : K) (places : List (K × Option V)) → found cmp places k ≡ None
      → is_among test k (keys_passing places) ≡ false
  none_passing k [] none = refl
  none_passing k (e ∷ places) none =
      by (test k e.0) refl (passes e.1) ((λ j. cond (sym (same_at k e.0) j) (Some e.1) (found cmp places k)) ∙ none)
      (none_passing k places)
    where
      by : (a : Bool) → test k e.0 ≡ a → (b : Bool) → cond (test k e.0) (Some e.1) (found cmp places k) ≡ None
          → (found cmp places k ≡ None → is_among test k (keys_passing places) ≡ false)
          → is_among test k (map (λ place. place.0)
          (if b then e ∷ filter (λ place. passes place.1) places else filter (λ place. passes place.1) places)) ≡ false
      by true own b none more =
          let never : Some e.1 ≡ None = (λ j. cond (sym own j) (Some e.1) (found cmp places k)) ∙ none in absurd cc
      by false other true none more =
          (λ j. other j || is_among test k (keys_passing places))
          ∙ more ((λ j. cond (sym other j) (Some e.1) (found cmp places k)) ∙ none)
      by false other false none more = more ((λ j. cond (sym other j) (Some e.1) (found cmp places k)) ∙ none)

  -- no key stands twice
  pub passing_apart : (places : List (K × Option V)) → IsOnce cmp places → are_distinct test (keys_passing places) ≡ true
  passing_apart [] once = refl
  passing_apart (e ∷ places) (none, once) = by (passes e.1) (passing_apart places once)
    where
      by : (b : Bool) → are_distinct test (keys_passing places) ≡ true
          → are_distinct test (map (λ place. place.0)
          (if b then e ∷ filter (λ place. passes place.1) places else filter (λ place. passes place.1) places)) ≡ true
      by true more = λ j. not (none_passing e.0 places none j) && more j
      by false more = more

  -- .. and what stands at one of them passes
  pub passes_there : (places : List (K × Option V)) → IsOnce cmp places → ((a b : K) → test a b ≡ true → a ≡ b)
      → (k : K) (v : V) → is_among test k (keys_passing places) ≡ true → thing_in cmp places k ≡ Some v
      → passes (Some v) ≡ true
  passes_there [] once decides k v is there = absurd (false≢true is)
  passes_there (e ∷ places) (none, once) decides k v is there =
      by (test k e.0) refl (passes e.1) refl is
      ((λ j. option_and_then (λ (place : Option V). place) (cond (sym (same_at k e.0) j) (Some e.1) (found cmp places k)))
      ∙ there)
      (passes_there places once decides k v)
    where
      by : (a : Bool) → test k e.0 ≡ a → (b : Bool) → passes e.1 ≡ b
          → is_among test k (map (λ place. place.0)
          (if b then e ∷ filter (λ place. passes place.1) places else filter (λ place. passes place.1) places)) ≡ true
          → option_and_then (λ (place : Option V). place) (cond (test k e.0) (Some e.1) (found cmp places k)) ≡ Some v
          → (is_among test k (keys_passing places) ≡ true → thing_in cmp places k ≡ Some v → passes (Some v) ≡ true)
          → passes (Some v) ≡ true
      by true own true pass is there more =
          ap passes (sym there
          ∙ (λ j. option_and_then (λ (place : Option V). place) (cond (own j) (Some e.1) (found cmp places k))))
          ∙ pass
      by true own false fails is there more =
          absurd (false≢true (sym (ap (λ k. is_among test k (keys_passing places)) (decides k e.0 own)
          ∙ none_passing e.0 places none) ∙ is))
      by false other true pass is there more =
          more ((λ j. sym other j || is_among test k (keys_passing places)) ∙ is)
          ((λ j. option_and_then (λ (place : Option V). place) (cond (sym other j) (Some e.1) (found cmp places k))) ∙ there)
      by false other false fails is there more =
          more is
          ((λ j. option_and_then (λ (place : Option V). place) (cond (sym other j) (Some e.1) (found cmp places k))) ∙ there)

-- ---- a thing that comes to its place

pub thing_put : {V : Type 0} (key : ℕ) (v : V) (places : List (ℕ × Option V)) → is_some (found nat_cmp places key) ≡ true
    → (x : ℕ) → thing_in nat_cmp (put_at nat_cmp key v places) x ≡ (if eqb key x then Some v else thing_in nat_cmp places x)
thing_put {V} key v places room x =
    ap (option_and_then (λ place. place)) (found_altered nat_cmp nat_keys key (λ _. Some v) places x)
    ∙ (λ j. option_and_then (λ place. place) (if nat_at key x j then option_map (λ _. Some v) (found nat_cmp places x)
    else found nat_cmp places x))
    ∙ by (eqb key x) refl
  where
    own : (o : Option (Option V)) → is_some o ≡ true
        → option_and_then (λ place. place) (option_map (λ _. Some v) o) ≡ Some v
    own (Some place) is = refl
    own None is = absurd (false≢true is)

    by : (b : Bool) → eqb key x ≡ b
        → option_and_then (λ place. place) (if b then option_map (λ _. Some v) (found nat_cmp places x)
        else found nat_cmp places x)
        ≡ (if b then Some v else thing_in nat_cmp places x)
    by true is = own (found nat_cmp places x)
        (ap (λ x. is_some (found nat_cmp places x)) (sym (eqb-true key x is)) ∙ room)
    by false other = refl
