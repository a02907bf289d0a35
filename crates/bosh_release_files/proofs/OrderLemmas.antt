-- Paths in order.
use Rattle.std.proofs.Common.{◌≡◌, ◌≢◌, ◌⊎◌, ⊎_elim, inl, inr, ◌∙◌, ap, refl, sym, subst, arith, ℕ, zero, suc, ◌<◌, ◌≤◌, ◌||◌, Bool, true, false, List, [], ◌∷◌, length, get_or, map, eqb, is_some}
use Rattle.std.specs.BTreeMap.{insert_entry}
use Rattle.std.specs.Cmp.{nat_cmp_is}
use Rattle.std.specs.Cmp.Lexicographic.{slice_cmp}
use Rattle.std.specs.List.Sorted.{IsPartitionedBy}
use Rattle.std.specs.Map.{keys_of}
use Rattle.std.specs.Ordering.{is_lt, match_ordering, nat_cmp, ordering_reverse, ordering_then}
use Rattle.std.specs.declared.cmp.Ordering.{Ordering}
use Rattle.std.specs.declared.cmp.Ordering.TheVariants.{Less, Equal, Greater}
use Rattle.std.proofs.lemmas.Bool.{cases_lt}
use Rattle.std.proofs.lemmas.Bool.Decides.{eqb_tells, nat_tests}
use Rattle.std.proofs.lemmas.Cmp.{nat_list_cmp_total}
use Rattle.std.proofs.lemmas.List.Elements.{All-cons, All-nil, All-weaker}
use Rattle.std.proofs.lemmas.Map.Views.{All-keys-insert_entry}
use Rattle.bosh_release_listing.specs.declared.listing.Stamp.{Stamp}
use Rattle.bosh_release_files.specs.Files.{after}
use Rattle.bosh_release_files.specs.Sources.{IsInOrder, path_of}
use Rattle.bosh_release_files.specs.Span.{comes_before, comes_up_to}

abbrev compare : List ℕ → List ℕ → Ordering
compare = slice_cmp nat_cmp

abbrev Follows : List ℕ → List ℕ → Type 0
Follows text later = compare text later ≡ Less

less_trans : (x y z : List ℕ) → Follows x y → Follows y z → Follows x z
less_trans = nat_list_cmp_total.trans

turned : (x y : List ℕ) → compare x y ≡ Greater → Follows y x
turned x y h = nat_list_cmp_total.antisymm y x ∙ ap ordering_reverse h

-- ---- one more

pub in_order-insert :
    {A : Type 0} (es : List (List ℕ × A)) (key : List ℕ) (value : A) → IsInOrder (keys_of es)
    → IsInOrder (keys_of (insert_entry compare es key value))
in_order-insert [] key value h = (All-nil (Follows key), tt)
in_order-insert (e ∷ es) key value h = at (in_order-insert es key value h.1) (compare key e.0) refl
  where
    at :
        IsInOrder (keys_of (insert_entry compare es key value)) → (o : Ordering) → compare key e.0 ≡ o
        → IsInOrder (keys_of (match_ordering o ((key, value) ∷ e ∷ es) ((e.0, value) ∷ es) (e ∷ insert_entry compare es key value)))
    at below Less is = (
      All-cons (Follows key) e.0 (keys_of es) is
          (All-weaker (Follows e.0) (Follows key) (λ later more. less_trans key e.0 later is more) (keys_of es) h.0),
      h,
    )
    at below Equal is = h
    at below Greater is =
        (All-keys-insert_entry compare key value (Follows e.0) es h.0 (turned key e.0 is), below)

-- ---- by places

pub ascends :
    (texts : List (List ℕ)) (i j : ℕ) (d : List ℕ) → IsInOrder texts → i < j → j < length texts
    → Follows (get_or texts i d) (get_or texts j d)
ascends [] i j d h lt within = absurd (omega arith)
ascends (text ∷ texts) zero zero d h lt within = absurd (omega arith)
ascends (text ∷ texts) zero (suc j) d h lt within = h.0 j d (omega arith)
ascends (text ∷ texts) (suc i) zero d h lt within = absurd (omega arith)
ascends (text ∷ texts) (suc i) (suc j) d h lt within = ascends texts i j d h.1 (omega arith) (omega arith)

get_or-map :
    (files : List Stamp) (i : ℕ) (d : Stamp) → path_of (get_or files i d) ≡ get_or (map path_of files) i (path_of d)
get_or-map [] i d = refl
get_or-map (file ∷ files) zero d = refl
get_or-map (file ∷ files) (suc i) d = get_or-map files i d

length-map' : (files : List Stamp) → length (map path_of files) ≡ length files
length-map' [] = refl
length-map' (file ∷ files) = ap suc (length-map' files)

-- a test that passes a path where it passes a later one
pub partitioned :
    (files : List Stamp) (test : List ℕ → Bool)
    → ((x y : List ℕ) → Follows x y → test y ≡ true → test x ≡ true)
    → IsInOrder (map path_of files) → IsPartitionedBy (λ file. test (path_of file)) files
partitioned files test falls order i j d le within passes =
    ⊎_elim
    (λ (less : i < j).
    let lt : Follows (get_or (map path_of files) i (path_of d)) (get_or (map path_of files) j (path_of d)) =
    ascends (map path_of files) i j (path_of d) order less (let n = length-map' files in omega arith) in
    falls (path_of (get_or files i d)) (path_of (get_or files j d))
    (ap (λ x. compare x (path_of (get_or files j d))) (get_or-map files i d)
    ∙ ap (λ y. compare (get_or (map path_of files) i (path_of d)) y) (get_or-map files j d) ∙ lt) passes)
    (λ (more : j ≤ i).
    let same : j ≡ i = omega arith in
    subst (λ k. test (path_of (get_or files k d)) ≡ true) same passes)
    (cases_lt i j)

-- ---- before a front

is_less : (o : Ordering) → is_lt o ≡ true → o ≡ Less
is_less Less h = refl
is_less Equal h = absurd cc
is_less Greater h = absurd cc

pub before_falls : (front x y : List ℕ) → Follows x y → comes_before front y ≡ true → comes_before front x ≡ true
before_falls front x y lt h = ap is_lt (less_trans x y front lt (is_less (compare y front) h))

-- ---- bytes

abbrev ByteCases : ℕ → ℕ → Type 0
ByteCases a b = (nat_cmp a b ≡ Less) ⊎ ((nat_cmp a b ≡ Equal) × (a ≡ b)) ⊎ (nat_cmp a b ≡ Greater)

-- ---- up to a front

or_true : (b : Bool) → (b || true) ≡ true
or_true true = refl
or_true false = refl

three : (a b : ℕ) → (a < b) ⊎ ((a ≡ b) ⊎ (b < a))
three a b =
    ⊎_elim
    (λ (less : a < b). inl less)
    (λ (more : b ≤ a).
    inr (⊎_elim (λ (greater : b < a). inr greater) (λ (le : a ≤ b). inl (omega arith)) (cases_lt b a)))
    (cases_lt a b)

lesser : (a b : ℕ) → a < b → nat_cmp a b ≡ Less
lesser a b h = sym (nat_cmp_is a b Less h)

equal : (a b : ℕ) → a ≡ b → nat_cmp a b ≡ Equal
equal a b h = sym (nat_cmp_is a b Equal h)

greater : (a b : ℕ) → b < a → nat_cmp a b ≡ Greater
greater a b h = sym (nat_cmp_is a b Greater h)

follows_cases : (a b : ℕ) (x y : List ℕ) → Follows (a ∷ x) (b ∷ y) → (a < b) ⊎ ((a ≡ b) × Follows x y)
follows_cases a b x y h =
    ⊎_elim
    (λ (less : a < b). inl less)
    (λ (rest : (a ≡ b) ⊎ (b < a)).
    ⊎_elim
    (λ (same : a ≡ b).
    inr (same, sym (ap (λ o. ordering_then o (compare x y)) (equal a b same)) ∙ h))
    (λ (more : b < a).
    let turned : Greater ≡ Less = sym (ap (λ o. ordering_then o (compare x y)) (greater a b more)) ∙ h in
    absurd cc)
    rest)
    (three a b)

before_at_less : (f a : ℕ) (front x : List ℕ) → a < f → comes_up_to (f ∷ front) (a ∷ x) ≡ true
before_at_less f a front x h = rw (lesser a f h) refl

up_to_same : (f a : ℕ) (front x : List ℕ) → a ≡ f → comes_up_to (f ∷ front) (a ∷ x) ≡ comes_up_to front x
up_to_same f a front x h =
    let same : eqb f a ≡ true = grind (arith, nat_tests) in
    rw (equal a f h, same) refl

behind_at_greater : (f a : ℕ) (front x : List ℕ) → f < a → comes_up_to (f ∷ front) (a ∷ x) ≡ false
behind_at_greater f a front x h =
    let other : eqb f a ≡ false = grind (arith, nat_tests) in
    rw (greater a f h, other) refl

-- what is before a text that is not behind a front is not behind it
pub up_to_falls :
    (front x y : List ℕ) → Follows x y → comes_up_to front y ≡ true → comes_up_to front x ≡ true
up_to_falls [] x y lt h = or_true (comes_before [] x)
up_to_falls (f ∷ front) [] y lt h = refl
up_to_falls (f ∷ front) (a ∷ x) [] lt h = absurd cc
up_to_falls (f ∷ front) (a ∷ x) (b ∷ y) lt h =
    ⊎_elim
    (λ (less : b < f).
    before_at_less f a front x
    (⊎_elim (λ (p : a < b). omega arith) (λ (p : (a ≡ b) × Follows x y). let same = p.0 in omega arith)
    (follows_cases a b x y lt)))
    (λ (rest : (b ≡ f) ⊎ (f < b)).
    ⊎_elim
    (λ (same : b ≡ f).
    ⊎_elim
    (λ (p : a < b). before_at_less f a front x (omega arith))
    (λ (p : (a ≡ b) × Follows x y).
    up_to_same f a front x (p.0 ∙ same)
    ∙ up_to_falls front x y p.1 (sym (up_to_same f b front y same) ∙ h))
    (follows_cases a b x y lt))
    (λ (more : f < b).
    let never : false ≡ true = sym (behind_at_greater f b front y more) ∙ h in
    absurd cc)
    rest)
    (three b f)

-- what begins with a front does not come before it
pub begins_not_before : (front y : List ℕ) → is_some (after front y) ≡ true → comes_before front y ≡ false
begins_not_before [] [] h = refl
begins_not_before [] (b ∷ y) h = refl
begins_not_before (f ∷ front) [] h = absurd cc
begins_not_before (f ∷ front) (b ∷ y) h =
    ⊎_elim
    (λ (same : (eqb f b ≡ true) × (f ≡ b)).
    let rest : is_some (after front y) ≡ true = rw (same.0) at h in
    rw (equal b f (sym same.1)) (begins_not_before front y rest))
    (λ (other : (eqb f b ≡ false) × (f ≢ b)).
    let never : false ≡ true = rw (other.0) at h in
    absurd cc)
    (eqb_tells f b)
