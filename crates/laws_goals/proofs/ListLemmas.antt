-- What is true of all pairs of a list, and of the items of a list that is cut in parts.
use Rattle.std.proofs.Common.{◌≡◌, ◌∙◌, ℕ, zero, suc, ◌<◌, Bool, true, false, ◌&&◌, ◌||◌, not, eqb, List, [], ◌∷◌, ◌++◌, length, map, take, drop, filter, cond, get_or, true≢false, ap, refl, sym, subst, arith}
use Rattle.std.specs.List.{AllByRecursion, AllZip, Contains, flat_map, list_all, list_any}
use Rattle.std.proofs.lemmas.Bool.{and_parts, not-true, or_parts}
use Rattle.std.proofs.lemmas.Bool.Decides.{nat_tests}
use Rattle.bosh_pool.proofs.ListLemmas.{Pairs}
use Rattle.bosh_history.specs.Words.{is_among}
use Rattle.bosh_rows.specs.SoundSnapshot.{are_distinct}

-- ---- every item

pub all_map : {X : Type 0} (P Q : X → Type 0) (xs : List X) → ((x : X) → P x → Q x) → AllByRecursion P xs → AllByRecursion Q xs
all_map P Q [] f all = tt
all_map P Q (x ∷ xs) f (here, more) = (f x here, all_map P Q xs f more)

pub all_everywhere : {X : Type 0} (P : X → Type 0) (xs : List X) → ((x : X) → P x) → AllByRecursion P xs
all_everywhere P [] f = tt
all_everywhere P (x ∷ xs) f = (f x, all_everywhere P xs f)

pub all_append : {X : Type 0} (P : X → Type 0) (xs ys : List X) → AllByRecursion P xs → AllByRecursion P ys → AllByRecursion P (xs ++ ys)
all_append P [] ys all others = others
all_append P (x ∷ xs) ys (here, more) others = (here, all_append P xs ys more others)

pub all_front : {X : Type 0} (P : X → Type 0) (xs ys : List X) → AllByRecursion P (xs ++ ys) → AllByRecursion P xs
all_front P [] ys all = tt
all_front P (x ∷ xs) ys (here, more) = (here, all_front P xs ys more)

pub all_mapped : {X Y : Type 0} (P : Y → Type 0) (f : X → Y) (xs : List X) → AllByRecursion (λ x. P (f x)) xs → AllByRecursion P (map f xs)
all_mapped P f [] all = tt
all_mapped P f (x ∷ xs) (here, more) = (here, all_mapped P f xs more)

pub all_unmapped : {X Y : Type 0} (P : Y → Type 0) (f : X → Y) (xs : List X) → AllByRecursion P (map f xs) → AllByRecursion (λ x. P (f x)) xs
all_unmapped P f [] all = tt
all_unmapped P f (x ∷ xs) (here, more) = (here, all_unmapped P f xs more)

pub all_flat : {X Y : Type 0} (P : Y → Type 0) (f : X → List Y) (xs : List X) → AllByRecursion (λ x. AllByRecursion P (f x)) xs → AllByRecursion P (flat_map f xs)
all_flat P f [] all = tt
all_flat P f (x ∷ xs) (here, more) = all_append P (f x) (flat_map f xs) here (all_flat P f xs more)

-- what a test says of every item
pub all_pass : {X : Type 0} (p : X → Bool) (xs : List X) → AllByRecursion (λ x. p x ≡ true) xs → list_all p xs ≡ true
all_pass p [] all = refl
all_pass p (x ∷ xs) (here, more) = rw (here, all_pass p xs more) refl

pub none_pass : {X : Type 0} (p : X → Bool) (xs : List X) → AllByRecursion (λ x. p x ≡ false) xs → list_any p xs ≡ false
none_pass p [] all = refl
none_pass p (x ∷ xs) (here, more) = rw (here, none_pass p xs more) refl

pub none_passes : {X : Type 0} (p : X → Bool) (xs : List X) → list_any p xs ≡ false → AllByRecursion (λ x. p x ≡ false) xs
none_passes p [] none = tt
none_passes p (x ∷ xs) none = let (here, more) = or_parts (p x) (list_any p xs) none in (here, none_passes p xs more)

or_more : (b c d e : Bool) → c ≡ (d || e) → (b || c) ≡ ((b || d) || e)
or_more true c d e h = refl
or_more false c d e h = h

pub any_append : {X : Type 0} (p : X → Bool) (xs ys : List X) → list_any p (xs ++ ys) ≡ (list_any p xs || list_any p ys)
any_append p [] ys = refl
any_append p (x ∷ xs) ys = or_more (p x) (list_any p (xs ++ ys)) (list_any p xs) (list_any p ys) (any_append p xs ys)

pub any_map : {X Y : Type 0} (p : Y → Bool) (f : X → Y) (xs : List X) → list_any p (map f xs) ≡ list_any (λ x. p (f x)) xs
any_map p f [] = refl
any_map p f (x ∷ xs) = ap (λ b. p (f x) || b) (any_map p f xs)

pub any_flat : {X Y : Type 0} (p : Y → Bool) (f : X → List Y) (xs : List X) → list_any p (flat_map f xs) ≡ list_any (λ x. list_any p (f x)) xs
any_flat p f [] = refl
any_flat p f (x ∷ xs) = any_append p (f x) (flat_map f xs) ∙ ap (λ b. list_any p (f x) || b) (any_flat p f xs)

pub eqb_flip : (m n : ℕ) → eqb m n ≡ eqb n m
eqb_flip m n = grind (arith, nat_tests)

-- ---- pairs

pub pairs_map : {X : Type 0} (R S : X → X → Type 0) (xs : List X) → ((x y : X) → R x y → S x y) → Pairs R xs → Pairs S xs
pairs_map R S [] f pairs = tt
pairs_map R S (x ∷ xs) f (here, more) = (all_map (R x) (S x) xs (f x) here, pairs_map R S xs f more)

pub pairs_mapped : {X Y : Type 0} (R : Y → Y → Type 0) (f : X → Y) (xs : List X) → Pairs (λ x y. R (f x) (f y)) xs → Pairs R (map f xs)
pairs_mapped R f [] pairs = tt
pairs_mapped R f (x ∷ xs) (here, more) = (all_mapped (R (f x)) f xs here, pairs_mapped R f xs more)

pub pairs_unmapped : {X Y : Type 0} (R : Y → Y → Type 0) (f : X → Y) (xs : List X) → Pairs R (map f xs) → Pairs (λ x y. R (f x) (f y)) xs
pairs_unmapped R f [] pairs = tt
pairs_unmapped R f (x ∷ xs) (here, more) = (all_unmapped (R (f x)) f xs here, pairs_unmapped R f xs more)

pub pairs_front : {X : Type 0} (R : X → X → Type 0) (xs ys : List X) → Pairs R (xs ++ ys) → Pairs R xs
pairs_front R [] ys pairs = tt
pairs_front R (x ∷ xs) ys (here, more) = (all_front (R x) xs ys here, pairs_front R xs ys more)

pub pairs_back : {X : Type 0} (R : X → X → Type 0) (xs ys : List X) → Pairs R (xs ++ ys) → Pairs R ys
pairs_back R [] ys pairs = pairs
pairs_back R (x ∷ xs) ys (here, more) = pairs_back R xs ys more

pub all_back : {X : Type 0} (P : X → Type 0) (xs ys : List X) → AllByRecursion P (xs ++ ys) → AllByRecursion P ys
all_back P [] ys all = all
all_back P (x ∷ xs) ys (here, more) = all_back P xs ys more

-- of two lists one after another each pair is of the first, of the second, or across
pub pairs_append : {X : Type 0} (R : X → X → Type 0) (xs ys : List X) → Pairs R xs → Pairs R ys → AllByRecursion (λ x. AllByRecursion (R x) ys) xs → Pairs R (xs ++ ys)
pairs_append R [] ys one other across = other
pairs_append R (x ∷ xs) ys (here, more) other (first, others) = (all_append (R x) xs ys here first, pairs_append R xs ys more other others)

across_more : {X Y : Type 0} (R : Y → Y → Type 0) (f : X → List Y) (x : X) (xs : List X) (some : List Y) → AllByRecursion (λ a. AllByRecursion (R a) (f x)) some
    → AllByRecursion (λ a. AllByRecursion (R a) (flat_map f xs)) some → AllByRecursion (λ a. AllByRecursion (R a) (flat_map f (x ∷ xs))) some
across_more R f x xs [] first rest = tt
across_more R f x xs (a ∷ some) (p, ps) (q, qs) = (all_append (R a) (f x) (flat_map f xs) p q, across_more R f x xs some ps qs)

across_all : {X Y : Type 0} (R : Y → Y → Type 0) (S : X → X → Type 0) (f : X → List Y) → ((x y : X) → S x y → AllByRecursion (λ a. AllByRecursion (R a) (f y)) (f x))
    → (x : X) (ys : List X) → AllByRecursion (S x) ys → AllByRecursion (λ a. AllByRecursion (R a) (flat_map f ys)) (f x)
across_all R S f apart x [] all = all_everywhere (λ a. AllByRecursion (R a) []) (f x) (λ a. tt)
across_all R S f apart x (y ∷ ys) (here, more) = across_more R f y ys (f x) (apart x y here) (across_all R S f apart x ys more)

-- .. and of several lists
pub pairs_flat : {X Y : Type 0} (R : Y → Y → Type 0) (S : X → X → Type 0) (f : X → List Y) (xs : List X)
    → ((x y : X) → S x y → AllByRecursion (λ a. AllByRecursion (R a) (f y)) (f x))
    → AllByRecursion (λ x. Pairs R (f x)) xs → Pairs S xs → Pairs R (flat_map f xs)
pairs_flat R S f [] apart each pairs = tt
pairs_flat R S f (x ∷ xs) apart (one, each) (here, more) =
    pairs_append R (f x) (flat_map f xs) one (pairs_flat R S f xs apart each more) (across_all R S f apart x xs here)

-- .. and of those of some
all_filtered : {X Y : Type 0} (P : Y → Type 0) (f : X → List Y) (p : X → Bool) (xs : List X) → AllByRecursion P (flat_map f xs) → AllByRecursion P (flat_map f (filter p xs))
all_filtered P f p [] all = tt
all_filtered P f p (x ∷ xs) all = by P f x xs (filter p xs) (p x) all (all_filtered P f p xs (all_back P (f x) (flat_map f xs) all))
  where
    by : {X Y : Type 0} (P : Y → Type 0) (f : X → List Y) (x : X) (xs some : List X) (b : Bool) → AllByRecursion P (f x ++ flat_map f xs) → AllByRecursion P (flat_map f some) → AllByRecursion P (flat_map f (cond b (x ∷ some) some))
    by P f x xs some true all rest = all_append P (f x) (flat_map f some) (all_front P (f x) (flat_map f xs) all) rest
    by P f x xs some false all rest = rest

across_filtered : {X Y : Type 0} (R : Y → Y → Type 0) (f : X → List Y) (p : X → Bool) (xs : List X) (some : List Y) → Pairs R (some ++ flat_map f xs) → AllByRecursion (λ a. AllByRecursion (R a) (flat_map f (filter p xs))) some
across_filtered R f p xs [] pairs = tt
across_filtered R f p xs (a ∷ some) (here, more) = (all_filtered (R a) f p xs (all_back (R a) some (flat_map f xs) here), across_filtered R f p xs some more)

pub pairs_filtered : {X Y : Type 0} (R : Y → Y → Type 0) (f : X → List Y) (p : X → Bool) (xs : List X) → Pairs R (flat_map f xs) → Pairs R (flat_map f (filter p xs))
pairs_filtered R f p [] pairs = tt
pairs_filtered R f p (x ∷ xs) pairs =
    by R f x (filter p xs) (p x) (pairs_front R (f x) (flat_map f xs) pairs) (across_filtered R f p xs (f x) pairs) (pairs_filtered R f p xs (pairs_back R (f x) (flat_map f xs) pairs))
  where
    by : {X Y : Type 0} (R : Y → Y → Type 0) (f : X → List Y) (x : X) (some : List X) (b : Bool) → Pairs R (f x) → AllByRecursion (λ a. AllByRecursion (R a) (flat_map f some)) (f x)
        → Pairs R (flat_map f some) → Pairs R (flat_map f (cond b (x ∷ some) some))
    by R f x some true own across rest = pairs_append R (f x) (flat_map f some) own rest across
    by R f x some false own across rest = rest

-- ---- distinct items

pub distinct_from : {X : Type 0} (same : X → X → Bool) (xs : List X) → Pairs (λ x y. same x y ≡ false) xs → are_distinct same xs ≡ true
distinct_from same [] pairs = refl
distinct_from same (x ∷ xs) (here, more) = rw (none_pass (same x) xs here, distinct_from same xs more) refl

pub pairs_of_distinct : {X : Type 0} (same : X → X → Bool) (xs : List X) → are_distinct same xs ≡ true → Pairs (λ x y. same x y ≡ false) xs
pairs_of_distinct same [] h = tt
pairs_of_distinct same (x ∷ xs) h =
    let (here, more) = and_parts (not (is_among same x xs)) (are_distinct same xs) h in
    (none_passes (same x) xs (not-true (is_among same x xs) here), pairs_of_distinct same xs more)

-- ---- parts

pub zip_front : {X Y : Type 0} (R : X → Y → Type 0) (xs more : List X) (ys : List Y) (n : ℕ) → length xs ≡ n → AllZip R (xs ++ more) ys → AllZip R xs (take n ys)
zip_front R [] more ys zero l all = tt
zip_front R [] more ys (suc n) l all = absurd (omega arith)
zip_front R (x ∷ xs) more [] n l all = absurd all
zip_front R (x ∷ xs) more (y ∷ ys) zero l all = absurd (omega arith)
zip_front R (x ∷ xs) more (y ∷ ys) (suc n) l (here, rest) = (here, zip_front R xs more ys n (omega arith) rest)

pub zip_back : {X Y : Type 0} (R : X → Y → Type 0) (xs more : List X) (ys : List Y) (n : ℕ) → length xs ≡ n → AllZip R (xs ++ more) ys → AllZip R more (drop n ys)
zip_back R [] more ys zero l all = all
zip_back R [] more ys (suc n) l all = absurd (omega arith)
zip_back R (x ∷ xs) more [] n l all = absurd all
zip_back R (x ∷ xs) more (y ∷ ys) zero l all = absurd (omega arith)
zip_back R (x ∷ xs) more (y ∷ ys) (suc n) l (here, rest) = zip_back R xs more ys n (omega arith) rest

-- ---- what is contained

pub all_at : {X : Type 0} (P : X → Type 0) (xs : List X) (x : X) → AllByRecursion P xs → Contains xs x → P x
all_at P [] x all (k, below, is) = absurd (omega arith)
all_at P (y ∷ xs) x (here, more) (zero, below, is) = subst P is here
all_at P (y ∷ xs) x (here, more) (suc k, below, is) = all_at P xs x more (k, omega arith, is)

pub all_from_index : {X : Type 0} (P : X → Type 0) (xs : List X) → ((k : ℕ) (d : X) → k < length xs → P (get_or xs k d)) → AllByRecursion P xs
all_from_index P [] h = tt
all_from_index P (x ∷ xs) h = (h 0 x (omega arith), all_from_index P xs (λ k d below. h (suc k) d (omega arith)))

-- what holds of each item of one list with each of another, the other way round
pub across_swap : {X Y : Type 0} (R : Y → X → Type 0) (xs : List X) (ys : List Y) → AllByRecursion (λ y. AllByRecursion (R y) xs) ys → AllByRecursion (λ x. AllByRecursion (λ y. R y x) ys) xs
across_swap R [] ys all = tt
across_swap R (x ∷ xs) ys all = (
  all_map (λ y. AllByRecursion (R y) (x ∷ xs)) (λ y. R y x) ys (λ y p. p.0) all,
  across_swap R xs ys (all_map (λ y. AllByRecursion (R y) (x ∷ xs)) (λ y. AllByRecursion (R y) xs) ys (λ y p. p.1) all),
)

-- what no part of a filtered list has
pub none_filtered : {X Y : Type 0} (p : Y → Bool) (f : X → List Y) (q : X → Bool) (xs : List X) → list_any p (flat_map f (filter q xs)) ≡ false
    → AllByRecursion (λ x. q x ≡ true → list_any p (f x) ≡ false) xs
none_filtered p f q [] none = tt
none_filtered p f q (x ∷ xs) none = by p f x (filter q xs) (q x) (AllByRecursion (λ x. q x ≡ true → list_any p (f x) ≡ false) xs) (none_filtered p f q xs) none
  where
    by : {X Y : Type 0} (p : Y → Bool) (f : X → List Y) (x : X) (some : List X) (b : Bool) (Rest : Type 0) → (list_any p (flat_map f some) ≡ false → Rest)
        → list_any p (flat_map f (cond b (x ∷ some) some)) ≡ false → (b ≡ true → list_any p (f x) ≡ false) × Rest
    by p f x some true Rest rest none =
        let (here, more) = or_parts (list_any p (f x)) (list_any p (flat_map f some)) (sym (any_append p (f x) (flat_map f some)) ∙ none) in (λ is. here, rest more)
    by p f x some false Rest rest none = (λ is. absurd (true≢false (sym is)), rest none)

and_more : (a b c d : Bool) → c ≡ (d && b) → ((a && b) || c) ≡ ((a || d) && b)
and_more true true c d h = refl
and_more true false c true h = h
and_more true false c false h = h
and_more false b c d h = h

pub any_and : {X : Type 0} (p : X → Bool) (b : Bool) (xs : List X) → list_any (λ x. p x && b) xs ≡ (list_any p xs && b)
any_and p b [] = refl
any_and p b (x ∷ xs) = and_more (p x) b (list_any (λ x. p x && b) xs) (list_any p xs) (any_and p b xs)

pub passes : {X : Type 0} (p : X → Bool) (xs : List X) → list_all p xs ≡ true → AllByRecursion (λ x. p x ≡ true) xs
passes p [] all = tt
passes p (x ∷ xs) all = let (here, more) = and_parts (p x) (list_all p xs) all in (here, passes p xs more)
