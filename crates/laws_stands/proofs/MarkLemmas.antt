-- Marks of the items of a list.
use Rattle.std.proofs.Common.{◌≡◌, ◌∙◌, ℕ, zero, suc, Bool, true, false, ◌||◌, not, List, [], ◌∷◌, map, Option}
use Rattle.std.proofs.Common.{Some, None, ap, refl, sym, subst, arith}
use Rattle.std.specs.Prelude.{◌==◌, count_by, find, slice_get, slice_index_or, slice_set, if◌then◌else◌}
use Rattle.std.specs.List.{list_any}
use Rattle.std.specs.Option.{option_and_then, option_map}
use Rattle.std.proofs.lemmas.Bool.{and_parts, not-true, or_parts, true≢false}
use Rattle.std.proofs.lemmas.Bool.Decides.{nat_tests}
use Rattle.std.proofs.lemmas.Grind.{common_steps}
use Rattle.bosh_progress.specs.Tree.{first_marked, marked_in}
use Rattle.bosh_history.specs.Words.{at, is_among}
use Rattle.bosh_rows.specs.SoundSnapshot.{are_distinct}
use Rattle.laws_stands.specs.LineStands.{place_of}

-- ---- the first mark

-- the item at the first mark is the first that passes
pub found : {T : Type 0} (p : T → Bool) (xs : List T) → option_and_then (λ k. slice_get xs k)
    (first_marked (map p xs)) ≡ find p xs
found p [] = refl
found p (x ∷ xs) = by (p x) (found p xs)
  where
    later : (k : Option ℕ) → option_and_then (λ k. slice_get xs k) k ≡ find p xs →
        option_and_then (λ k. slice_get (x ∷ xs) k) (option_map suc k) ≡ find p xs
    later (Some k) more = more
    later None more = more

    by : (b : Bool) → option_and_then (λ k. slice_get xs k) (first_marked (map p xs)) ≡ find p xs →
        option_and_then (λ k. slice_get (x ∷ xs) k) (first_marked (b ∷ map p xs))
        ≡ (if b then Some x else find p xs)
    by true more = refl
    by false more = later (first_marked (map p xs)) more

-- how many are marked
pub marked_as : {T : Type 0} (p : T → Bool) (xs : List T) → marked_in (map p xs) ≡ count_by p xs
marked_as p [] = refl
marked_as p (x ∷ xs) = grind (arith, common_steps, marked_as p xs)

-- ---- one more mark

-- no later item is the same
pub others_differ : {T : Type 0} (same : T → T → Bool) (x y : T) (xs : List T)
    → ((a b : T) → same a b ≡ true → a ≡ b)
    → same x y ≡ true → is_among same y xs ≡ false → is_among same x xs ≡ false
others_differ same x y xs decides is none = subst (λ z. is_among same z xs ≡ false) (sym (decides x y is)) none

pub unchanged : {T : Type 0} (same : T → T → Bool) (x : T) (b : Bool) (f : T → Bool) (xs : List T)
    → is_among same x xs ≡ false
    → map (at same x b f) xs ≡ map f xs
unchanged same x b f [] none = refl
unchanged same x b f (y ∷ xs) none =
    let parts : (same x y ≡ false) × (is_among same x xs ≡ false) = or_parts (same x y) (is_among same x xs) none in
    λ i. (if parts.0 i then b else f y) ∷ unchanged same x b f xs parts.1 i

-- the mark at the place of an item, where it is one of the list
abbrev pub set_at : Option ℕ → Bool → List Bool → List Bool
set_at (Some place) b marks = slice_set marks place b
set_at None b marks = marks

pub one_more : {T : Type 0} (same : T → T → Bool) → ((a b : T) → same a b ≡ true → a ≡ b) → (xs : List T)
    → are_distinct same xs ≡ true → (x : T) (b : Bool) (f : T → Bool)
    → map (at same x b f) xs ≡ set_at (place_of same x xs) b (map f xs)
one_more same decides [] apart x b f = refl
one_more same decides (y ∷ xs) apart x b f =
    let parts : (not (is_among same y xs) ≡ true) × (are_distinct same xs ≡ true) =
    and_parts (not (is_among same y xs)) (are_distinct same xs) apart in
    by (same x y) refl (not-true (is_among same y xs) parts.0) (one_more same decides xs parts.1 x b f)
  where
    later : (k : Option ℕ) → f y ∷ set_at k b (map f xs) ≡ set_at (option_map suc k) b (f y ∷ map f xs)
    later (Some k) = refl
    later None = refl

    by : (t : Bool) → same x y ≡ t → is_among same y xs ≡ false → map (at same x b f) xs
        ≡ set_at (place_of same x xs) b (map f xs)
        → (if t then b else f y) ∷ map (at same x b f) xs ≡ set_at (first_marked (t ∷ map (same x) xs)) b
        (f y ∷ map f xs)
    by true is none more =
        ap (λ rest. b ∷ rest) (unchanged same x b f xs (others_differ same x y xs decides is none))
    by false is none more = ap (λ rest. f y ∷ rest) more ∙ later (place_of same x xs)

-- .. of an item that may be listed beside others twice

-- no later item is the same as the first that is this one
abbrev pub is_once : {T : Type 0} → (T → T → Bool) → T → List T → Bool
is_once same x [] = true
is_once same x (y ∷ ys) = if same x y then not (is_among same x ys) else is_once same x ys

pub marks_of_one : {T : Type 0} (same : T → T → Bool) (x : T) (xs : List T) → is_once same x xs ≡ true
    → (b : Bool) (f : T → Bool) → map (at same x b f) xs ≡ set_at (place_of same x xs) b (map f xs)
marks_of_one same x [] once b f = refl
marks_of_one same x (y ∷ xs) once b f = by (same x y) once (λ once. marks_of_one same x xs once b f)
  where
    later : (k : Option ℕ) → f y ∷ set_at k b (map f xs) ≡ set_at (option_map suc k) b (f y ∷ map f xs)
    later (Some k) = refl
    later None = refl

    by : (t : Bool) → (if t then not (is_among same x xs) else is_once same x xs) ≡ true
        → (is_once same x xs ≡ true → map (at same x b f) xs ≡ set_at (place_of same x xs) b (map f xs))
        → (if t then b else f y) ∷ map (at same x b f) xs ≡ set_at (first_marked (t ∷ map (same x) xs)) b
        (f y ∷ map f xs)
    by true once more = ap (λ rest. b ∷ rest) (unchanged same x b f xs (not-true (is_among same x xs) once))
    by false once more = ap (λ rest. f y ∷ rest) (more once) ∙ later (place_of same x xs)

-- items with the same marks
pub same_marks : {T : Type 0} (f g : T → Bool) (xs : List T) → ((x : T) → f x ≡ g x) → map f xs ≡ map g xs
same_marks f g [] same = refl
same_marks f g (x ∷ xs) same = λ i. same x i ∷ same_marks f g xs same i

-- ---- at a place

pub at_place : {T : Type 0} (f : T → Bool) (xs : List T) (k : ℕ) (x : T) → slice_get xs k ≡ Some x
    → slice_index_or (map f xs) k false ≡ f x
at_place f [] k x is = absurd cc
at_place f (y ∷ xs) zero x is = let e : y ≡ x = cc in ap f e
at_place f (y ∷ xs) (suc k) x is = at_place f xs k x is

-- where a mark is set there is an item
pub is_there : {T : Type 0} (f : T → Bool) (xs : List T) (k : ℕ) → slice_index_or (map f xs) k false ≡ true
    → (x : T) × (slice_get xs k ≡ Some x) × (f x ≡ true)
is_there f [] k is = absurd (true≢false (sym is))
is_there f (y ∷ xs) zero is = (y, refl, is)
is_there f (y ∷ xs) (suc k) is = is_there f xs k is

-- the item at the first mark
pub placed : {T : Type 0} (p : T → Bool) (xs : List T) (k : ℕ) → first_marked (map p xs) ≡ Some k → (x : T)
    × (slice_get xs k ≡ Some x) × (p x ≡ true)
placed p [] k is = absurd cc
placed p (y ∷ xs) k is = by (p y) refl k (λ k is. placed p xs k is) is
  where
    later : (k : ℕ) (first : Option ℕ) → ((j : ℕ) → first ≡ Some j → (x : _) × (slice_get xs j ≡ Some x)
        × (p x ≡ true)) → option_map suc first ≡ Some k
        → (x : _) × (slice_get (y ∷ xs) k ≡ Some x) × (p x ≡ true)
    later k (Some j) more is = let e : suc j ≡ k = cc in let it : (x : _) × (slice_get xs j ≡ Some x)
        × (p x ≡ true) = more j refl in
        (it.0, subst (λ n. slice_get (y ∷ xs) n ≡ Some it.0) e it.1, it.2)
    later k None more is = absurd cc

    by : (b : Bool) → p y ≡ b → (k : ℕ) → ((j : ℕ) → first_marked (map p xs) ≡ Some j → (x : _)
        × (slice_get xs j ≡ Some x) × (p x ≡ true)) → first_marked (b ∷ map p xs) ≡ Some k
        → (x : _) × (slice_get (y ∷ xs) k ≡ Some x) × (p x ≡ true)
    by true is k more first = let e : 0 ≡ k = cc in (y, subst (λ n. slice_get (y ∷ xs) n ≡ Some y) e refl, is)
    by false is k more first = later k (first_marked (map p xs)) more first

-- a mark that is off may be set to off
pub set_same : (b : Bool) (marks : List Bool) (k : ℕ) → slice_index_or marks k false ≡ false → b ≡ false → marks
    ≡ slice_set marks k b
set_same b [] k is off = refl
set_same b (m ∷ marks) zero is off = λ i. (is ∙ sym off) i ∷ marks
set_same b (m ∷ marks) (suc k) is off = ap (λ rest. m ∷ rest) (set_same b marks k is off)

-- no item is marked
pub zero_as : {A : Type 0} (f : A → Bool) (xs : List A) → (marked_in (map f xs) == 0) ≡ not (list_any f xs)
zero_as f [] = refl
zero_as f (x ∷ xs) = by (f x) (zero_as f xs)
  where
    by : (b : Bool) → (marked_in (map f xs) == 0) ≡ not (list_any f xs) → (marked_in (b ∷ map f xs) == 0)
        ≡ not (b || list_any f xs)
    by true more = grind (arith, nat_tests, common_steps)
    by false more = more
