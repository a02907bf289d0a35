-- Elements of lists that are made of other lists.
use Rattle.std.proofs.Common.{◌≡◌, ◌⊎◌, ◌≢◌, ◌∙◌, ℕ, suc, ◌≤◌, Bool, true, false, cond, List, [], ◌∷◌, ◌++◌, length, map, Option, arith, refl, sym, subst, ap, inl, inr, true≢false}
use Rattle.std.specs.Prelude.{Contains, filter_map}
use Rattle.std.specs.List.{cons_option, flat_map}
use Rattle.std.specs.Str.{bytes_eq}
use Rattle.std.proofs.lemmas.List.Elements.{Contains-append_cases, Contains-append_left, Contains-append_right}
use Rattle.std.proofs.lemmas.Slice.Eq.{bytes_eq-Decides}
use Rattle.bosh_alike.proofs.ElementLemmas.{first_or_other, here, none_in, there}

-- an element that is the first one
pub is_first : {X : Type 0} (x z : X) (xs : List X) → x ≡ z → Contains (x ∷ xs) z
is_first x z xs e = subst (λ w. Contains (x ∷ xs) w) e (here x xs)

first_or_later :
    {X Y : Type 0} (f : X → Y) (x : X) (y : Y) (xs : List X)
    → (Contains (map f xs) y → (z : X) × Contains xs z × (f z ≡ y)) → (f x ≡ y) ⊎ Contains (map f xs) y
    → (z : X) × Contains (x ∷ xs) z × (f z ≡ y)
first_or_later f x y xs more (inl e) = (x, here x xs, e)
first_or_later f x y xs more (inr c) = let found = more c in (found.0, there x found.0 xs found.1, found.2)

-- what a function gave, it gave of an element
pub mapped_from : {X Y : Type 0} (f : X → Y) (xs : List X) (y : Y) → Contains (map f xs) y → (z : X) × Contains xs z × (f z ≡ y)
mapped_from f [] y c = absurd (none_in y c)
mapped_from f (x ∷ xs) y c = first_or_later f x y xs (mapped_from f xs y) (first_or_other (f x) y (map f xs) c)

mapped_more :
    {X Y : Type 0} (f : X → Y) (x z : X) (xs : List X)
    → (Contains xs z → Contains (map f xs) (f z)) → (x ≡ z) ⊎ Contains xs z → Contains (f x ∷ map f xs) (f z)
mapped_more f x z xs more (inl e) = is_first (f x) (f z) (map f xs) (ap f e)
mapped_more f x z xs more (inr c) = there (f x) (f z) (map f xs) (more c)

pub mapped_into : {X Y : Type 0} (f : X → Y) (xs : List X) (z : X) → Contains xs z → Contains (map f xs) (f z)
mapped_into f [] z c = absurd (none_in z c)
mapped_into f (x ∷ xs) z c = mapped_more f x z xs (mapped_into f xs z) (first_or_other x z xs c)

in_first_or_later :
    {X Y : Type 0} (f : X → List Y) (x : X) (y : Y) (xs : List X)
    → (Contains (flat_map f xs) y → (z : X) × Contains xs z × Contains (f z) y) → Contains (f x) y ⊎ Contains (flat_map f xs) y
    → (z : X) × Contains (x ∷ xs) z × Contains (f z) y
in_first_or_later f x y xs more (inl c) = (x, here x xs, c)
in_first_or_later f x y xs more (inr c) = let found = more c in (found.0, there x found.0 xs found.1, found.2)

-- what stands in one of the lists that a function gave, stands in that of an element
pub flat_from : {X Y : Type 0} (f : X → List Y) (xs : List X) (y : Y) → Contains (flat_map f xs) y → (z : X) × Contains xs z × Contains (f z) y
flat_from f [] y c = absurd (none_in y c)
flat_from f (x ∷ xs) y c = in_first_or_later f x y xs (flat_from f xs y) (Contains-append_cases (f x) (flat_map f xs) y c)

flat_more :
    {X Y : Type 0} (f : X → List Y) (x z : X) (y : Y) (xs : List X) → Contains (f z) y
    → (Contains xs z → Contains (flat_map f xs) y) → (x ≡ z) ⊎ Contains xs z → Contains (f x ++ flat_map f xs) y
flat_more f x z y xs c more (inl e) = Contains-append_left (f x) (flat_map f xs) y (subst (λ w. Contains (f w) y) (sym e) c)
flat_more f x z y xs c more (inr d) = Contains-append_right (f x) (flat_map f xs) y (more d)

pub flat_into : {X Y : Type 0} (f : X → List Y) (xs : List X) (z : X) (y : Y) → Contains xs z → Contains (f z) y → Contains (flat_map f xs) y
flat_into f [] z y c d = absurd (none_in z c)
flat_into f (x ∷ xs) z y c d = flat_more f x z y xs d (λ c. flat_into f xs z y c d) (first_or_other x z xs c)

-- functions that give the same of each element give the same list
pub given_same : {X Y : Type 0} (f g : X → Option Y) (xs : List X) → ((x : X) → Contains xs x → f x ≡ g x) → filter_map f xs ≡ filter_map g xs
given_same f g [] same = refl
given_same f g (x ∷ xs) same =
    let first : f x ≡ g x = same x (here x xs) in
    let rest : filter_map f xs ≡ filter_map g xs = given_same f g xs (λ z c. same z (there x z xs c)) in
    λ i. cons_option (first i) (rest i)

-- ---- names without one

abbrev pub without : List ℕ → List (List ℕ) → List (List ℕ)
without name [] = []
without name (x ∷ xs) = cond (bytes_eq x name) (without name xs) (x ∷ without name xs)

no_longer : (name : List ℕ) (xs : List (List ℕ)) → length (without name xs) ≤ length xs
no_longer name [] = omega arith
no_longer name (x ∷ xs) = at (bytes_eq x name) (no_longer name xs)
  where
    at : (b : Bool) → length (without name xs) ≤ length xs → length (cond b (without name xs) (x ∷ without name xs)) ≤ suc (length xs)
    at true h = omega arith
    at false h = omega arith

pub shorter : (name : List ℕ) (xs : List (List ℕ)) → Contains xs name → suc (length (without name xs)) ≤ length xs
shorter name [] c = absurd (none_in name c)
shorter name (x ∷ xs) c = at (shorter name xs) (bytes_eq x name) refl (first_or_other x name xs c)
  where
    at : (Contains xs name → suc (length (without name xs)) ≤ length xs) → (b : Bool) → bytes_eq x name ≡ b → (x ≡ name) ⊎ Contains xs name
        → suc (length (cond b (without name xs) (x ∷ without name xs))) ≤ suc (length xs)
    at more true is e = let h = no_longer name xs in omega arith
    at more false is (inl e) = absurd (true≢false (sym ((bytes_eq-Decides x name).1 e) ∙ is))
    at more false is (inr c) = let h = more c in omega arith

pub kept : (name : List ℕ) (xs : List (List ℕ)) (other : List ℕ) → other ≢ name → Contains xs other → Contains (without name xs) other
kept name [] other apart c = absurd (none_in other c)
kept name (x ∷ xs) other apart c = at (bytes_eq x name) refl (kept name xs other apart) (first_or_other x other xs c)
  where
    at : (b : Bool) → bytes_eq x name ≡ b → (Contains xs other → Contains (without name xs) other) → (x ≡ other) ⊎ Contains xs other
        → Contains (cond b (without name xs) (x ∷ without name xs)) other
    at true is more (inl e) = absurd (apart (sym e ∙ (bytes_eq-Decides x name).0 is))
    at true is more (inr c) = more c
    at false is more (inl e) = is_first x other (without name xs) e
    at false is more (inr c) = there x other (without name xs) (more c)
