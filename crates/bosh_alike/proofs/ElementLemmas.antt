-- Elements of lists, and of what is found in them.
use Rattle.std.proofs.Common.{◌≡◌, ℕ, zero, suc, ◌<◌, Bool, true, false, ◌||◌, cond, List, [], ◌∷◌, ◌++◌, length, get_or, Option, Some, None, arith, refl, sym, subst, ap, inl, inr, ◌⊎◌}
use Rattle.std.specs.Prelude.{Contains, filter_map, find}
use Rattle.std.specs.List.{cons_option, list_all, list_any}
use Rattle.std.proofs.lemmas.Bool.{and_parts, and_from}

pub here : {X : Type 0} (x : X) (xs : List X) → Contains (x ∷ xs) x
here x xs = (0, omega arith, refl)

pub there : {X : Type 0} (x y : X) (xs : List X) → Contains xs y → Contains (x ∷ xs) y
there x y xs c = let l = c.1 in (suc c.0, omega arith, c.2)

at_place : {X : Type 0} (x z : X) (xs : List X) (k : ℕ) → k < length (x ∷ xs) → get_or (x ∷ xs) k z ≡ z → (x ≡ z) ⊎ Contains xs z
at_place x z xs zero l e = inl e
at_place x z xs (suc k) l e = inr (k, omega arith, e)

-- an element is the first one or one of the others
pub first_or_other : {X : Type 0} (x z : X) (xs : List X) → Contains (x ∷ xs) z → (x ≡ z) ⊎ Contains xs z
first_or_other x z xs c = at_place x z xs c.0 c.1 c.2

is_first : {X : Type 0} (x z : X) (xs : List X) → x ≡ z → Contains (x ∷ xs) z
is_first x z xs e = subst (λ w. Contains (x ∷ xs) w) e (here x xs)

pub none_in : {X : Type 0} (z : X) → Contains [] z → ⊥
none_in z c = let l = c.1 in omega arith

before_more : {X : Type 0} (x z : X) (xs ys : List X) → (Contains xs z → Contains ys z) → (x ≡ z) ⊎ Contains xs z → Contains (x ∷ ys) z
before_more x z xs ys more (inl e) = is_first x z ys e
before_more x z xs ys more (inr c) = there x z ys (more c)

pub in_front : {X : Type 0} (xs ys : List X) (z : X) → Contains xs z → Contains (xs ++ ys) z
in_front [] ys z c = absurd (none_in z c)
in_front (x ∷ xs) ys z c = before_more x z xs (xs ++ ys) (in_front xs ys z) (first_or_other x z xs c)

pub at_end : {X : Type 0} (xs : List X) (z : X) → Contains (xs ++ z ∷ []) z
at_end [] z = here z []
at_end (x ∷ xs) z = there x z (xs ++ z ∷ []) (at_end xs z)

later_or_last : {X : Type 0} (x y z : X) (xs : List X) → Contains xs z ⊎ (y ≡ z) → Contains (x ∷ xs) z ⊎ (y ≡ z)
later_or_last x y z xs (inl c) = inl (there x z xs c)
later_or_last x y z xs (inr e) = inr e

first_or_last : {X : Type 0} (x y z : X) (xs : List X) → (Contains (xs ++ y ∷ []) z → Contains xs z ⊎ (y ≡ z)) → (x ≡ z) ⊎ Contains (xs ++ y ∷ []) z → Contains (x ∷ xs) z ⊎ (y ≡ z)
first_or_last x y z xs more (inl e) = inl (is_first x z xs e)
first_or_last x y z xs more (inr c) = later_or_last x y z xs (more c)

only : {X : Type 0} (y z : X) → (y ≡ z) ⊎ Contains [] z → Contains [] z ⊎ (y ≡ z)
only y z (inl e) = inr e
only y z (inr c) = inl c

pub before_or_last : {X : Type 0} (xs : List X) (y z : X) → Contains (xs ++ y ∷ []) z → Contains xs z ⊎ (y ≡ z)
before_or_last [] y z c = only y z (first_or_other y z [] c)
before_or_last (x ∷ xs) y z c = first_or_last x y z xs (before_or_last xs y z) (first_or_other x z (xs ++ y ∷ []) c)

-- ---- tests of all and of some

passes : {X : Type 0} (p : X → Bool) (x z : X) (xs : List X) → p x ≡ true → (Contains xs z → p z ≡ true) → (x ≡ z) ⊎ Contains xs z → p z ≡ true
passes p x z xs first more (inl e) = subst (λ w. p w ≡ true) e first
passes p x z xs first more (inr c) = more c

pub all_at : {X : Type 0} (p : X → Bool) (xs : List X) (z : X) → list_all p xs ≡ true → Contains xs z → p z ≡ true
all_at p [] z h c = absurd (none_in z c)
all_at p (x ∷ xs) z h c =
    let parts = and_parts (p x) (list_all p xs) h in
    passes p x z xs parts.0 (all_at p xs z parts.1) (first_or_other x z xs c)

pub all_from : {X : Type 0} (p : X → Bool) (xs : List X) → ((z : X) → Contains xs z → p z ≡ true) → list_all p xs ≡ true
all_from p [] h = refl
all_from p (x ∷ xs) h = and_from (p x) (list_all p xs) (h x (here x xs)) (all_from p xs (λ z c. h z (there x z xs c)))

some_at_first : {X : Type 0} (p : X → Bool) (x : X) (xs : List X) (b : Bool) → p x ≡ b → (b || list_any p xs) ≡ true
    → (list_any p xs ≡ true → (z : X) × Contains xs z × (p z ≡ true)) → (z : X) × Contains (x ∷ xs) z × (p z ≡ true)
some_at_first p x xs true e h more = (x, here x xs, e)
some_at_first p x xs false e h more = let found = more h in (found.0, there x found.0 xs found.1, found.2)

pub some_at : {X : Type 0} (p : X → Bool) (xs : List X) → list_any p xs ≡ true → (z : X) × Contains xs z × (p z ≡ true)
some_at p [] h = cc
some_at p (x ∷ xs) h = some_at_first p x xs (p x) refl h (some_at p xs)

or_right : (b c : Bool) → c ≡ true → (b || c) ≡ true
or_right true c h = refl
or_right false c h = h

some_of : {X : Type 0} (p : X → Bool) (x z : X) (xs : List X) → p z ≡ true → (Contains xs z → list_any p xs ≡ true) → (x ≡ z) ⊎ Contains xs z → (p x || list_any p xs) ≡ true
some_of p x z xs h more (inl e) = ap (λ b. b || list_any p xs) (subst (λ w. p w ≡ true) (sym e) h)
some_of p x z xs h more (inr c) = or_right (p x) (list_any p xs) (more c)

pub some_from : {X : Type 0} (p : X → Bool) (xs : List X) (z : X) → Contains xs z → p z ≡ true → list_any p xs ≡ true
some_from p [] z c h = absurd (none_in z c)
some_from p (x ∷ xs) z c h = some_of p x z xs h (λ c. some_from p xs z c h) (first_or_other x z xs c)

-- ---- what is found, and what is given of each

some_is : {X : Type 0} (a b : X) → ◌≡◌ {A = Option X} (Some a) (Some b) → a ≡ b
some_is a b h = cc

find_at_first : {X : Type 0} (p : X → Bool) (x z : X) (xs : List X) (b : Bool) → p x ≡ b → cond b (Some x) (find p xs) ≡ Some z
    → (find p xs ≡ Some z → Contains xs z × (p z ≡ true)) → Contains (x ∷ xs) z × (p z ≡ true)
find_at_first p x z xs true e h more = let same = some_is x z h in (is_first x z xs same, subst (λ w. p w ≡ true) same e)
find_at_first p x z xs false e h more = let found = more h in (there x z xs found.0, found.1)

pub find_at : {X : Type 0} (p : X → Bool) (xs : List X) (z : X) → find p xs ≡ Some z → Contains xs z × (p z ≡ true)
find_at p [] z h = cc
find_at p (x ∷ xs) z h = find_at_first p x z xs (p x) refl h (find_at p xs z)

find_none_first : {X : Type 0} (p : X → Bool) (x z : X) (xs : List X) (b : Bool) → p x ≡ b → cond b (Some x) (find p xs) ≡ None → p z ≡ true
    → (find p xs ≡ None → Contains xs z → ⊥) → (x ≡ z) ⊎ Contains xs z → ⊥
find_none_first p x z xs true e h t more c = cc
find_none_first p x z xs false e h t more (inl same) = let u : p z ≡ false = subst (λ w. p w ≡ false) same e in cc
find_none_first p x z xs false e h t more (inr c) = more h c

pub find_none : {X : Type 0} (p : X → Bool) (xs : List X) (z : X) → find p xs ≡ None → Contains xs z → p z ≡ true → ⊥
find_none p [] z h c t = none_in z c
find_none p (x ∷ xs) z h c t = find_none_first p x z xs (p x) refl h t (λ h c. find_none p xs z h c t) (first_or_other x z xs c)

given_first : {X Y : Type 0} (f : X → Option Y) (x : X) (w y : Y) (xs : List X) → f x ≡ Some w
    → (Contains (filter_map f xs) y → (z : X) × Contains xs z × (f z ≡ Some y)) → (w ≡ y) ⊎ Contains (filter_map f xs) y → (z : X) × Contains (x ∷ xs) z × (f z ≡ Some y)
given_first f x w y xs e more (inl same) = (x, here x xs, subst (λ v. f x ≡ Some v) same e)
given_first f x w y xs e more (inr c) = let found = more c in (found.0, there x found.0 xs found.1, found.2)

given_of : {X Y : Type 0} (f : X → Option Y) (x : X) (y : Y) (xs : List X) (o : Option Y) → f x ≡ o
    → (Contains (filter_map f xs) y → (z : X) × Contains xs z × (f z ≡ Some y)) → Contains (cons_option o (filter_map f xs)) y → (z : X) × Contains (x ∷ xs) z × (f z ≡ Some y)
given_of f x y xs None e more c = let found = more c in (found.0, there x found.0 xs found.1, found.2)
given_of f x y xs (Some w) e more c = given_first f x w y xs e more (first_or_other w y (filter_map f xs) c)

pub given_from : {X Y : Type 0} (f : X → Option Y) (xs : List X) (y : Y) → Contains (filter_map f xs) y → (x : X) × Contains xs x × (f x ≡ Some y)
given_from f [] y c = absurd (none_in y c)
given_from f (x ∷ xs) y c = given_of f x y xs (f x) refl (given_from f xs y) c

behind_one : {Y : Type 0} (o : Option Y) (y : Y) (ys : List Y) → Contains ys y → Contains (cons_option o ys) y
behind_one None y ys c = c
behind_one (Some v) y ys c = there v y ys c

one_more : {X Y : Type 0} (f : X → Option Y) (w x : X) (y : Y) (xs : List X) → f x ≡ Some y
    → (Contains xs x → Contains (filter_map f xs) y) → (w ≡ x) ⊎ Contains xs x → Contains (cons_option (f w) (filter_map f xs)) y
one_more f w x y xs e more (inl same) =
    let first : Some y ≡ f w = sym (subst (λ v. f v ≡ Some y) (sym same) e) in
    subst (λ o. Contains (cons_option o (filter_map f xs)) y) first (here y (filter_map f xs))
one_more f w x y xs e more (inr c) = behind_one (f w) y (filter_map f xs) (more c)

pub given_into : {X Y : Type 0} (f : X → Option Y) (xs : List X) (x : X) (y : Y) → Contains xs x → f x ≡ Some y → Contains (filter_map f xs) y
given_into f [] x y c e = absurd (none_in x c)
given_into f (w ∷ xs) x y c e = one_more f w x y xs e (λ c. given_into f xs x y c e) (first_or_other w x xs c)
