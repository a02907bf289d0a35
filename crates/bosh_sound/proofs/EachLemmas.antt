-- What holds of each of the first elements of a list, and of the one case of an answer.
use Rattle.std.proofs.Common.{◌≡◌, sym, subst, ap, ◌∙◌, arith, ℕ, ◌+◌, ◌<◌, ◌≤◌, List, [], ◌∷◌, ◌++◌, Option, Some, None, Result, Ok, Err, length, get_or, take}
use Rattle.std.specs.Prelude.{IfOk, MatchOption}
use Rattle.std.specs.List.{All, Contains}
use Rattle.std.proofs.lemmas.List.{get_or-take, length-take, take_all, take_more}
use Rattle.std.proofs.lemmas.List.Elements.{All-append, All-cons, All-nil}

-- the first elements with the one that was read next
pub read_more :
    {X : Type 0} (xs : List X) (i : ℕ) (x : X) → i < length xs → x ≡ get_or xs i x
    → take (i + 1) xs ≡ take i xs ++ x ∷ []
read_more xs i x low at = take_more xs i x low ∙ ap (λ y. take i xs ++ y ∷ []) (sym at)

pub all_more :
    {X : Type 0} (P : X → Type 0) (xs : List X) (i : ℕ) (x : X) → i < length xs → x ≡ get_or xs i x → P x
    → All P (take i xs) → All P (take (i + 1) xs)
all_more {X} P xs i x low at p all =
    subst (λ (ys : List X). All P ys) (sym (read_more xs i x low at))
    (All-append P (take i xs) (x ∷ []) all (All-cons P x [] p (All-nil P)))

pub all_taken : {X : Type 0} (P : X → Type 0) (xs : List X) (i : ℕ) → length xs ≤ i → All P (take i xs) → All P xs
all_taken {X} P xs i past all = subst (λ (ys : List X). All P ys) (take_all i xs past) all

pub not_all :
    {X : Type 0} (P : X → Type 0) (xs : List X) (i : ℕ) (x : X) → i < length xs → x ≡ get_or xs i x → (P x → ⊥)
    → All P xs → ⊥
not_all P xs i x low at none all = none (subst P (sym at) (all i x low))

-- an element of the first ones is one of all
pub of_first : {X : Type 0} (xs : List X) (n : ℕ) (x : X) → Contains (take n xs) x → Contains xs x
of_first xs n x (k, within, is) =
    let low : k < n = omega (arith, within, length-take n xs) in
    (k, omega (arith, within, length-take n xs), sym (get_or-take n xs k x low) ∙ is)

-- ---- what is known of the one case

pub none_of : {X : Type 0} (o : Option X) (N : Type 0) (S : X → Type 0) → o ≡ None → MatchOption o N S → N
none_of (Some x) N S is h = absurd cc
none_of None N S is h = h

pub some_of : {X : Type 0} (o : Option X) (x : X) (N : Type 0) (S : X → Type 0) → o ≡ Some x → MatchOption o N S → S x
some_of (Some y) x N S is h = let same : y ≡ x = cc in subst S same h
some_of None x N S is h = absurd cc

pub ok_weaker :
    {X E : Type 0} (r : Result X E) (P Q : X → Type 0) → ((x : X) → P x → Q x) → IfOk r P → IfOk r Q
ok_weaker (Ok x) P Q f h = f x h
ok_weaker (Err e) P Q f h = tt
