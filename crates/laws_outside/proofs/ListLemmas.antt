-- Tests of lists, and what they tell.
use Rattle.std.proofs.Common.{◌≡◌, ⊎_elim, ◌∙◌, ap, refl, sym, subst, arith, ℕ, suc, ◌<◌, ◌≤◌, Bool, true, false, ◌&&◌, cond, List, [], ◌∷◌, length, get_or}
use Rattle.std.specs.Prelude.{All, Contains, filter}
use Rattle.std.specs.List.{list_all}
use Rattle.std.specs.Str.{bytes_eq}
use Rattle.std.proofs.lemmas.List.Elements.{All-contains, Contains-get_or}
use Rattle.std.proofs.lemmas.Slice.Eq.{bytes_eq-Decides}
use Rattle.bosh_alike.proofs.ElementLemmas.{all_at, all_from, first_or_other, here, none_in, some_at, some_from, there}
use Rattle.bosh_base.specs.declared.release.PackageSpec.{PackageSpec}
use Rattle.bosh_release.specs.Sound.{names_of}
use Rattle.laws_outside.specs.Packages.{is_one_of}

-- ---- tests of all

pub all_of : {X : Type 0} (p : X → Bool) (P : X → Type 0) → ((x : X) → p x ≡ true → P x) → (xs : List X) → list_all p xs ≡ true → All P xs
all_of p P tells xs h = λ k d lt. tells (get_or xs k d) (all_at p xs (get_or xs k d) h (Contains-get_or xs k d lt))

pub of_all : {X : Type 0} (p : X → Bool) (P : X → Type 0) → ((x : X) → P x → p x ≡ true) → (xs : List X) → All P xs → list_all p xs ≡ true
of_all p P tells xs all = all_from p xs (λ x c. tells x (All-contains P xs x all c))

-- ---- texts

pub one_of : (texts : List (List ℕ)) (text : List ℕ) → is_one_of texts text ≡ true → Contains texts text
one_of texts text h =
    let found = some_at (λ it. bytes_eq it text) texts h in
    subst (λ t. Contains texts t) ((bytes_eq-Decides found.0 text).0 found.2) found.1

pub of_one : (texts : List (List ℕ)) (text : List ℕ) → Contains texts text → is_one_of texts text ≡ true
of_one texts text c = some_from (λ it. bytes_eq it text) texts text c ((bytes_eq-Decides text text).1 refl)

-- ---- names of packages

pub named : (packages : List PackageSpec) (name : List ℕ) → Contains (names_of packages) name
    → (pack : PackageSpec) × Contains packages pack × (pack.name ≡ name)
named [] name c = absurd (none_in name c)
named (first ∷ packages) name c =
    ⊎_elim
    (λ (same : first.name ≡ name). (first, here first packages, same))
    (λ (later : Contains (names_of packages) name).
    let more = named packages name later in (more.0, there first more.0 packages more.1, more.2))
    (first_or_other first.name name (names_of packages) c)

pub name_in : (packages : List PackageSpec) (pack : PackageSpec) → Contains packages pack → Contains (names_of packages) pack.name
name_in [] pack c = absurd (none_in pack c)
name_in (first ∷ packages) pack c =
    ⊎_elim
    (λ (same : first ≡ pack). subst (λ (p : PackageSpec). Contains (names_of (first ∷ packages)) p.name) same (here first.name (names_of packages)))
    (λ (later : Contains packages pack). there first.name pack.name (names_of packages) (name_in packages pack later))
    (first_or_other first pack packages c)

-- ---- what passes a test

kept_first : {X : Type 0} (p : X → Bool) (x z : X) (xs : List X) (b : Bool) → p x ≡ b
    → (Contains (filter p xs) z → Contains xs z × (p z ≡ true)) → Contains (cond b (x ∷ filter p xs) (filter p xs)) z
    → Contains (x ∷ xs) z × (p z ≡ true)
kept_first p x z xs true e more c =
    ⊎_elim
    (λ (same : x ≡ z). (subst (λ w. Contains (x ∷ xs) w) same (here x xs), subst (λ w. p w ≡ true) same e))
    (λ (later : Contains (filter p xs) z). let found = more later in (there x z xs found.0, found.1))
    (first_or_other x z (filter p xs) c)
kept_first p x z xs false e more c = let found = more c in (there x z xs found.0, found.1)

pub kept_from : {X : Type 0} (p : X → Bool) (xs : List X) (z : X) → Contains (filter p xs) z → Contains xs z × (p z ≡ true)
kept_from p [] z c = absurd (none_in z c)
kept_from p (x ∷ xs) z c = kept_first p x z xs (p x) refl (kept_from p xs z) c

keeps_first : {X : Type 0} (p : X → Bool) (x z : X) (xs : List X) (b : Bool) → p x ≡ b → p z ≡ true
    → (Contains xs z → Contains (filter p xs) z) → Contains (x ∷ xs) z → Contains (cond b (x ∷ filter p xs) (filter p xs)) z
keeps_first p x z xs true e passes more c =
    ⊎_elim
    (λ (same : x ≡ z). subst (λ w. Contains (x ∷ filter p xs) w) same (here x (filter p xs)))
    (λ (later : Contains xs z). there x z (filter p xs) (more later))
    (first_or_other x z xs c)
keeps_first p x z xs false e passes more c =
    ⊎_elim
    (λ (same : x ≡ z). let no : false ≡ true = sym e ∙ (ap p same ∙ passes) in absurd cc)
    (λ (later : Contains xs z). more later)
    (first_or_other x z xs c)

pub kept_into : {X : Type 0} (p : X → Bool) (xs : List X) (z : X) → Contains xs z → p z ≡ true → Contains (filter p xs) z
kept_into p [] z c passes = absurd (none_in z c)
kept_into p (x ∷ xs) z c passes = keeps_first p x z xs (p x) refl passes (λ c. kept_into p xs z c passes) c

shorter_first : {X : Type 0} (x : X) (ys : List X) (n : ℕ) (b : Bool) → length ys ≤ n → length (cond b (x ∷ ys) ys) ≤ suc n
shorter_first x ys n true le = omega (arith, le)
shorter_first x ys n false le = omega (arith, le)

pub shorter : {X : Type 0} (p : X → Bool) (xs : List X) → length (filter p xs) ≤ length xs
shorter p [] = omega arith
shorter p (x ∷ xs) = shorter_first x (filter p xs) (length xs) (p x) (shorter p xs)

less_first : {X : Type 0} (p : X → Bool) (x : X) (xs : List X) (b : Bool) → p x ≡ b → (b && list_all p xs) ≡ false
    → (list_all p xs ≡ false → length (filter p xs) < length xs) → length (cond b (x ∷ filter p xs) (filter p xs)) < suc (length xs)
less_first p x xs true e h more = let less = more h in omega (arith, less)
less_first p x xs false e h more = let le = shorter p xs in omega (arith, le)

-- what does not pass whole becomes less
pub less : {X : Type 0} (p : X → Bool) (xs : List X) → list_all p xs ≡ false → length (filter p xs) < length xs
less p [] h = absurd cc
less p (x ∷ xs) h = less_first p x xs (p x) refl h (less p xs)
