-- The lines of a list of things, one after another.
use Rattle.std.proofs.Common.{◌≡◌, ◌∙◌, ap, ℕ, ◌+◌, ◌<◌, List, [], ◌∷◌, ◌++◌, map, take, length, get_or, append-nil, append_assoc}
use Rattle.std.proofs.lemmas.List.{take_more}
use Rattle.std.proofs.lemmas.List.Concat.{flat_map-append}
use Rattle.bosh_release_listing.specs.Lines.{line, text_of}

map-append : {A B : Type 0} (f : A → B) (xs ys : List A) → map f (xs ++ ys) ≡ map f xs ++ map f ys
map-append f [] ys = cc
map-append f (x ∷ xs) ys = ap (λ zs. f x ∷ zs) (map-append f xs ys)

pub text_append : (a b : List (List ℕ)) → text_of (a ++ b) ≡ text_of a ++ text_of b
text_append a b = flat_map-append line a b

-- the lines of one thing more
pub lines_more :
    {A B : Type 0} (f : B → List ℕ) (g : A → B) (xs : List A) (i : ℕ) (d : A) → i < length xs
    → text_of (map f (map g (take (i + 1) xs))) ≡ text_of (map f (map g (take i xs))) ++ line (f (g (get_or xs i d)))
lines_more f g xs i d in' =
    let x = get_or xs i d in
    ap (λ ys. text_of (map f (map g ys))) (take_more xs i d in')
    ∙ ap (λ ys. text_of (map f ys)) (map-append g (take i xs) (x ∷ []))
    ∙ ap text_of (map-append f (map g (take i xs)) (g x ∷ []))
    ∙ text_append (map f (map g (take i xs))) (f (g x) ∷ [])
    ∙ ap (λ ys. text_of (map f (map g (take i xs))) ++ ys) (append-nil (line (f (g x))))

-- three lines, and more
pub text_three :
    (a b c : List ℕ) (more : List (List ℕ))
    → ((line a ++ line b) ++ line c) ++ text_of more ≡ text_of (a ∷ b ∷ c ∷ more)
text_three a b c more =
    append_assoc (line a ++ line b) (line c) (text_of more)
    ∙ append_assoc (line a) (line b) (line c ++ text_of more)
