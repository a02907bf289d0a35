-- How what is gathered grows.
use Rattle.std.proofs.Common.{◌≡◌, ◌∙◌, ℕ, ◌+◌, ◌<◌, List, [], ◌∷◌, ◌++◌, Option, Some, None, length, get_or, take, filter_map, refl, sym, ap, append_assoc}
use Rattle.std.specs.List.{flat_map}
use Rattle.std.specs.Option.{option_to_list}
use Rattle.std.proofs.lemmas.Grind.{flat_map-append}
use Rattle.std.proofs.lemmas.List.{append-nil, take_more}
use Rattle.std.proofs.lemmas.List.Elements.{filter_map-append}

longer : {X : Type 0} (xs : List X) (i : ℕ) (x : X) → i < length xs → x ≡ get_or xs i x → take (i + 1) xs ≡ take i xs ++ x ∷ []
longer xs i x within is = take_more xs i x within ∙ ap (λ y. take i xs ++ y ∷ []) (sym is)

one : {X A : Type 0} (f : X → Option A) (x : X) → filter_map f (x ∷ []) ≡ option_to_list (f x)
one {A = A} f x = by (f x)
  where
    by : (found : Option A) → Rattle.std.specs.List.cons_option found [] ≡ option_to_list found
    by None = refl
    by (Some a) = refl

-- what one more link gives, if anything
pub filtered-more :
    {X A : Type 0} (f : X → Option A) (xs : List X) (i : ℕ) (x : X) (start old new : List A)
    → i < length xs → x ≡ get_or xs i x → old ≡ start ++ filter_map f (take i xs) → new ≡ old ++ option_to_list (f x)
    → new ≡ start ++ filter_map f (take (i + 1) xs)
filtered-more f xs i x start old new within is so_far grown =
    grown ∙ (ap (λ items. items ++ option_to_list (f x)) so_far ∙ (append_assoc start (filter_map f (take i xs)) (option_to_list (f x))
    ∙ ap (λ more. start ++ more)
    (ap (λ more. filter_map f (take i xs) ++ more) (sym (one f x)) ∙ (sym (filter_map-append f (take i xs) (x ∷ []))
    ∙ ap (filter_map f) (sym (longer xs i x within is))))))

-- all that one more job or group gives
pub flat-more :
    {X A : Type 0} (f : X → List A) (xs : List X) (i : ℕ) (x : X) (start old new : List A)
    → i < length xs → x ≡ get_or xs i x → old ≡ start ++ flat_map f (take i xs) → new ≡ old ++ f x
    → new ≡ start ++ flat_map f (take (i + 1) xs)
flat-more f xs i x start old new within is so_far grown =
    grown ∙ (ap (λ items. items ++ f x) so_far ∙ (append_assoc start (flat_map f (take i xs)) (f x)
    ∙ ap (λ more. start ++ more)
    (ap (λ more. flat_map f (take i xs) ++ more) (sym (append-nil (f x))) ∙ (sym (flat_map-append f (take i xs) (x ∷ []))
    ∙ ap (flat_map f) (sym (longer xs i x within is))))))
