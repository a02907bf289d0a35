-- The first of several that passes a test.
use Rattle.std.proofs.Common.{◌≡◌, Bool, true, false, List, [], ◌∷◌, Some, cond, find, map, refl}
use Rattle.std.specs.Option.{option_map}

pub find-map :
    {A B : Type 0} (test : B → Bool) (f : A → B) (xs : List A)
    → find test (map f xs) ≡ option_map f (find (λ x. test (f x)) xs)
find-map test f [] = refl
find-map {A = A} {B = B} test f (x ∷ xs) = by (test (f x)) (find-map test f xs)
  where
    by :
        (is : Bool) → find test (map f xs) ≡ option_map f (find (λ y. test (f y)) xs)
        → cond is (Some (f x)) (find test (map f xs)) ≡ option_map f (cond is (Some x) (find (λ y. test (f y)) xs))
    by true more = refl
    by false more = more
