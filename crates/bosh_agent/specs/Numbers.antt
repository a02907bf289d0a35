-- Lists of numbers in rising order, each at most once.
use Rattle.std.specs.Prelude.{ℕ, ◌==◌, Bool, not, List, ◌∷◌, ◌++◌, nat_lt, filter}
use Rattle.std.specs.List.{list_any}

-- whether a number is in a list
abbrev pub has : ℕ → List ℕ → Bool
has number numbers = list_any (λ x. x == number) numbers

-- the list with a number: the smaller ones, the number, the greater ones
abbrev pub with_number : ℕ → List ℕ → List ℕ
with_number number numbers = filter (λ x. nat_lt x number) numbers ++ number ∷ filter (λ x. nat_lt number x) numbers

-- the list without a number
abbrev pub without_number : ℕ → List ℕ → List ℕ
without_number number numbers = filter (λ x. not (x == number)) numbers
