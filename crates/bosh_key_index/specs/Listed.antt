-- Which numbers stand under which keys.
use Rattle.std.specs.Prelude.{◌≡◌, ◌⊎◌, ℕ, ◌≤◌, ◌<◌, ◌==◌, Bool, true, false, not, ◌&&◌, ◌||◌, List, Option, Some, None}
use Rattle.std.specs.List.{list_any}

-- it is this key and this number
abbrev pub is_pair : ℕ → ℕ → ℕ × ℕ → Bool
is_pair key number pair = pair.0 == key && pair.1 == number

-- a number stands under a key
abbrev pub is_listed : List (ℕ × ℕ) → ℕ → ℕ → Bool
is_listed index key number = list_any (is_pair key number) index

-- a number stands under a key from now on, and all others stay
abbrev pub Adds : List (ℕ × ℕ) → ℕ → ℕ → List (ℕ × ℕ) → Type 0
Adds was key number now = (k n : ℕ) → is_listed now k n ≡ (is_pair key number (k, n) || is_listed was k n)

-- a number stands under a key no more, and all others stay
abbrev pub Removes : List (ℕ × ℕ) → ℕ → ℕ → List (ℕ × ℕ) → Type 0
Removes was key number now = (k n : ℕ) → is_listed now k n ≡ (not (is_pair key number (k, n)) && is_listed was k n)

-- the least number under a key, or that there is none
abbrev pub IsLeast : List (ℕ × ℕ) → ℕ → Option ℕ → Type 0
IsLeast index key (Some number) =
    (is_listed index key number ≡ true) × ((n : ℕ) → is_listed index key n ≡ true → number ≤ n)
IsLeast index key None = (n : ℕ) → is_listed index key n ≡ false

-- a pair stands before another or is it: its key is less, or the keys are one and its number is at most the other
abbrev pub IsUpTo : ℕ × ℕ → ℕ × ℕ → Type 0
IsUpTo pair other = (pair.0 < other.0) ⊎ ((pair.0 ≡ other.0) × (pair.1 ≤ other.1))

-- the first pair of a key or of a greater one, or that there is none
abbrev pub IsFirstFrom : List (ℕ × ℕ) → ℕ → Option (ℕ × ℕ) → Type 0
IsFirstFrom index key (Some first) =
    (is_listed index first.0 first.1 ≡ true)
    × (key ≤ first.0)
    × ((k n : ℕ) → key ≤ k → is_listed index k n ≡ true → IsUpTo first (k, n))
IsFirstFrom index key None = (k n : ℕ) → key ≤ k → is_listed index k n ≡ false
