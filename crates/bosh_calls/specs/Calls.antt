-- Which calls are open, and which of them were performed.
use Rattle.std.specs.Prelude.{ℕ, ◌==◌, Bool, false, not, is_some, if◌then◌else◌, List, [], ◌∷◌, ◌++◌, filter, find, map, Option, Some, None}
use Rattle.std.specs.Option.{option_and_then}
use Rattle.bosh_calls.specs.declared.calls.OpenCall.{OpenCall}

-- the call of a number
abbrev pub is_of : ℕ → OpenCall → Bool
is_of n it = it.n == n

-- another one
abbrev pub is_other : ℕ → OpenCall → Bool
is_other n it = not (it.n == n)

-- a call that has begun
abbrev pub begun : ℕ → OpenCall
begun n = record { n = n; place = None }

-- a call, where the one of a number was performed, as the move at a place tells
abbrev pub performed : ℕ → ℕ → OpenCall → OpenCall
performed n place it = if it.n == n then record it { place = Some place } else it

-- all calls, where one was performed
abbrev pub with_performed : ℕ → ℕ → List OpenCall → List OpenCall
with_performed n place calls = map (performed n place) calls

-- all calls but one
abbrev pub without : ℕ → List OpenCall → List OpenCall
without n calls = filter (is_other n) calls

-- all calls, where one has begun
abbrev pub with_begun : ℕ → List OpenCall → List OpenCall
with_begun n calls = without n calls ++ begun n ∷ []

-- it is there, and was not performed
abbrev pub is_free : Option OpenCall → Bool
is_free (Some it) = not (is_some it.place)
is_free None = false

-- the call of a number is open, and was not performed
abbrev pub is_performable : List OpenCall → ℕ → Bool
is_performable calls n = is_free (find (is_of n) calls)

-- the place of the move that tells how a call was performed
abbrev pub place_of : List OpenCall → ℕ → Option ℕ
place_of calls n = option_and_then (λ it. it.place) (find (is_of n) calls)
