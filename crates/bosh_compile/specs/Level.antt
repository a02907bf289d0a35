-- How deep the dependencies of a work go among the works of a list (this project's profile of the order of compilation).
use Rattle.std.specs.Prelude.{◌≡◌, ℕ, suc, ◌<◌, max, Bool, if◌then◌else◌, List, [], ◌∷◌, All, Contains}
use Rattle.bosh_base.specs.declared.key.KeyWork.{KeyWork}
use Rattle.bosh_compile.specs.Readiness.{is_among}

-- the first work needs the second compiled before
abbrev pub Needs : KeyWork → KeyWork → Type 0
Needs work other = Contains work.deps other.key

-- the same as a test
abbrev pub needs : KeyWork → KeyWork → Bool
needs work other = is_among other.key work.deps

-- the greatest number that f gives, 0 where there is none
abbrev pub greatest : {X : Type 0} → (X → ℕ) → List X → ℕ
greatest f [] = 0
greatest f (x ∷ xs) = max (f x) (greatest f xs)

-- one more than the greatest level of a listed dependency of the work, 0 where it has none
abbrev pub one_above : List KeyWork → (KeyWork → ℕ) → KeyWork → ℕ
one_above works level work = greatest (λ other. if needs work other then suc (level other) else 0) works

-- the levels of the works: each is one more than the greatest of its listed dependencies
abbrev pub IsLevel : List KeyWork → (KeyWork → ℕ) → Type 0
IsLevel works level = All (λ work. level work ≡ one_above works level work) works

-- each chain of listed dependencies that begins with the work ends
pub data IsGrounded (works : List KeyWork) : KeyWork → Type 0 where
  grounded : (work : KeyWork) → ((other : KeyWork) → Contains works other → Needs work other → IsGrounded works other) → IsGrounded works work

-- the dependencies have no cycle
abbrev pub IsAcyclic : List KeyWork → Type 0
IsAcyclic works = All (IsGrounded works) works

-- the rank falls from each work to each listed one that it needs
abbrev pub Falls : (KeyWork → ℕ) → List KeyWork → Type 0
Falls rank works = (work other : KeyWork) → Contains works work → Contains works other → Needs work other → rank other < rank work
